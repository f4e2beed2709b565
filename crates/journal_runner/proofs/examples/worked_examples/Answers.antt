use Rattle.std.proofs.Common.{[], ◌∷◌, ◌++◌, false, inl, inr, lit<, refl}
use Rattle.std.specs.Fmt.{digits}
use Rattle.trace_bin.specs.Grammar.{front_fault}
use Rattle.trace_bin.specs.Record.{is_whole as is_whole_body}
use Rattle.trace_bin.specs.Spelling.{counted}
use Rattle.trace_text.specs.Limits.{is_image, is_known, lies_in_ram}
use Rattle.journal_bytes.specs.Examples.{boot_bytes, magic_bytes, whole_bytes}
use Rattle.journal_bytes.specs.Record.{behind, is_whole, kind_tagged, listed_in, regs_in}
use Rattle.journal_bytes.specs.Rules.{added, after_record, behind_record, record_rules, rules_of}
use Rattle.journal_bytes.specs.Spelling.{event_record, read_bytes}
use Rattle.journal_bytes.proofs.Trying.{rest_after, told_after}
use Rattle.journal_runner.specs.Examples.{answered_with}
use Rattle.journal_runner.proofs.examples.worked_examples.Goals as goal

pub returns : goal.returns
unfolding digits front_fault is_whole_body counted is_image is_known lies_in_ram behind is_whole kind_tagged listed_in regs_in added after_record behind_record record_rules rules_of event_record read_bytes
returns c = record {
  recorded = refl;
  nothing = refl;
  legal = record {
    alone = record {
      spelled = record { begins = refl; count = 3; keyed = false; behind = []; spelled = (refl, (refl, (refl, (refl, refl)))); used_is = refl; records_is = refl };
      nothing_behind = refl;
    };
    is_verdict = c.verdict_examples.ensures.is_legal;
  };
  illegal = record {
    alone = record {
      spelled = record { begins = refl; count = 3; keyed = false; behind = []; spelled = (refl, (refl, (refl, (refl, refl)))); used_is = refl; records_is = refl };
      nothing_behind = refl;
    };
    is_verdict = c.verdict_examples.ensures.is_illegal;
  };
  legal_line = refl;
  illegal_line = refl;
  more = inr (record {
    whole = answered_with 0xa5d5c51b;
    spelled = record { begins = refl; count = 3; keyed = false; behind = 0 ∷ []; spelled = (refl, (refl, (refl, (refl, refl)))); used_is = refl; records_is = refl };
    behind = lit< tt;
    place_is = refl;
    kind_is = refl;
  });
  illegal_in_two_line = refl;
  absent_line = refl;
  other_line = refl;
  events_line = refl;
  same_line = refl;
  no_second = inr (record {
    one = answered_with 0xa5d5c51b;
    first = record { begins = refl; count = 3; keyed = false; behind = []; spelled = (refl, (refl, (refl, (refl, refl)))); used_is = refl; records_is = refl };
    behind = 0;
    fault = inl (inl (refl, refl));
    place_is = refl;
  });
  more_behind_two = inr (record {
    one = answered_with 0xa5d5c51b;
    first = record { begins = refl; count = 3; keyed = false; behind = whole_bytes ++ 0 ∷ []; spelled = (refl, (refl, (refl, (refl, refl)))); used_is = refl; records_is = refl };
    behind = 5;
    fault = inr (record {
      whole = answered_with 0xa5d5c51b;
      spelled = record { begins = refl; count = 3; keyed = false; behind = 0 ∷ []; spelled = (refl, (refl, (refl, (refl, refl)))); used_is = refl; records_is = refl };
      behind = lit< tt;
      place_is = refl;
      kind_is = refl;
    });
    place_is = refl;
  });
  no_end = inl (inr (record { begins = refl; count = 1; before = told_after 1 (magic_bytes ++ boot_bytes); rest = rest_after 1 (magic_bytes ++ boot_bytes); kept = (refl, (refl, refl)); place_is = refl; fault = refl }));
}
