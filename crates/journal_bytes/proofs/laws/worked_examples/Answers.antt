use Rattle.std.proofs.Common.{[], ◌∷◌, ◌++◌, false, true, inl, inr, refl}
use Rattle.trace_text.specs.Limits.{is_image, is_known, lies_in_ram}
use Rattle.trace_bin.specs.Grammar.{front_fault}
use Rattle.trace_bin.specs.Record.{is_whole as is_whole_body}
use Rattle.trace_bin.specs.Spelling.{counted}
use Rattle.journal_bytes.specs.Examples.{answer_bytes, app_bytes, asking_bytes, behind_ram_bytes, below_ram_bytes, boot_bytes, cut_key_bytes, cut_read_bytes, key_record, magic_bytes, missing_read_bytes, no_read_bytes, no_steps_bytes, second_processor_bytes, zero_key_record}
use Rattle.journal_bytes.specs.Record.{behind, is_whole, kind_tagged, listed_in, regs_in}
use Rattle.journal_bytes.specs.Rules.{added, after_record, behind_record, record_rules, rules_of}
use Rattle.journal_bytes.specs.Spelling.{event_record, read_bytes}
use Rattle.journal_bytes.proofs.Trying.{rest_after, told_after}
use Rattle.journal_bytes.proofs.laws.worked_examples.Goals as goal

pub returns : goal.returns
unfolding front_fault is_whole_body counted is_image is_known lies_in_ram behind is_whole kind_tagged listed_in regs_in added after_record behind_record record_rules rules_of event_record read_bytes
returns c = record {
  written = refl;
  key_written = refl;
  boot_written = refl;
  many_frames_written = refl;
  reads_a_head_written = refl;
  reads_three_times_written = refl;
  reads_the_last_bytes_written = refl;
  granted_many_steps_written = refl;
  goes_out_for_a_request_written = refl;
  goes_out_interrupted_written = refl;
  read = record { begins = refl; count = 3; keyed = false; behind = []; spelled = (refl, (refl, (refl, (refl, refl)))); used_is = refl; records_is = refl };
  read_of_more = record { begins = refl; count = 3; keyed = false; behind = 0x7f ∷ 1 ∷ []; spelled = (refl, (refl, (refl, (refl, refl)))); used_is = refl; records_is = refl };
  no_events = record { begins = refl; count = 1; keyed = false; behind = []; spelled = (refl, (refl, refl)); used_is = refl; records_is = refl };
  read_key = record { begins = refl; count = 4; keyed = true; behind = []; spelled = (refl, (refl, (refl, (refl, (refl, refl))))); used_is = refl; records_is = refl };
  read_zero_key = record { begins = refl; count = 2; keyed = true; behind = []; spelled = (refl, (refl, (refl, refl))); used_is = refl; records_is = refl };
  no_bytes = inl (refl, refl);
  other_magic = inl (refl, refl);
  magic_alone = inr (record { begins = refl; count = 0; before = told_after 0 (magic_bytes); rest = rest_after 0 (magic_bytes); kept = (refl, refl); place_is = refl; fault = refl });
  end_before_boot = inr (record { begins = refl; count = 0; before = told_after 0 (magic_bytes ++ 0x7f ∷ []); rest = rest_after 0 (magic_bytes ++ 0x7f ∷ []); kept = (refl, refl); place_is = refl; fault = refl });
  event_before_boot = inr (record { begins = refl; count = 0; before = told_after 0 (magic_bytes ++ answer_bytes); rest = rest_after 0 (magic_bytes ++ answer_bytes); kept = (refl, refl); place_is = refl; fault = refl });
  no_end = inr (record { begins = refl; count = 1; before = told_after 1 (magic_bytes ++ boot_bytes); rest = rest_after 1 (magic_bytes ++ boot_bytes); kept = (refl, (refl, refl)); place_is = refl; fault = refl });
  cut_boot = inr (record { begins = refl; count = 0; before = told_after 0 (magic_bytes ++ 1 ∷ 9 ∷ 1 ∷ 1 ∷ []); rest = rest_after 0 (magic_bytes ++ 1 ∷ 9 ∷ 1 ∷ 1 ∷ []); kept = (refl, refl); place_is = refl; fault = refl });
  nine_processors = inr (record { begins = refl; count = 0; before = told_after 0 (magic_bytes ++ 1 ∷ 9 ∷ 1 ∷ 1 ∷ 0 ∷ []); rest = rest_after 0 (magic_bytes ++ 1 ∷ 9 ∷ 1 ∷ 1 ∷ 0 ∷ []); kept = (refl, refl); place_is = refl; fault = refl });
  second_boot = inr (record { begins = refl; count = 1; before = told_after 1 (magic_bytes ++ boot_bytes ++ boot_bytes); rest = rest_after 1 (magic_bytes ++ boot_bytes ++ boot_bytes); kept = (refl, (refl, refl)); place_is = refl; fault = refl });
  bytes_of_a_trace = inr (record { begins = refl; count = 1; before = told_after 1 (magic_bytes ++ boot_bytes ++ 3 ∷ []); rest = rest_after 1 (magic_bytes ++ boot_bytes ++ 3 ∷ []); kept = (refl, (refl, refl)); place_is = refl; fault = refl });
  no_image = inr (record { begins = refl; count = 1; before = told_after 1 (magic_bytes ++ boot_bytes ++ app_bytes); rest = rest_after 1 (magic_bytes ++ boot_bytes ++ app_bytes); kept = (refl, (refl, refl)); place_is = refl; fault = refl });
  late_app = inr (record { begins = refl; count = 2; before = told_after 2 (magic_bytes ++ boot_bytes ++ answer_bytes ++ app_bytes); rest = rest_after 2 (magic_bytes ++ boot_bytes ++ answer_bytes ++ app_bytes); kept = (refl, (refl, (refl, refl))); place_is = refl; fault = refl });
  key_before_boot = inr (record { begins = refl; count = 0; before = told_after 0 (magic_bytes ++ key_record); rest = rest_after 0 (magic_bytes ++ key_record); kept = (refl, refl); place_is = refl; fault = refl });
  second_key = inr (record { begins = refl; count = 2; before = told_after 2 (magic_bytes ++ boot_bytes ++ key_record ++ key_record); rest = rest_after 2 (magic_bytes ++ boot_bytes ++ key_record ++ key_record); kept = (refl, (refl, (refl, refl))); place_is = refl; fault = refl });
  second_zero_key = inr (record { begins = refl; count = 2; before = told_after 2 (magic_bytes ++ boot_bytes ++ zero_key_record ++ zero_key_record); rest = rest_after 2 (magic_bytes ++ boot_bytes ++ zero_key_record ++ zero_key_record); kept = (refl, (refl, (refl, refl))); place_is = refl; fault = refl });
  late_key = inr (record { begins = refl; count = 2; before = told_after 2 (magic_bytes ++ boot_bytes ++ answer_bytes ++ key_record); rest = rest_after 2 (magic_bytes ++ boot_bytes ++ answer_bytes ++ key_record); kept = (refl, (refl, (refl, refl))); place_is = refl; fault = refl });
  cut_key = inr (record { begins = refl; count = 1; before = told_after 1 (magic_bytes ++ boot_bytes ++ cut_key_bytes); rest = rest_after 1 (magic_bytes ++ boot_bytes ++ cut_key_bytes); kept = (refl, (refl, refl)); place_is = refl; fault = refl });
  app_behind_key = inr (record { begins = refl; count = 2; before = told_after 2 (magic_bytes ++ boot_bytes ++ key_record ++ app_bytes); rest = rest_after 2 (magic_bytes ++ boot_bytes ++ key_record ++ app_bytes); kept = (refl, (refl, (refl, refl))); place_is = refl; fault = refl });
  no_steps = inr (record { begins = refl; count = 1; before = told_after 1 (magic_bytes ++ boot_bytes ++ no_steps_bytes); rest = rest_after 1 (magic_bytes ++ boot_bytes ++ no_steps_bytes); kept = (refl, (refl, refl)); place_is = refl; fault = refl });
  no_read = inr (record { begins = refl; count = 1; before = told_after 1 (magic_bytes ++ boot_bytes ++ no_read_bytes); rest = rest_after 1 (magic_bytes ++ boot_bytes ++ no_read_bytes); kept = (refl, (refl, refl)); place_is = refl; fault = refl });
  below_ram = inr (record { begins = refl; count = 1; before = told_after 1 (magic_bytes ++ boot_bytes ++ below_ram_bytes); rest = rest_after 1 (magic_bytes ++ boot_bytes ++ below_ram_bytes); kept = (refl, (refl, refl)); place_is = refl; fault = refl });
  behind_ram = inr (record { begins = refl; count = 1; before = told_after 1 (magic_bytes ++ boot_bytes ++ behind_ram_bytes); rest = rest_after 1 (magic_bytes ++ boot_bytes ++ behind_ram_bytes); kept = (refl, (refl, refl)); place_is = refl; fault = refl });
  cut_read = inr (record { begins = refl; count = 1; before = told_after 1 (magic_bytes ++ boot_bytes ++ cut_read_bytes); rest = rest_after 1 (magic_bytes ++ boot_bytes ++ cut_read_bytes); kept = (refl, (refl, refl)); place_is = refl; fault = refl });
  missing_read = inr (record { begins = refl; count = 1; before = told_after 1 (magic_bytes ++ boot_bytes ++ missing_read_bytes); rest = rest_after 1 (magic_bytes ++ boot_bytes ++ missing_read_bytes); kept = (refl, (refl, refl)); place_is = refl; fault = refl });
  second_processor = inr (record { begins = refl; count = 1; before = told_after 1 (magic_bytes ++ boot_bytes ++ second_processor_bytes); rest = rest_after 1 (magic_bytes ++ boot_bytes ++ second_processor_bytes); kept = (refl, (refl, refl)); place_is = refl; fault = refl });
  second_fault = inr (record { begins = refl; count = 3; before = told_after 3 (magic_bytes ++ boot_bytes ++ asking_bytes ++ answer_bytes ++ no_steps_bytes); rest = rest_after 3 (magic_bytes ++ boot_bytes ++ asking_bytes ++ answer_bytes ++ no_steps_bytes); kept = (refl, (refl, (refl, (refl, refl)))); place_is = refl; fault = refl });
}
