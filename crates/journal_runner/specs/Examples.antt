-- What the words write of small inputs, computed.
use Rattle.std.specs.Prelude.{◌≡◌, ℕ, List, [], ◌∷◌, ◌++◌, None, Some, codes, map, replicate}
use Rattle.audit_model.specs.VerdictExamples.{answered, asks}
use Rattle.audit_model.specs.declared.verdict.Verdict.TheVariants.{Legal, Illegal}
use Rattle.compare_model.specs.declared.compared.Compared.TheVariants.{Illegal as IllegalIn, Absent, Other, Events, Same}
use Rattle.journal_bytes.specs.Examples.{asking_bytes, boot_bytes, magic_bytes, small_boot, whole_bytes}
use Rattle.journal_bytes.specs.Grammar.{Whole}
use Rattle.trace_text.specs.declared.fault.BadKind.TheVariants.{Cut, Item}
use Rattle.trace_text.specs.declared.item.Item.TheVariants.{Smc}
use Rattle.trace_text.specs.declared.item.Reg.TheVariants.{Num}
use Rattle.trace_text.specs.declared.trace.Trace.{Trace}
use Rattle.journal_runner.specs.Auditing.{SpellsAudited, verdict_line}
use Rattle.journal_runner.specs.Comparing.{compared_line}
use Rattle.journal_runner.specs.Reading.{IsFaultAlone, IsFaultOfPair}
use Rattle.journal_runner.specs.Recording.{journal_for}

-- a processor asks for the core's UID
abbrev pub asking_trace : Trace
asking_trace = record { boot = Some small_boot; fills = []; items = Smc 0 1 (map (λ (n : ℕ). Num n) (0xbf00ff01 ∷ replicate 7 0)) ∷ [] }

abbrev pub no_boot : Trace
no_boot = record { boot = None; fills = []; items = [] }

-- the exit, whose fourth register is another
abbrev pub wrong_answer_bytes : List ℕ
wrong_answer_bytes =
    0x21 ∷ 0 ∷ 0xe0 ∷ 0xb3 ∷ 0x4f ∷ 0x38 ∷ 0xe3 ∷ 0x11 ∷ 0xf8 ∷ 0xe7 ∷ 2 ∷ 0 ∷ 0x63 ∷ 0xaf ∷ 0x1a ∷ 0xc5
    ∷ 0xd5 ∷ 0xa5 ∷ 0 ∷ 0 ∷ 0 ∷ 0 ∷ 0 ∷ 0 ∷ 0 ∷ 0 ∷ 0 ∷ 0 ∷ 0 ∷ 0 ∷ 0 ∷ 0
    ∷ 0 ∷ 0
    ∷ []

abbrev pub wrong_bytes : List ℕ
wrong_bytes = magic_bytes ++ boot_bytes ++ asking_bytes ++ wrong_answer_bytes ++ 0x7f ∷ []

-- the journal of the small boot with these two events, whose fourth register is this
abbrev pub answered_with : ℕ → Whole
answered_with last = record { boot = small_boot; events = asks ∷ answered last ∷ []; used = 86; records = 4 }

pub record Examples : Type 0 where
  -- the journal of a call that asks for the core's UID, and of nothing
  pub recorded : journal_for [] asking_trace ≡ Some whole_bytes
  pub nothing : journal_for [] no_boot ≡ Some []
  -- it is legal; with another register it isn't, from its second event on
  pub legal : SpellsAudited [] whole_bytes (record { whole = answered_with 0xa5d5c51b; verdict = Legal })
  pub illegal : SpellsAudited [] wrong_bytes (record { whole = answered_with 0xa5d5c51a; verdict = Illegal 1 })
  pub legal_line : verdict_line 2 Legal ≡ codes "legal 2" ++ 10 ∷ []
  pub illegal_line : verdict_line 2 (Illegal 1) ≡ codes "illegal 1" ++ 10 ∷ []
  -- a byte behind the end, which is the fourth record; and a journal without an end
  pub more : IsFaultAlone [] (whole_bytes ++ 0 ∷ []) 5 Item
  pub no_end : IsFaultAlone [] (magic_bytes ++ boot_bytes) 2 Cut
  -- what two journals show, as lines
  pub illegal_in_two_line : compared_line (IllegalIn 2 1) ≡ codes "illegal 2 1" ++ 10 ∷ []
  pub absent_line : compared_line (Absent 1) ≡ codes "absent 1" ++ 10 ∷ []
  pub other_line : compared_line Other ≡ codes "other" ++ 10 ∷ []
  pub events_line : compared_line (Events 2) ≡ codes "events 2" ++ 10 ∷ []
  pub same_line : compared_line (Same 2) ≡ codes "same 2" ++ 10 ∷ []
  -- a journal of four records with no second one behind it; and two of them with a byte behind the end of the second
  pub no_second : IsFaultOfPair [] whole_bytes 5 Cut
  pub more_behind_two : IsFaultOfPair [] (whole_bytes ++ whole_bytes ++ 0 ∷ []) 10 Item
