-- Verdicts on journals that were worked out by hand.
use Rattle.std.specs.Prelude.{◌≡◌, ℕ, List, [], ◌∷◌, ◌++◌, Bool, true, false, is_some, replicate}
use Rattle.event_journal.specs.declared.event.Event.{Event}
use Rattle.event_journal.specs.declared.event.Event.TheVariants.{Entry, Exit}
use Rattle.kernel_model.specs.Application.{Booted, booted}
use Rattle.kernel_model.specs.Examples.{legal_history}
use Rattle.kernel_model.specs.History.{kernel_after}
use Rattle.kernel_model.specs.Worked.{add, boot, boot_with, call_of, register_argument, word}
use Rattle.ns_ram.specs.declared.read.Read.{Read}
use Rattle.ns_ram.specs.Examples.{read_of}
use Rattle.ta_isa.specs.declared.boot.Boot.{Boot}
use Rattle.audit_model.specs.Verdicts.{IsVerdict}
use Rattle.audit_model.specs.declared.verdict.Verdict.TheVariants.{Legal, Illegal}

-- one processor, one slot and one frame, and no application
abbrev pub small_boot : Boot
small_boot = boot_with 1 1 1 []

abbrev pub small : Booted
small = booted small_boot []

-- a processor asks for the core's UID
abbrev pub asks_by : ℕ → ℕ → List Read → Event
asks_by cpu steps reads = Entry cpu (record { a = 0xbf00ff01 ∷ replicate 7 0 }) steps reads

abbrev pub asks : Event
asks = asks_by 0 1 []

-- the core's UID, but for its last word
abbrev pub answered : ℕ → Event
answered last = Exit 0 (record { a = 0x384fb3e0 ∷ 0xe7f811e3 ∷ 0xaf630002 ∷ last ∷ replicate 4 0 })

-- a buffer of a page is registered whose page list stands where the argument does. The argument begins with its command, 4;
-- the first entry of the list, which is no page of RAM, is read as this number
abbrev pub registers_itself : ℕ → Event
registers_itself entry =
    Entry 0 (record { a = call_of 0 }) 1
    (register_argument 0x40000000 0x1000 0x31 ++ read_of 0x40000000 (word entry) ∷ [])

-- each of these events can follow on those before it; whether the reads of an entry agree isn't asked
abbrev pub follow : Booted → List Event → Bool
follow on events = is_some (kernel_after on events)

pub record VerdictExamples : Type 0 where
  pub legal : follow small (asks ∷ answered 0xa5d5c51b ∷ []) ≡ true
  pub begun : follow small (asks ∷ []) ≡ true
  pub wrong_answer : follow small (asks ∷ answered 0xa5d5c51a ∷ []) ≡ false
  pub no_such_processor : follow small (asks_by 1 1 [] ∷ []) ≡ false
  pub no_steps : follow small (asks_by 0 0 [] ∷ []) ≡ false
  pub most_steps : follow small (asks_by 0 1000000 [] ∷ []) ≡ true
  pub too_many_steps : follow small (asks_by 0 1000001 [] ∷ []) ≡ false
  pub twice_inside : follow small (asks ∷ asks ∷ []) ≡ false
  pub goes_out_from_outside : follow small (answered 0xa5d5c51b ∷ []) ≡ false
  pub goes_out_twice : follow small (asks ∷ answered 0xa5d5c51b ∷ answered 0xa5d5c51b ∷ []) ≡ false
  pub reads_too_much : follow small (asks_by 0 1 (read_of 0x40000000 (0 ∷ []) ∷ []) ∷ []) ≡ false
  pub a_whole_one : follow (boot 2 1 1 add) legal_history ≡ true
  -- an answer that is right, and one whose last register is another
  pub is_legal : IsVerdict small (asks ∷ answered 0xa5d5c51b ∷ []) Legal
  pub is_illegal : IsVerdict small (asks ∷ answered 0xa5d5c51a ∷ []) (Illegal 1)
  -- nothing has come
  pub nothing : IsVerdict small [] Legal
  -- reads that agree, and reads that differ in one byte: the events follow on each other all the same
  pub agreed_follows : follow small (registers_itself 4 ∷ []) ≡ true
  pub unsteady_follows : follow small (registers_itself 5 ∷ []) ≡ true
  pub unsteady : IsVerdict small (registers_itself 5 ∷ []) (Illegal 0)
  pub unsteady_behind_others : IsVerdict small (asks ∷ answered 0xa5d5c51b ∷ registers_itself 5 ∷ []) (Illegal 2)
