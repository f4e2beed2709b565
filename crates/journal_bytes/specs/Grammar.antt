-- The bytes of journals: which boot and events bytes spell up to and with an end, and what the first fault of any other bytes is.
use Rattle.std.specs.Prelude.{◌≡◌, ℕ, ◌+◌, ◌⊎◌, List, [], ◌∷◌, drop, length, Bool, ◌==◌, if◌then◌else◌, Option, None, Some, Result, Ok, Err, is_some}
use Rattle.ta_isa.specs.declared.boot.Boot.{Boot}
use Rattle.event_journal.specs.declared.event.Event.{Event}
use Rattle.trace_text.specs.declared.fault.BadKind.{BadKind}
use Rattle.trace_text.specs.declared.fault.BadKind.TheVariants as bad
use Rattle.trace_text.specs.declared.fault.TraceFault.{TraceFault}
use Rattle.trace_text.specs.declared.fault.TraceFault.TheVariants.{Bad, Memory}
use Rattle.line_grammar.specs.Meaning.{Meaning}
use Rattle.trace_text.specs.Grammar.{IsFaultBy}
use Rattle.trace_text.specs.Limits.{first_broken}
use Rattle.trace_bin.specs.Grammar.{front_fault}
use Rattle.trace_bin.specs.Records.{RecordGrammar}
use Rattle.trace_bin.specs.Records as records
use Rattle.journal_bytes.specs.declared.reading.ReadJournal.{ReadJournal}
use Rattle.journal_bytes.specs.Record.{end_tag}
use Rattle.journal_bytes.specs.Recording.{nothing, Told}
use Rattle.journal_bytes.specs.Rules.{after_record, behind_record, record_rules}

-- `OTTJ`
abbrev pub magic : List ℕ
magic = 0x4f ∷ 0x54 ∷ 0x54 ∷ 0x4a ∷ []

-- the fault of the first four bytes
abbrev pub magic_fault : List ℕ → Option BadKind
magic_fault bytes = front_fault magic bytes

-- the fault of an end: it stands behind a boot
abbrev pub end_fault : Told → Option BadKind
end_fault before = if is_some before.boot then None else Some bad.Place

-- the fault of what stands behind such records: of nothing, of an end, or of a record
abbrev pub fault_at : List (List ℕ) → Told → List ℕ → Option BadKind
fault_at natives before [] = Some bad.Cut
fault_at natives before (tag ∷ body) = if tag == end_tag then end_fault before else first_broken (record_rules natives before (tag ∷ body))

-- the records of journals, beside built-in applications of these UUIDs; the end is none of them
abbrev pub journal_records : List (List ℕ) → RecordGrammar Told
journal_records natives = record {
  begin_fault = λ bytes. magic_fault bytes;
  first = nothing;
  record_fault = λ before bytes. first_broken (record_rules natives before bytes);
  after_record = after_record;
  behind_record = behind_record;
  fault_at = λ before bytes. fault_at natives before bytes;
}

-- so many records at the front of these bytes keep every rule and lead from what was told before to what is told after, and the
-- rest stands behind them
abbrev pub Leads : List (List ℕ) → Told → List ℕ → ℕ → Told → List ℕ → Type 0
Leads natives before bytes count after rest = records.Leads (journal_records natives) before bytes count after rest

-- what the bytes of a journal tell, how many they are, up to and with the end, and how many records they have, the end among them
pub record Whole : Type 0 where
  pub boot : Boot
  pub events : List Event
  pub used : ℕ
  pub records : ℕ

-- the bytes spell this journal at their front, beside built-in applications of these UUIDs: the magic, records that keep their
-- rules, and an end; whatever stands behind it
pub record Spells (natives : List (List ℕ)) (bytes : List ℕ) (whole : Whole) : Type 0 where
  pub begins : magic_fault bytes ≡ None
  pub count : ℕ
  pub keyed : Bool
  pub behind : List ℕ
  pub spelled : Leads natives nothing (drop 4 bytes) count (record { boot = Some whole.boot; keyed = keyed; events = whole.events }) (end_tag ∷ behind)
  pub used_is : whole.used + length behind ≡ length bytes
  pub records_is : whole.records ≡ count + 1

-- the first fault of the bytes: in the magic, at place 0, or in a record, at its number from 1
abbrev pub IsFirstFault : List (List ℕ) → List ℕ → ℕ → BadKind → Type 0
IsFirstFault natives bytes place kind = records.IsFirstFault (journal_records natives) bytes place kind

-- what was answered is the bytes' first fault, or want of memory
abbrev pub IsFaultOf : List (List ℕ) → List ℕ → TraceFault → Type 0
IsFaultOf natives bytes fault = IsFaultBy (IsFirstFault natives bytes) fault

-- what was read
abbrev pub whole_of : ReadJournal → Whole
whole_of read = record { boot = read.boot; events = read.journal.events; used = read.used; records = read.records }

-- this journal was read, or memory ran out
abbrev pub IsReadUnlessMemory : Result ReadJournal TraceFault → Whole → Type 0
IsReadUnlessMemory (Ok read) whole = whole_of read ≡ whole
IsReadUnlessMemory (Err fault) whole = fault ≡ Memory

-- bytes were refused so, or memory ran out
abbrev pub IsRefusedUnlessMemory : Result ReadJournal TraceFault → ℕ → BadKind → Type 0
IsRefusedUnlessMemory (Ok read) place kind = ⊥
IsRefusedUnlessMemory (Err fault) place kind = (fault ≡ Bad place kind) ⊎ (fault ≡ Memory)

-- bytes spell one journal, or have one first fault, and not both
abbrev pub AllBytes : Type 0
AllBytes = (natives : List (List ℕ)) (bytes : List ℕ) → Meaning (Spells natives bytes) (IsFirstFault natives bytes)
