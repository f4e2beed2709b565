-- The bytes of traces: which trace bytes spell, and what the first fault of any other bytes is.
use Rattle.std.specs.Prelude.{◌≡◌, ℕ, List, [], ◌∷◌, drop, length, nat_eq, nat_lt, if◌then◌else◌, Option, None, Some}
use Rattle.std.specs.List.{starts_with}
use Rattle.line_grammar.specs.Meaning.{Meaning}
use Rattle.trace_text.specs.declared.fault.BadKind.{BadKind}
use Rattle.trace_text.specs.declared.fault.BadKind.TheVariants as bad
use Rattle.trace_text.specs.declared.fault.TraceFault.{TraceFault}
use Rattle.trace_text.specs.declared.trace.Trace.{Trace}
use Rattle.trace_text.specs.Grammar.{IsFaultBy}
use Rattle.trace_text.specs.Limits.{Front, no_front, trace_in, end_fault, first_broken}
use Rattle.trace_bin.specs.Records.{RecordGrammar}
use Rattle.trace_bin.specs.Records as records
use Rattle.trace_bin.specs.Rules.{after_record, behind_record, record_rules}

-- `OTTB`
abbrev pub magic : List ℕ
magic = 0x4f ∷ 0x54 ∷ 0x54 ∷ 0x42 ∷ []

-- the fault of the first four bytes, which have to be these
unfoldable pub front_fault : List ℕ → List ℕ → Option BadKind
front_fault wanted bytes =
    if nat_lt (length bytes) 4 then Some bad.Cut else
    if starts_with nat_eq bytes wanted then None else
    Some bad.Item

abbrev pub magic_fault : List ℕ → Option BadKind
magic_fault bytes = front_fault magic bytes

-- the fault of what stands behind such records: of the end, or of a record
abbrev pub fault_at : List (List ℕ) → Front → List ℕ → Option BadKind
fault_at natives before [] = end_fault before
fault_at natives before (b ∷ bytes) = first_broken (record_rules natives before (b ∷ bytes))

-- the records of traces, beside built-in applications of these UUIDs
abbrev pub trace_records : List (List ℕ) → RecordGrammar Front
trace_records natives = record {
  begin_fault = λ bytes. magic_fault bytes;
  first = no_front;
  record_fault = λ before bytes. first_broken (record_rules natives before bytes);
  after_record = after_record;
  behind_record = behind_record;
  fault_at = λ before bytes. fault_at natives before bytes;
}

-- so many records at the front of these bytes keep every rule and lead from one trace to another, and the rest stands behind them
abbrev pub Leads : List (List ℕ) → Front → List ℕ → ℕ → Front → List ℕ → Type 0
Leads natives before bytes count after rest = records.Leads (trace_records natives) before bytes count after rest

-- the bytes spell the trace, beside built-in applications of these UUIDs: the magic, and records that keep their rules
pub record Spells (natives : List (List ℕ)) (bytes : List ℕ) (trace : Trace) : Type 0 where
  pub begins : magic_fault bytes ≡ None
  pub count : ℕ
  pub end : Front
  pub spelled : Leads natives no_front (drop 4 bytes) count end []
  pub trace_is : trace_in end ≡ trace
  pub no_end_fault : end_fault end ≡ None

-- the first fault of the bytes: in the magic, at place 0, or in a record, at its number from 1
abbrev pub IsFirstFault : List (List ℕ) → List ℕ → ℕ → BadKind → Type 0
IsFirstFault natives bytes place kind = records.IsFirstFault (trace_records natives) bytes place kind

-- what was answered is the bytes' first fault, or want of memory
abbrev pub IsFaultOf : List (List ℕ) → List ℕ → TraceFault → Type 0
IsFaultOf natives bytes fault = IsFaultBy (IsFirstFault natives bytes) fault

-- bytes spell one trace, or have one first fault, and not both
abbrev pub AllBytes : Type 0
AllBytes = (natives : List (List ℕ)) (bytes : List ℕ) → Meaning (Spells natives bytes) (IsFirstFault natives bytes)
