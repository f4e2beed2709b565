-- A grammar of records: bytes that begin in one way, and behind that records, each judged over what those before it give.
use Rattle.std.specs.Prelude.{◌≡◌, ℕ, zero, suc, ◌+◌, ◌<◌, ◌⊎◌, List, drop, length, Option, None, Some}
use Rattle.trace_text.specs.declared.fault.BadKind.{BadKind}

-- records behind the first four bytes, over a state, which is what the records so far give
pub record RecordGrammar (State : Type 0) : Type 0 where
  -- what is wrong with how the bytes begin
  pub begin_fault : List ℕ → Option BadKind
  -- before the first record
  pub first : State
  -- what is wrong with the record at the front of bytes
  pub record_fault : State → List ℕ → Option BadKind
  -- the state behind a record without a fault, and the bytes behind it
  pub after_record : State → List ℕ → State
  pub behind_record : List ℕ → List ℕ
  -- what is wrong with what stands behind records: with a record, or with their end
  pub fault_at : State → List ℕ → Option BadKind

-- so many records at the front of these bytes have no fault and lead from one state to another, and the rest stands
-- behind them
abbrev pub Leads : {S : Type 0} → RecordGrammar S → S → List ℕ → ℕ → S → List ℕ → Type 0
Leads g before bytes zero after rest = (before ≡ after) × (bytes ≡ rest)
Leads g before bytes (suc count) after rest =
    (g.record_fault before bytes ≡ None) × Leads g (g.after_record before bytes) (g.behind_record bytes) count after rest

-- the first fault behind the beginning: what stands before its place has none
pub record IsFaultBehind {S : Type 0} (g : RecordGrammar S) (bytes : List ℕ) (place : ℕ) (kind : BadKind) : Type 0 where
  pub begins : g.begin_fault bytes ≡ None
  pub count : ℕ
  pub before : S
  pub rest : List ℕ
  pub kept : Leads g g.first (drop 4 bytes) count before rest
  pub place_is : place ≡ count + 1
  pub fault : g.fault_at before rest ≡ Some kind

-- the first fault of the bytes: of how they begin, at place 0, or of a record or the end, at its number from 1
abbrev pub IsFirstFault : {S : Type 0} → RecordGrammar S → List ℕ → ℕ → BadKind → Type 0
IsFirstFault g bytes place kind = ((place ≡ 0) × (g.begin_fault bytes ≡ Some kind)) ⊎ IsFaultBehind g bytes place kind

-- records without a fault up to their end, behind a beginning without one
pub record IsWhole {S : Type 0} (g : RecordGrammar S) (bytes : List ℕ) (count : ℕ) (end : S) (rest : List ℕ) : Type 0 where
  pub begins : g.begin_fault bytes ≡ None
  pub leads : Leads g g.first (drop 4 bytes) count end rest
  pub no_fault : g.fault_at end rest ≡ None
  pub no_record : g.record_fault end rest ≡ None → ⊥

-- no record stands where there is a fault, and a record has some bytes
pub record HasRecords {S : Type 0} (g : RecordGrammar S) : Type 0 where
  pub faulty : (before : S) (rest : List ℕ) (kind : BadKind) →
      g.fault_at before rest ≡ Some kind → g.record_fault before rest ≡ None → ⊥
  pub shorter : (before : S) (rest : List ℕ) →
      g.record_fault before rest ≡ None → length (g.behind_record rest) < length rest
