-- Which journals bytes spell up to their end, alone or one behind the other, and what the first fault of any other bytes is.
use Rattle.std.specs.Prelude.{◌≡◌, ◌⊎◌, ℕ, ◌+◌, ◌<◌, List, drop, length}
use Rattle.journal_bytes.specs.Grammar.{IsFirstFault as IsFaultOfJournal, Spells, Whole, whole_of}
use Rattle.journal_bytes.specs.Sound.{IsSoundJournal}
use Rattle.journal_bytes.specs.declared.reading.ReadJournal.{ReadJournal}
use Rattle.trace_text.specs.Sound.{IsSoundBoot}
use Rattle.trace_text.specs.declared.fault.BadKind.{BadKind}
use Rattle.trace_text.specs.declared.fault.BadKind.TheVariants.{Item}
use Rattle.trace_text.specs.declared.fault.TraceFault.{TraceFault}
use Rattle.trace_text.specs.declared.fault.TraceFault.TheVariants.{Bad, Memory}
use Rattle.journal_runner.specs.declared.reading.ReadPair.{ReadPair}

-- what was read is within its limits, beside built-in applications of these UUIDs
pub record KeepsLimits (natives : List (List ℕ)) (read : ReadJournal) : Type 0 where
  pub boot : IsSoundBoot natives read.boot
  pub journal : IsSoundJournal read.boot.cpus read.journal.events

-- ---- bytes with nothing behind them

-- the bytes spell this journal, beside built-in applications of these UUIDs, and nothing stands behind its end
pub record SpellsAlone (natives : List (List ℕ)) (bytes : List ℕ) (whole : Whole) : Type 0 where
  pub spelled : Spells natives bytes whole
  pub nothing_behind : whole.used ≡ length bytes

-- bytes stand behind the end of the journal that these spell: the place is that after its end
pub record HasMore (natives : List (List ℕ)) (bytes : List ℕ) (place : ℕ) (kind : BadKind) : Type 0 where
  pub whole : Whole
  pub spelled : Spells natives bytes whole
  pub behind : whole.used < length bytes
  pub place_is : place ≡ whole.records + 1
  pub kind_is : kind ≡ Item

-- the first fault of bytes that spell no journal alone
abbrev pub IsFaultAlone : List (List ℕ) → List ℕ → ℕ → BadKind → Type 0
IsFaultAlone natives bytes place kind = IsFaultOfJournal natives bytes place kind ⊎ HasMore natives bytes place kind

-- what was answered is the bytes' first fault, or want of memory
abbrev pub IsFaultAloneOf : List (List ℕ) → List ℕ → TraceFault → Type 0
IsFaultAloneOf natives bytes (Bad place kind) = IsFaultAlone natives bytes place kind
IsFaultAloneOf natives bytes Memory = Unit {0}

-- the bytes spell the journal that was read, which is within its limits
pub record WasReadAlone (natives : List (List ℕ)) (bytes : List ℕ) (read : ReadJournal) : Type 0 where
  pub alone : SpellsAlone natives bytes (whole_of read)
  pub limits : KeepsLimits natives read

-- ---- two journals, one right behind the other

-- the bytes spell the first journal at their front, and the second alone behind its end
pub record SpellsPair (natives : List (List ℕ)) (bytes : List ℕ) (one two : Whole) : Type 0 where
  pub first : Spells natives bytes one
  pub second : SpellsAlone natives (drop one.used bytes) two

-- they spell the first, and behind its end they leave the grammar. Places go on counting there: the second's magic has the place after
-- the first's end
pub record HasFaultBehind (natives : List (List ℕ)) (bytes : List ℕ) (place : ℕ) (kind : BadKind) : Type 0 where
  pub one : Whole
  pub first : Spells natives bytes one
  pub behind : ℕ
  pub fault : IsFaultAlone natives (drop one.used bytes) behind kind
  pub place_is : place ≡ one.records + 1 + behind

-- the first fault of bytes that spell no two journals
abbrev pub IsFaultOfPair : List (List ℕ) → List ℕ → ℕ → BadKind → Type 0
IsFaultOfPair natives bytes place kind = IsFaultOfJournal natives bytes place kind ⊎ HasFaultBehind natives bytes place kind

-- what was answered is the bytes' first fault, or want of memory
abbrev pub IsFaultOfPairOf : List (List ℕ) → List ℕ → TraceFault → Type 0
IsFaultOfPairOf natives bytes (Bad place kind) = IsFaultOfPair natives bytes place kind
IsFaultOfPairOf natives bytes Memory = Unit {0}

-- the bytes spell the two journals that were read, which are within their limits
pub record WasReadPair (natives : List (List ℕ)) (bytes : List ℕ) (read : ReadPair) : Type 0 where
  pub pair : SpellsPair natives bytes (whole_of read.one) (whole_of read.two)
  pub one : KeepsLimits natives read.one
  pub two : KeepsLimits natives read.two
