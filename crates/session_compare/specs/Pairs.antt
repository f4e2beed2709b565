-- Two journals that were read, as a pair that is compared.
use Rattle.std.specs.Prelude.{◌≤◌, ◌^◌, List}
use Rattle.audit.specs.Laws.{CanBeCheckedBeside}
use Rattle.compare_model.specs.Comparing.{IsIllegalIn, Journaled, Pair}
use Rattle.compare_model.specs.declared.compared.Compared.{Compared}
use Rattle.compare_model.specs.declared.compared.Compared.TheVariants.{Illegal}
use Rattle.event_journal.specs.Journal.{copied_bytes}
use Rattle.journal_bytes.specs.declared.reading.ReadJournal.{ReadJournal}
use Rattle.kernel_model.specs.Application.{Native}

-- a journal that was read can be compared, beside these applications that are built in: its boot can be checked beside these, and
-- its events have copied at most 2^28 bytes
pub record CanBeCompared (natives : List Native) (read : ReadJournal) : Type 0 where
  pub boot : CanBeCheckedBeside natives read.boot
  pub few : copied_bytes read.journal.events ≤ 2 ^ 28

abbrev pub journaled : ReadJournal → Journaled
journaled read = record { boot = read.boot; events = read.journal.events }

abbrev pub pair_of : List Native → ReadJournal → ReadJournal → Pair
pair_of natives one two = record { one = journaled one; two = journaled two; natives = natives }

-- one of both is told to be illegal, and is
abbrev pub IsToldIllegal : Pair → Compared → Type 0
IsToldIllegal pair (Illegal of at) = IsIllegalIn pair of at
IsToldIllegal pair _ = ⊥
