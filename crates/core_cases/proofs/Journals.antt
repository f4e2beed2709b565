-- A journal that was read can be compared.
use Rattle.std.proofs.Common.{List}
use Rattle.std.specs.Prelude.{map}
use Rattle.audit.specs.Laws.{ReadBootsCanBeChecked}
use Rattle.journal_bytes.specs.Sound.{IsSoundJournal}
use Rattle.journal_bytes.specs.declared.reading.ReadJournal.{ReadJournal}
use Rattle.kernel_model.specs.Application.{Native}
use Rattle.session_compare.specs.Pairs.{CanBeCompared}
use Rattle.trace_text.specs.Sound.{IsSoundBoot}

pub can_be_compared : (natives : List Native) (read : ReadJournal) → ReadBootsCanBeChecked
    → IsSoundBoot (map (λ native. native.0) natives) read.boot → IsSoundJournal read.boot.cpus read.journal.events
    → CanBeCompared natives read
can_be_compared natives read law boot journal =
    record { boot = law natives read.boot boot; few = journal.few_bytes }
