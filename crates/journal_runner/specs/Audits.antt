-- What is written where `audit` ends with 0, and what it says.
use Rattle.std.specs.Prelude.{◌≡◌, ◌⊎◌, ℕ, List, Option}
use Rattle.journal_bytes.specs.Grammar.{Whole}
use Rattle.kernel_model.specs.Application.{Native}
use Rattle.ports.specs.Port.{Appends}
use Rattle.trace_player.specs.Starting.{uuids_of}
use Rattle.word_parts.specs.Input.{IsTooLong}
use Rattle.word_parts.specs.declared.status.Status.{Status}
use Rattle.word_parts.specs.declared.status.Status.TheVariants.{Memory}
use Rattle.word_parts.specs.declared.status.Status.TheVariants as status
use Rattle.journal_runner.specs.Auditing.{Audited, SpellsAudited, line_for}
use Rattle.journal_runner.specs.Reading.{SpellsAlone}

-- there is a journal that the input spells alone, and just the line of the verdict on it was written
pub record WasAudited (natives : List Native) (input : List ℕ) (old new : Option (List ℕ)) : Type 0 where
  pub audited : Audited
  pub spelled : SpellsAudited natives input audited
  pub line : Appends old new (line_for audited)

-- where it was, by the status. And each input of at most 2^24 bytes that spells a journal alone is answered so where no port has
-- failed, or there is want of memory: whatever its events are, there is a verdict on them
pub record Audits (natives : List Native) (input : List ℕ) (result : Status) (old new : Option (List ℕ)) (no_fault : Type 0)
    : Type 0 where
  pub ok : result ≡ status.Ok → WasAudited natives input old new
  pub complete : (whole : Whole) → SpellsAlone (uuids_of natives) input whole → (IsTooLong input → ⊥) → no_fault
      → (result ≡ status.Ok) ⊎ (result ≡ Memory)
