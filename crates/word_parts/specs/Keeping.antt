-- All that a word which reads an input keeps to, in one fact.
use Rattle.std.specs.Prelude.{◌≡◌, ◌⊎◌, ℕ, List, Option}
use Rattle.word_parts.specs.Word.{CanBeRefused, CanBeServed, IsRefusedWhole, IsServedWhole, Ran, Statuses, Word}
use Rattle.word_parts.specs.declared.status.Status.{Status}
use Rattle.word_parts.specs.declared.status.Status.TheVariants.{Memory}

-- over an input that the source tells, and what the source has left; `no_fault` says that no port has failed
pub record Keeps (word : Word) (input : List ℕ) (left : Option (List ℕ)) (result : Status) (old new : Option (List ℕ))
    (no_fault : Type 0) : Type 0 where
  -- the input wasn't read whole, or it is too long, or it is answered by its meaning
  pub ran : Ran word input left result old new
  -- each status, and what was then written
  pub statuses : Statuses word input left result old new
  -- each input within the limits is served whole, or there is want of memory
  pub complete : (content : word.Content) → CanBeServed word input content → no_fault
      → IsServedWhole word content result old new ⊎ (result ≡ Memory)
  -- each input within the limit that leaves its grammar is answered by its first fault, or there is want of memory
  pub refuses : CanBeRefused word input → no_fault → IsRefusedWhole word input result old new ⊎ (result ≡ Memory)
