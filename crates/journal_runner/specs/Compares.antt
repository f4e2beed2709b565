-- What is written where `compare` ends with 0, and what it says.
use Rattle.std.specs.Prelude.{◌≡◌, ◌⊎◌, ℕ, List, Option}
use Rattle.compare_model.specs.Comparing.{HaveSameReplies, IsAnsweredAlone, IsHistory, Journaled, Pair}
use Rattle.compare_model.specs.declared.subject.Subject.{Subject}
use Rattle.journal_bytes.specs.Grammar.{Whole}
use Rattle.kernel_model.specs.Application.{Native}
use Rattle.ports.specs.Port.{Appends}
use Rattle.trace_player.specs.Starting.{uuids_of}
use Rattle.word_parts.specs.Input.{IsTooLong}
use Rattle.word_parts.specs.declared.status.Status.{Status}
use Rattle.word_parts.specs.declared.status.Status.TheVariants.{Memory}
use Rattle.word_parts.specs.declared.status.Status.TheVariants as status
use Rattle.journal_runner.specs.Comparing.{Comparison, SpellsCompared, compared_line, pair_of}
use Rattle.journal_runner.specs.Reading.{SpellsPair}

-- where the journal's events are a legal history, the session or the group was answered in it as the machine that has its events
-- alone answers
abbrev pub IsAloneIfLegal : Pair → Subject → Journaled → Type 0
IsAloneIfLegal pair subject journal = IsHistory pair journal → IsAnsweredAlone pair subject journal

-- there are two journals that the input spells, and just the line of what they show was written. Where that is `Same`, the session
-- or the group was answered the same in both; and whatever it is, it was answered in each legal one as its machine alone answers
pub record WasCompared (natives : List Native) (subject : Subject) (input : List ℕ) (old new : Option (List ℕ)) : Type 0 where
  pub comparison : Comparison
  pub spelled : SpellsCompared natives subject input comparison
  pub line : Appends old new (compared_line comparison.compared)
  pub same_replies : HaveSameReplies (pair_of natives comparison.one comparison.two) subject comparison.compared
  pub alone_in_one : let pair = pair_of natives comparison.one comparison.two in IsAloneIfLegal pair subject pair.one
  pub alone_in_two : let pair = pair_of natives comparison.one comparison.two in IsAloneIfLegal pair subject pair.two

-- where it was, by the status. And each input of at most 2^24 bytes that spells two journals is answered so where no port has failed,
-- or there is want of memory: whatever the two are, they show something of the session or of the group
pub record Compares (natives : List Native) (subject : Subject) (input : List ℕ) (result : Status) (old new : Option (List ℕ))
    (no_fault : Type 0) : Type 0 where
  pub ok : result ≡ status.Ok → WasCompared natives subject input old new
  pub complete : (one two : Whole) → SpellsPair (uuids_of natives) input one two → (IsTooLong input → ⊥) → no_fault
      → (result ≡ status.Ok) ⊎ (result ≡ Memory)
