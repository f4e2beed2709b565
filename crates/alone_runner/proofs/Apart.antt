-- What is read is within its limits, and can be played: a core can be booted with its boot. What is served of it is what the word answers.
use Rattle.std.proofs.Common.{◌≡◌, ℕ, ◌≤◌, inr, List, length, Option, subst}
use Rattle.std.specs.Prelude.{Err, IfErr, IfOk, Ok, Result}
use Rattle.journal_runner.proofs.Booting.{can_boot}
use Rattle.trace_player.proofs.Booting.{AreApart}
use Rattle.kernel_model.specs.Application.{Native}
use Rattle.trace_player.specs.Starting.{uuids_of}
use Rattle.trace_text.specs.declared.fault.TraceFault.{TraceFault}
use Rattle.trace_text.specs.declared.fault.TraceFault.TheVariants.{Bad}
use Rattle.trace_text.specs.declared.fault.TraceFault.TheVariants as fault
use Rattle.word_parts.specs.Word.{Answered, IsFaultOf, IsServedBy}
use Rattle.word_parts.specs.declared.status.Status.{Status}
use Rattle.alone_runner.specs.Content.{CanBePlayed, IsFaultOf as IsFaultOfInput, IsFirstFault, IsSoundContent, Spells}
use Rattle.alone_runner.specs.Run.{WasRead, reading}
use Rattle.alone_runner.specs.declared.command.Grammar.{Grammar}
use Rattle.alone_runner.specs.declared.content.Content.{Content}
use Rattle.alone_runner.specs.declared.content.Content.TheVariants as content

pub can_be_played : (natives : List Native) (uuids : List (List ℕ)) (content : Content) → uuids ≡ uuids_of natives
    → length uuids ≤ 16 → AreApart uuids → IsSoundContent uuids content → CanBePlayed natives content
can_be_played natives uuids (content.Trace trace) same few apart sound = can_boot natives uuids trace same few apart sound
can_be_played natives uuids (content.Image image) same few apart sound = tt

-- what was read beside built-in applications of these UUIDs
pub was_read : (grammar : Grammar) (natives : List Native) (uuids : List (List ℕ)) (input : List ℕ)
    (read : Result Content TraceFault) → uuids ≡ uuids_of natives → length uuids ≤ 16 → AreApart uuids
    → IfOk read (Spells grammar uuids input) → IfOk read (IsSoundContent uuids) → IfOk read (WasRead grammar natives input)
was_read grammar natives uuids input (Ok content) same few apart spelled sound = record {
  spelled = subst (λ (us : List (List ℕ)). Spells grammar us input content) same spelled;
  sound = subst (λ (us : List (List ℕ)). IsSoundContent us content) same sound;
  can = can_be_played natives uuids content same few apart sound;
}
was_read grammar natives uuids input (Err fault) same few apart spelled sound = tt

pub was_refused : (grammar : Grammar) (natives : List Native) (uuids : List (List ℕ)) (input : List ℕ)
    (read : Result Content TraceFault) → uuids ≡ uuids_of natives → IfErr read (IsFaultOfInput grammar uuids input)
    → IfErr read (IsFaultOf (reading grammar natives) input)
was_refused grammar natives uuids input (Ok content) same bad = tt
was_refused grammar natives uuids input (Err (Bad place kind)) same bad =
    subst (λ (us : List (List ℕ)). IsFirstFault grammar us input place kind) same bad
was_refused grammar natives uuids input (Err fault.Memory) same bad = tt

pub answered : (grammar : Grammar) (natives : List Native) (input : List ℕ) (content : Content) (result : Status)
    (old new : Option (List ℕ)) → WasRead grammar natives input content
    → IsServedBy (reading grammar natives) content result old new → Answered (reading grammar natives) input result old new
answered grammar natives input content result old new read served = inr (inr (record {
  content = content;
  spelled = read.spelled;
  known = read.can;
  served = served;
}))
