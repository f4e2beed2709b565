-- What the top call answers, and what it has written.
use Rattle.std.specs.Prelude.{◌≡◌, ℕ, ◌⊎◌, List, [], ◌∷◌, ◌++◌, codes, Option, IsSomeAnd, Result}
use Rattle.kernel_model.specs.Application.{Native}
use Rattle.made_play.specs.Summary.{summary_of}
use Rattle.play_model.specs.Text.{text_of}
use Rattle.ports.specs.Port.{Appends}
use Rattle.trace_player.specs.Refused.{refused_in}
use Rattle.trace_player.specs.Starting.{uuids_of}
use Rattle.trace_text.specs.declared.trace.Trace.{Trace}
use Rattle.word_parts.specs.Answer.{IsTold, Writes}
use Rattle.word_parts.specs.Output.{AppendsPart}
use Rattle.word_parts.specs.Word.{Word}
use Rattle.word_parts.specs.declared.stop.Stop.{Stop}
use Rattle.word_parts.specs.declared.status.Status.{Status}
use Rattle.word_parts.specs.declared.status.Status.TheVariants.{WriteFault, Memory}
use Rattle.word_parts.specs.declared.status.Status.TheVariants as status
use Rattle.alone_runner.specs.Content.{CanBePlayed, IsFirstFault, IsSoundContent, IsTooLarge, Spells, refused_for, text_for}
use Rattle.alone_runner.specs.declared.command.Grammar.{Grammar}
use Rattle.alone_runner.specs.declared.content.Content.{Content}

-- the line that tells the words
abbrev pub usage_line : List ℕ
usage_line = codes "usage: optee_run run | run-binary | threads | asm | work SEED COUNT" ++ 10 ∷ []

-- ---- an input

-- what an input of each grammar spells, beside built-in applications, and what is written for it
abbrev pub reading : Grammar → List Native → Word
reading grammar natives = record {
  Content = Content;
  Spells = Spells grammar (uuids_of natives);
  IsFirstFault = IsFirstFault grammar (uuids_of natives);
  IsKnown = CanBePlayed natives;
  IsTooLarge = IsTooLarge;
  text_for = text_for natives;
  refused_for = refused_for natives;
}

-- the input spells this, which is within its limits and can be played
pub record WasRead (grammar : Grammar) (natives : List Native) (input : List ℕ) (content : Content) : Type 0 where
  pub spelled : Spells grammar (uuids_of natives) input content
  pub sound : IsSoundContent (uuids_of natives) content
  pub can : CanBePlayed natives content

-- what a play of the trace that stopped so, or didn't, has written
abbrev pub IsToldOf : List Native → Trace → Result (Unit {0}) Stop → Option (List ℕ) → Option (List ℕ) → Type 0
IsToldOf natives trace stopped old new = IsTold (refused_in natives trace) (text_of natives trace) stopped old new

-- ---- made traces

-- the summary of a made trace is written, or a part of it where the sink failed or memory ran out; or nothing for want
-- of memory
abbrev pub Worked : ℕ → ℕ → Status → Option (List ℕ) → Option (List ℕ) → Type 0
Worked seed count result old new =
    ((result ≡ Memory) × Appends old new [])
    ⊎ IsSomeAnd (summary_of seed count) (λ line. Writes status.Ok line result old new)

-- just the summary is
abbrev pub WritesSummary : ℕ → ℕ → Option (List ℕ) → Option (List ℕ) → Type 0
WritesSummary seed count old new = IsSomeAnd (summary_of seed count) (Appends old new)

-- what each status says then
pub record WorkStatuses (seed count : ℕ) (result : Status) (old new : Option (List ℕ)) : Type 0 where
  pub ok : result ≡ status.Ok → WritesSummary seed count old new
  pub part : ((result ≡ WriteFault) ⊎ (result ≡ Memory)) → IsSomeAnd (summary_of seed count) (AppendsPart old new)
  pub no_other : (result ≡ status.Ok) ⊎ ((result ≡ WriteFault) ⊎ (result ≡ Memory))
