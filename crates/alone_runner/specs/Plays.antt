-- What was played where the status is 0, or TooLong by a refused entry.
use Rattle.std.specs.Prelude.{◌≡◌, ℕ, ◌⊎◌, List, [], Option, Some, None}
use Rattle.kernel_model.specs.Application.{Native}
use Rattle.made_play.specs.Summary.{summary_of_play}
use Rattle.play_model.specs.Play.{Play}
use Rattle.play_model.specs.Text.{text_of_play}
use Rattle.play_model.specs.TrueToKernel.{IsTrueToKernel}
use Rattle.ports.specs.Port.{Appends}
use Rattle.ta_isa.specs.declared.boot.Boot.{Boot}
use Rattle.trace_text.specs.declared.trace.Trace.{Trace}
use Rattle.workload.specs.Work.{made_boot, made_trace}
use Rattle.alone_runner.specs.Content.{Spells}
use Rattle.word_parts.specs.Limits.{HasTooMany}
use Rattle.trace_player.specs.Starting.{uuids_of}
use Rattle.word_parts.specs.Answer.{status_of_play}
use Rattle.word_parts.specs.Input.{IsTooLong}
use Rattle.alone_runner.specs.declared.content.Content.TheVariants as content
use Rattle.alone_runner.specs.declared.command.Grammar.{Grammar}
use Rattle.alone_runner.specs.declared.command.Grammar.TheVariants.{Text, Records, Assembler}
use Rattle.word_parts.specs.declared.status.Status.{Status}
use Rattle.word_parts.specs.declared.status.Status.TheVariants.{TooLong}
use Rattle.word_parts.specs.declared.status.Status.TheVariants as status

-- the grammar is one of traces
abbrev pub SpellsTraces : Grammar → Type 0
SpellsTraces Text = Unit {0}
SpellsTraces Records = Unit {0}
SpellsTraces Assembler = ⊥

-- of a trace that has this boot: just the text of its play was written, and the status is 0, or TooLong where the play
-- refuses an entry. That play is true to the written kernel: its history is legal, each printed return is its exit at its
-- place there, and what holds of resumes, of the thread limit and of isolation holds of it
pub record IsPrinted (natives : List Native) (boot : Boot) (trace : Trace) (result : Status)
    (old new : Option (List ℕ)) : Type 0 where
  pub play : Play
  pub is_true : IsTrueToKernel natives boot trace play
  pub text : Appends old new (text_of_play play)
  pub status : result ≡ status_of_play play.refused

-- of one without a boot, which has no items: nothing was written, and the status is 0
abbrev pub IsPrintedBy : List Native → Trace → Status → Option (List ℕ) → Option (List ℕ) → Option Boot → Type 0
IsPrintedBy natives trace result old new None = (trace.items ≡ []) × (result ≡ status.Ok) × Appends old new []
IsPrintedBy natives trace result old new (Some boot) = IsPrinted natives boot trace result old new

-- there is a trace that the input spells, which was played and printed
pub record IsPlayed (grammar : Grammar) (natives : List Native) (input : List ℕ) (result : Status)
    (old new : Option (List ℕ)) : Type 0 where
  pub trace : Trace
  pub spelled : Spells grammar (uuids_of natives) input (content.Trace trace)
  pub few : HasTooMany trace.items → ⊥
  pub printed : IsPrintedBy natives trace result old new trace.boot

-- it isn't played, since it is too long, or spells a trace of too many SMC items
abbrev pub IsUnplayed : Grammar → List Native → List ℕ → Type 0
IsUnplayed grammar natives input =
    IsTooLong input
    ⊎ ((trace : Trace) × Spells grammar (uuids_of natives) input (content.Trace trace) × HasTooMany trace.items)

-- where it was, by the status
pub record Plays (grammar : Grammar) (natives : List Native) (input : List ℕ) (result : Status)
    (old new : Option (List ℕ)) : Type 0 where
  pub ok : result ≡ status.Ok → IsPlayed grammar natives input result old new
  pub too_long : result ≡ TooLong → IsUnplayed grammar natives input ⊎ IsPlayed grammar natives input result old new

-- the summary of this play of a made trace was written, which is true to the written kernel and refuses no entry
pub record IsSummedUp (seed count : ℕ) (old new : Option (List ℕ)) : Type 0 where
  pub play : Play
  pub is_true : IsTrueToKernel [] made_boot (made_trace seed count) play
  pub goes_on : play.refused ≡ None
  pub summary : Appends old new (summary_of_play seed count play)
