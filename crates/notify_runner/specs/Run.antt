-- What the word answers, and what it has written.
use Rattle.std.specs.Prelude.{◌≡◌, ℕ, List, [], Option, Some, None, Result}
use Rattle.std.specs.Option.{option_and_then}
use Rattle.kernel_model.specs.Application.{IsBooted, Native, booted}
use Rattle.notify_play.specs.NotifyPlay.{Drivers, NotifyPlay, notify_played}
use Rattle.notify_play.specs.Text.{notify_text_of}
use Rattle.notify_text.specs.Grammar.{IsFirstFault, Spells}
use Rattle.notify_text.specs.Sound.{IsSoundTold}
use Rattle.notify_text.specs.declared.notify_trace.NotifyTrace.{NotifyTrace}
use Rattle.ta_isa.specs.declared.boot.Boot.{Boot}
use Rattle.trace_player.specs.Starting.{uuids_of}
use Rattle.word_parts.specs.Answer.{IsTold}
use Rattle.word_parts.specs.Limits.{HasTooMany}
use Rattle.word_parts.specs.Word.{Word}
use Rattle.word_parts.specs.declared.stop.Stop.{Stop}

-- ---- a play

-- how many bytes the entry would have read that the play of a trace refuses, where it refuses one
abbrev pub refused_by : List Native → Drivers → NotifyTrace → Option Boot → Option ℕ
refused_by natives drivers told None = None
refused_by natives drivers told (Some boot) =
    option_and_then (λ (after : NotifyPlay). after.play.refused) (notify_played natives drivers boot told)

abbrev pub refused_in : List Native → Drivers → NotifyTrace → Option ℕ
refused_in natives drivers told = refused_by natives drivers told told.trace.boot

-- what a play of the trace that stopped so, or didn't, has written
abbrev pub IsToldOf : List Native → Drivers → NotifyTrace → Result (Unit {0}) Stop → Option (List ℕ) → Option (List ℕ)
    → Type 0
IsToldOf natives drivers told stopped old new =
    IsTold (refused_in natives drivers told) (notify_text_of natives drivers told) stopped old new

-- ---- the word

-- a core can be booted with this boot of the trace, beside built-in applications; with none it has no items and no signals
abbrev pub CanBeBooted : List Native → NotifyTrace → Option Boot → Type 0
CanBeBooted natives told None = (told.trace.items ≡ []) × (told.signals ≡ [])
CanBeBooted natives told (Some boot) = IsBooted (booted boot natives)

-- the input spells this, which is within its limits, and a core can be booted for it
pub record WasRead (natives : List Native) (input : List ℕ) (told : NotifyTrace) : Type 0 where
  pub spelled : Spells (uuids_of natives) input told
  pub sound : IsSoundTold (uuids_of natives) told
  pub boots : CanBeBooted natives told told.trace.boot

-- what an input spells, beside built-in applications and drivers, and what is written for it
abbrev pub notifying : List Native → Drivers → Word
notifying natives drivers = record {
  Content = NotifyTrace;
  Spells = Spells (uuids_of natives);
  IsFirstFault = IsFirstFault (uuids_of natives);
  IsKnown = λ (told : NotifyTrace). CanBeBooted natives told told.trace.boot;
  IsTooLarge = λ (told : NotifyTrace). HasTooMany told.trace.items;
  text_for = notify_text_of natives drivers;
  refused_for = refused_in natives drivers;
}
