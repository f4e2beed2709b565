-- What was played where the status is 0, or TooLong by a refused entry.
use Rattle.std.specs.Prelude.{◌≡◌, ◌⊎◌, ℕ, ◌^◌, List, [], Option, None, Some, take}
use Rattle.base.specs.Zeros.{zeros}
use Rattle.kernel_model.specs.Application.{Booted, Native, booted}
use Rattle.notify_play.specs.Asked.{signalled, taken}
use Rattle.notify_play.specs.Laws.{CallsBetween, IsNotifyPlay}
use Rattle.notify_play.specs.NotifyPlay.{Drivers, NotifyPlay, after_steps, first_notify_play, notify_played}
use Rattle.notify_play.specs.Order.{HoldsSteps}
use Rattle.notify_play.specs.Text.{notify_text_of_play}
use Rattle.notify_text.specs.Grammar.{Spells}
use Rattle.notify_text.specs.Steps.{Step, steps_of}
use Rattle.notify_text.specs.declared.notify_trace.NotifyTrace.{NotifyTrace}
use Rattle.play_model.specs.Play.{first_play}
use Rattle.ports.specs.Port.{Appends}
use Rattle.ta_isa.specs.declared.boot.Boot.{Boot}
use Rattle.trace_player.specs.Starting.{uuids_of}
use Rattle.word_parts.specs.Answer.{status_of_play}
use Rattle.word_parts.specs.Input.{IsTooLong}
use Rattle.word_parts.specs.Limits.{HasTooMany}
use Rattle.word_parts.specs.declared.status.Status.{Status}
use Rattle.word_parts.specs.declared.status.Status.TheVariants.{TooLong}
use Rattle.word_parts.specs.declared.status.Status.TheVariants as status

-- ---- a play

-- before the first step of a trace
abbrev pub start_of : Booted → NotifyTrace → NotifyPlay
start_of on told = first_notify_play on (first_play (zeros 0x400000) on told.trace.fills)

-- the steps came to this play, whatever they signalled
pub record HoldsBehind (on : Booted) (drivers : Drivers) (start : NotifyPlay) (steps : List Step) (now : NotifyPlay) : Type 0
  where
    -- it is what they make of the start
    pub is_play : after_steps on drivers steps start ≡ Some now
    -- its history is legal, with the kernel's own answers, so that what holds of legal histories holds of its calls and sessions; its
    -- entries have read at most 2^28 bytes, and one that was refused would have brought them above that; and a bottom half that
    -- comes next calls exactly the drivers that were signalled, while the desk was enabled, since the last bottom half or stop, each
    -- with the number of these signals, at most 2^32 - 1
    pub holds : IsNotifyPlay (2 ^ 28) on drivers now
    -- its history is the entries and exits that the steps let happen, in their order, with each signal at its place: all of them, or
    -- those before a refused entry. Each printed return is the kernel's exit, or what the desk makes of it; each exit once, in order
    pub in_order : HoldsSteps drivers steps now
    -- these signals are those of the steps that were taken, and the desk's other calls are what the exits of the history asked
    pub calls : CallsBetween (signalled (taken on drivers steps start)) start now
    -- all steps were taken, unless an entry was refused
    pub all_taken : now.play.refused ≡ None → taken on drivers steps start ≡ steps

-- ---- a trace

-- of a trace that has this boot: just the text of its play was written, and the status is 0, or TooLong where the play
-- refuses an entry
pub record IsPrinted (natives : List Native) (drivers : Drivers) (boot : Boot) (told : NotifyTrace) (result : Status)
    (old new : Option (List ℕ)) : Type 0 where
  pub play : NotifyPlay
  pub is_play : notify_played natives drivers boot told ≡ Some play
  pub text : Appends old new (notify_text_of_play play)
  pub status : result ≡ status_of_play play.play.refused
  -- what holds of it
  pub whole : HoldsBehind (booted boot natives) drivers (start_of (booted boot natives) told) (steps_of told) play
  -- and at each place of the trace, behind so many of its steps, of the play by then
  pub at_each_place : (count : ℕ) → (now : NotifyPlay)
      × HoldsBehind (booted boot natives) drivers (start_of (booted boot natives) told) (take count (steps_of told)) now

-- of one without a boot, which has no items and no signals: nothing was written, and the status is 0
abbrev pub IsPrintedWith : List Native → Drivers → NotifyTrace → Status → Option (List ℕ) → Option (List ℕ) → Option Boot
    → Type 0
IsPrintedWith natives drivers told result old new None =
    (told.trace.items ≡ []) × (told.signals ≡ []) × (result ≡ status.Ok) × Appends old new []
IsPrintedWith natives drivers told result old new (Some boot) = IsPrinted natives drivers boot told result old new

-- ---- an input

-- there is a trace with signals that the input spells, which was played and printed
pub record WasNotified (natives : List Native) (drivers : Drivers) (input : List ℕ) (result : Status)
    (old new : Option (List ℕ)) : Type 0 where
  pub told : NotifyTrace
  pub spelled : Spells (uuids_of natives) input told
  pub few : HasTooMany told.trace.items → ⊥
  pub printed : IsPrintedWith natives drivers told result old new told.trace.boot

-- it isn't played, since it is too long, or spells a trace of too many SMC items
abbrev pub IsUnplayed : List Native → List ℕ → Type 0
IsUnplayed natives input =
    IsTooLong input
    ⊎ ((told : NotifyTrace) × Spells (uuids_of natives) input told × HasTooMany told.trace.items)

-- where it was, by the status
pub record Notifies (natives : List Native) (drivers : Drivers) (input : List ℕ) (result : Status)
    (old new : Option (List ℕ)) : Type 0 where
  pub ok : result ≡ status.Ok → WasNotified natives drivers input result old new
  pub too_long : result ≡ TooLong → IsUnplayed natives input ⊎ WasNotified natives drivers input result old new
