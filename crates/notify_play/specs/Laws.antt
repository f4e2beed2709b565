-- What holds of each play of a trace with signals.
use Rattle.std.specs.Prelude.{◌≡◌, ℕ, ◌+◌, ◌<◌, ◌≤◌, List, ◌++◌, None, Some}
use Rattle.std.specs.Option.{option_map}
use Rattle.event_journal.specs.Journal.{copied_bytes}
use Rattle.event_journal.specs.declared.event.Event.{Event}
use Rattle.kernel_model.specs.Application.{Booted, IsBooted, Native, booted}
use Rattle.kernel_model.specs.Argument.{IsNew, reg}
use Rattle.kernel_model.specs.Exit.{Exited, exit}
use Rattle.kernel_model.specs.History.{IsLegal, kernel_after}
use Rattle.kernel_model.specs.Laws.{FindsNoCall, FindsNoSlot}
use Rattle.notif.specs.Desk.{DeskState, driver_calls}
use Rattle.notif.specs.History.{DeskCall, owed_calls}
use Rattle.notify_text.specs.Steps.{Step}
use Rattle.play_model.specs.Laws.{AloneIn, ReturnsIn, TogetherIn, ToldIn}
use Rattle.play_model.specs.Play.{first_play_within, leaves}
use Rattle.play_model.specs.Realms.{RealmsIn}
use Rattle.play_model.specs.TrueToKernel.{ExitsIn, RefusedIn}
use Rattle.smc_abi.specs.Call.{call_of}
use Rattle.smc_abi.specs.declared.call.Call.TheVariants.{Resume}
use Rattle.ta_isa.specs.declared.boot.Boot.{Boot}
use Rattle.trace_text.specs.declared.trace.Fill.{Fill}
use Rattle.notify_play.specs.Asked.{asked, others_among, signalled, signals_among, taken}
use Rattle.notify_play.specs.Duty.{CameIn, Nothing, duty_of}
use Rattle.notify_play.specs.NotifyPlay.{Drivers, NotifyPlay, after_steps, desk_of, duty_at, first_notify_play, goes_out}
use Rattle.notify_play.specs.Order.{HoldsSteps}
use Rattle.notify_play.specs.Told.{told_regs}

-- what holds of a play with signals whose entries may read so many bytes, whatever was signalled
pub record IsNotifyPlay (most_bytes : ℕ) (boot : Booted) (drivers : Drivers) (told : NotifyPlay) : Type 0 where
  -- its history is legal from the boot, and leads to its kernel
  pub legal : IsLegal boot told.play.history
  pub kernel : kernel_after boot told.play.history ≡ Some told.play.kernel
  -- and keeps the kernel's own answers: each exit in it has the registers that the kernel gives after the events before
  pub exits : ExitsIn boot told.play.history
  -- its entries have read no more bytes than they may, and one that was refused would have brought them above that
  pub limit : told.play.most_bytes ≡ most_bytes
  pub few_bytes : copied_bytes told.play.history ≤ most_bytes
  pub too_many : (more : ℕ) → told.play.refused ≡ Some more → most_bytes < copied_bytes told.play.history + more
  -- a return from RPC resumes the call that is suspended in its slot for its client, or is answered ERESUME, which is 3,
  -- exactly where there is none, and changes nothing but the history then; ETHREAD_LIMIT, which is 1, comes exactly where a new
  -- call finds no slot free
  pub returns : ReturnsIn boot told.play.history
  pub no_call : ToldIn boot told.play.history 3 FindsNoCall
  pub change_nothing : RefusedIn boot told.play.history
  pub no_slot : ToldIn boot told.play.history 1 FindsNoSlot
  -- sessions that share no instance were answered as alone, each that was ever kept on its instance among them; those that
  -- share one, as their group alone; and each that was ever kept, whatever became of its instance, is in a realm
  pub alone : AloneIn boot told.play.history
  pub together : TogetherIn boot told.play.history
  pub realms : RealmsIn boot told.play.history
  -- a bottom half that comes next calls exactly the drivers that were signalled, while the desk was enabled, since the last
  -- bottom half or stop, each with the number of these signals, at most 2^32 - 1 (its desk's calls: `StepsCallDesk`)
  pub bottom_half : driver_calls (desk_of drivers told) ≡ owed_calls drivers told.calls

-- each play of steps is one, however much its entries may read, and whatever RAM holds at first; and so at each place of a
-- trace, where a bottom half may come, the play of the steps before it is one
abbrev pub StepsArePlayed : Type 0
StepsArePlayed =
    (most_bytes : ℕ) (ram : List ℕ) (natives : List Native) (drivers : Drivers) (boot : Boot) (fills : List Fill) (steps : List Step)
    (told : NotifyPlay) → IsBooted (booted boot natives) →
    (let on = booted boot natives in
    after_steps on drivers steps (first_notify_play on (first_play_within most_bytes ram on fills)) ≡ Some told →
    IsNotifyPlay most_bytes on drivers told)

-- and holds its steps in their order: its history has the entries and exits that they let happen, with each signal at its place, and its
-- returns are what was told at its exits
abbrev pub StepsHoldInOrder : Type 0
StepsHoldInOrder =
    (most_bytes : ℕ) (ram : List ℕ) (natives : List Native) (drivers : Drivers) (boot : Boot) (fills : List Fill) (steps : List Step)
    (told : NotifyPlay) → IsBooted (booted boot natives) →
    (let on = booted boot natives in
    after_steps on drivers steps (first_notify_play on (first_play_within most_bytes ram on fills)) ≡ Some told →
    HoldsSteps drivers steps told)

-- of two plays, of which one comes of the other, where these values were signalled between them, the last one first
pub record CallsBetween (values : List ℕ) (before after : NotifyPlay) : Type 0 where
  -- the events that came, and the calls of the desk that were made, the last one first
  pub events : List Event
  pub history : after.play.history ≡ before.play.history ++ events
  pub made : List DeskCall
  pub calls : after.calls ≡ made ++ before.calls
  -- of these calls the signals are those values, and the others are what the exits among the events ask
  pub signals : signals_among made ≡ values
  pub others : others_among made ≡ asked before.play.history events

-- from each play, so also over a part of the steps or over one of them, the desk gets each signal of the steps that are
-- taken, in their order, and what the exits ask, in theirs, and nothing else; all steps are taken unless an entry is refused
abbrev pub StepsCallDesk : Type 0
StepsCallDesk = (boot : Booted) (drivers : Drivers) (steps : List Step) (before after : NotifyPlay) →
    after_steps boot drivers steps before ≡ Some after →
    CallsBetween (signalled (taken boot drivers steps before)) before after
    × (after.play.refused ≡ None → taken boot drivers steps before ≡ steps)

-- the exit of a return from RPC asks nothing of the desk
abbrev pub ResumesAskNothing : Type 0
ResumesAskNothing = (came : CameIn) (a0 : ℕ) → call_of (reg came.regs 0) ≡ Resume → duty_of came a0 ≡ Nothing

-- ETHREAD_LIMIT, which is 1, is told where the kernel says so: the desk makes none, and hides none that is said to a new call. To others
-- the kernel never says so (`no_slot` of `IsNotifyPlay`)
pub record LimitIsTheKernels : Type 0 where
  pub made : (desk : DeskState) (came : CameIn) (answered : List ℕ) →
      reg (told_regs desk came.regs answered (duty_of came (reg answered 0))) 0 ≡ 1 → reg answered 0 ≡ 1
  pub kept : (desk : DeskState) (came : CameIn) (answered : List ℕ) → IsNew came.regs → reg answered 0 ≡ 1 →
      told_regs desk came.regs answered (duty_of came (reg answered 0)) ≡ answered

-- an exit that asks nothing of the desk comes to the kernel, the RAM and the lines to which it comes without signals
abbrev pub OtherExitsStay : Type 0
OtherExitsStay = (boot : Booted) (drivers : Drivers) (before : NotifyPlay) (cpu : ℕ) (exited : Exited) →
    exit before.play.kernel cpu ≡ Some exited → duty_at before cpu exited ≡ Nothing →
    option_map (λ (after : NotifyPlay). after.play) (goes_out boot drivers cpu before) ≡ leaves boot cpu before.play
