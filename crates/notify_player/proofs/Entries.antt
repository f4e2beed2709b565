-- The last entry of a processor, as a core's log tells it and as the play of signals folds it.
use Rattle.std.proofs.Common.{◌≡◌, ℕ, Bool, true, false, List, [], ◌∷◌, ◌++◌, Option, Some, None, refl, ap, ◌∙◌}
use Rattle.std.specs.Prelude.{◌==◌, if◌then◌else◌}
use Rattle.event_journal.specs.declared.event.Event.{Event}
use Rattle.event_journal.specs.declared.event.Event.TheVariants.{Entry, Exit}
use Rattle.event_log.specs.LastEntry as log
use Rattle.notify_play.specs.Duty.{CameIn, came_with, entered_last, last_entry}
use Rattle.smc_abi.specs.declared.regs.Regs.{Regs}
use Rattle.notify_player.specs.Asking.{came_by}

-- the choice between an entry and what was before it
came-chosen : (own : Bool) (entry : Event) (before : Option Event)
    → came_by (if own then Some entry else before) ≡ (if own then came_by (Some entry) else came_by before)
came-chosen true entry before = refl
came-chosen false entry before = refl

-- how it came in by the last entry among events is the last among how it came in
pub came-folded : (cpu : ℕ) (before : Option Event) (events : List Event)
    → came_by (log.entered_last cpu before events) ≡ entered_last cpu (came_by before) events
came-folded cpu before [] = refl
came-folded cpu before (Entry came regs steps reads ∷ events) =
    came-folded cpu (log.entered_by cpu before (Entry came regs steps reads)) events
    ∙ ap (λ (now : CameIn). entered_last cpu now events) (came-chosen (came == cpu) (Entry came regs steps reads) before)
came-folded cpu before (Exit went told ∷ events) = came-folded cpu before events

-- the last among events, and then an exit
exit-behind : (cpu : ℕ) (start : CameIn) (events : List Event) (went : ℕ) (told : Regs)
    → entered_last cpu start (events ++ Exit went told ∷ []) ≡ entered_last cpu start events
exit-behind cpu start [] went told = refl
exit-behind cpu start (Entry came given steps reads ∷ events) went told =
    exit-behind cpu (if came == cpu then came_with given.a reads else start) events went told
exit-behind cpu start (Exit other now ∷ events) went told = exit-behind cpu start events went told

-- what a log tells behind an exit is the last entry before it
pub before-exit : (history : List Event) (went : ℕ) (told : Regs) (cpu : ℕ)
    → came_by (log.last_entry cpu (history ++ Exit went told ∷ [])) ≡ last_entry history cpu
before-exit history went told cpu =
    came-folded cpu None (history ++ Exit went told ∷ []) ∙ exit-behind cpu (came_with [] []) history went told
