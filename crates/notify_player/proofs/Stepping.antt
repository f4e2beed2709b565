-- A play of steps, step by step.
use Rattle.std.proofs.Common.{◌≡◌, ℕ, List, [], ◌∷◌, ◌++◌, map, Option, Some, None, refl, ap, ◌∙◌}
use Rattle.std.specs.Option.{option_and_then, option_map_or}
use Rattle.kernel_model.specs.Application.{Booted}
use Rattle.notif.specs.History as desk
use Rattle.notify_play.specs.NotifyPlay.{Drivers, NotifyPlay, after_item, after_step, after_steps}
use Rattle.notify_player.specs.Signalling.{signalled_by}
use Rattle.notify_text.specs.Steps.{Signals, Step, Takes}
use Rattle.notify_text.specs.declared.notify_trace.Signal.{Signal}
use Rattle.trace_text.specs.declared.item.Item.{Item}

-- the steps of these signals
abbrev pub taken_by : List Signal → List Step
taken_by signals = map (λ (s : Signal). Signals s.value) signals

-- an entry that was refused ends the play, so a play that goes on takes them all
pub signalled-steps : (boot : Booted) (drivers : Drivers) (signals : List Signal) (rest : List Step) (told : NotifyPlay)
    → told.play.refused ≡ None
    → after_steps boot drivers (taken_by signals ++ rest) told
    ≡ after_steps boot drivers rest (signalled_by signals told)
signalled-steps boot drivers [] rest told going = refl
signalled-steps boot drivers (signal ∷ signals) rest told going =
    let next : NotifyPlay = record told { calls = desk.Signal signal.value ∷ told.calls } in
    ap (λ (o : Option ℕ). option_and_then (λ (n : NotifyPlay). after_steps boot drivers
    (taken_by signals ++ rest) n) (option_map_or (λ more. Some told) o (Some next))) going
    ∙ signalled-steps boot drivers signals rest next going

-- one item
pub item-step : (boot : Booted) (drivers : Drivers) (item : Item) (rest : List Step) (told : NotifyPlay)
    → told.play.refused ≡ None
    → after_steps boot drivers (Takes item ∷ rest) told
    ≡ option_and_then (λ (n : NotifyPlay). after_steps boot drivers rest n) (after_item boot drivers item told)
item-step boot drivers item rest told going =
    ap (λ (o : Option ℕ). option_and_then (λ (n : NotifyPlay). after_steps boot drivers rest n)
    (option_map_or (λ more. Some told) o (after_item boot drivers item told))) going

-- signals print nothing
pub signalled-play : (signals : List Signal) (told : NotifyPlay) → (signalled_by signals told).play ≡ told.play
signalled-play [] told = refl
signalled-play (signal ∷ signals) told =
    signalled-play signals (record told { calls = desk.Signal signal.value ∷ told.calls })

-- behind a refused entry nothing comes
pub ended-steps : (boot : Booted) (drivers : Drivers) (steps : List Step) (told : NotifyPlay) (more : ℕ)
    → told.play.refused ≡ Some more → after_steps boot drivers steps told ≡ Some told
ended-steps boot drivers [] told more is = refl
ended-steps boot drivers (step ∷ steps) told more is =
    ap (λ (o : Option ℕ). option_and_then (λ (n : NotifyPlay). after_steps boot drivers steps n)
    (option_map_or (λ more. Some told) o (after_step boot drivers step told))) is
    ∙ ended-steps boot drivers steps told more is
