use Rattle.std.proofs.Common.{◌≡◌, ◌-◌}
use Rattle.std.specs.Option.{option_map}
use Rattle.ta_step.specs.Machine.{state_of}
use Rattle.ta_step.specs.Runs.{later, runs}
use Rattle.ta_step.proofs.machine.Machine.run.Given as goal

abbrev pub invariant-loop-used : goal.invariant-loop-used
invariant-loop-used g l =
    runs l.image.code l.steps (state_of g.M.TaMemory.bytes l.initial.self)
    ≡ option_map (later l.used) (runs l.image.code (l.steps - l.used) (state_of g.M.TaMemory.bytes l.self))
