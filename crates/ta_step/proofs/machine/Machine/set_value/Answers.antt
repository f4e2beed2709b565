use Rattle.ta_step.specs.Machine.{state_of}
use Rattle.ta_step.proofs.Stores.{led_by_change}
use Rattle.ta_step.proofs.machine.Machine.set_value.Goals as goal

pub returns : goal.returns
returns g c =
    led_by_change (state_of g.M.TaMemory.bytes c.args.self.now) _ _ _ _ _ c.set_value-done.ensures.done c.set_value-done.ensures.params c.go_on_if.ensures
