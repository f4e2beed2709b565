use Rattle.std.proofs.Common.{[], ◌∷◌, refl}
use Rattle.ta_step.specs.Machine.{state_of}
use Rattle.ta_step.proofs.Stores.{led_by_store}
use Rattle.ta_step.proofs.machine.Machine.put_byte.Goals as goal

pub returns : goal.returns
returns g c =
    led_by_store (state_of g.M.TaMemory.bytes c.args.self.now) _ _ _ c.args.addr 1 (c.args.value ∷ []) _ refl
    c.store-stored.ensures.found c.store-stored.ensures.state c.go_on_if.ensures
