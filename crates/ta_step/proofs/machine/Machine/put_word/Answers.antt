use Rattle.std.proofs.Common.{◌≡◌, length, rules}
use Rattle.ta_step.specs.Machine.{state_of}
use Rattle.ta_step.proofs.Stores.{led_by_store}
use Rattle.ta_step.proofs.machine.Machine.put_word.Goals as goal

pub returns : goal.returns
returns g c =
    let four : length c.args.word ≡ 4 = search rules in
    led_by_store (state_of g.M.TaMemory.bytes c.args.self.now) _ _ _ c.args.addr 4 c.args.word _ four
    c.store_word-stored.ensures.inside c.store_word-stored.ensures.state c.go_on_if.ensures
