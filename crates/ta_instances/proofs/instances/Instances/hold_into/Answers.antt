use Rattle.std.proofs.Common.{arith}
use Rattle.ta_instances.proofs.KeptInstances.{held_is_instance, numbered_with}
use Rattle.ta_instances.proofs.instances.Instances.hold_into.Goals as goal

pub invariant_of-self : goal.invariant_of-self
invariant_of-self c =
    numbered_with c.self.inside.kept c.from.result c.hold.new.self c.self.invariant (omega arith)
    (rw c.hold.ensures.after (held_is_instance c.args.slot c.get_mut-instance.result.now))
