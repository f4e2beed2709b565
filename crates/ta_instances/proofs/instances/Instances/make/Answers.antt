use Rattle.std.proofs.Common.{arith}
use Rattle.ta_instances.proofs.KeptInstances.{made_is_instance, numbered_with}
use Rattle.ta_instances.proofs.instances.Instances.make.Goals as goal

pub invariant_of-self : goal.invariant_of-self
invariant_of-self c =
    rw c.insert.ensures
    (numbered_with c.self.inside.kept c.from.result c.new-instance.result c.self.invariant (omega arith) (rw c.new-instance.ensures (made_is_instance c.args.uuid c.args.memory)))
