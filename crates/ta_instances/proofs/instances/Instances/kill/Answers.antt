use Rattle.std.proofs.Common.{arith}
use Rattle.ta_instances.proofs.KeptInstances.{killed_is_instance, numbered_with}
use Rattle.ta_instances.proofs.instances.Instances.kill.Goals as goal

pub invariant_of-self : goal.invariant_of-self
invariant_of-self c =
    numbered_with c.self.inside.kept c.from.result c.kill.new.self c.self.invariant (omega arith)
    (rw c.kill.ensures (killed_is_instance c.get_mut-instance.result.now))
