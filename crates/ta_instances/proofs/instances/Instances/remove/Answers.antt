use Rattle.ta_instances.proofs.KeptInstances.{numbered_without}
use Rattle.ta_instances.proofs.instances.Instances.remove.Goals as goal

pub invariant_of-self : goal.invariant_of-self
invariant_of-self c = rw c.remove-instance.ensures.after (numbered_without c.self.inside.kept c.from.result c.self.invariant)
