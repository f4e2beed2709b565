-- Nobody is inside.
use Rattle.core_at_work.proofs.Kept.{first}
use Rattle.core_at_work.proofs.core_at_work.CoreAtWork.new.Goals as goal

pub invariant_of-result : goal.invariant_of-result
invariant_of-result c = record {
  own = ∣ first c.args.core c.in_ok-outgoing.outgoing.items c.requires c.in_ok-outgoing.ensures ∣₁;
}
