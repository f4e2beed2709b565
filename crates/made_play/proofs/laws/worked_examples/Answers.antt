use Rattle.std.proofs.Common.{refl}
use Rattle.std.specs.Fmt.{digits}
use Rattle.workload.specs.Work.{made_boot}
use Rattle.made_play.proofs.laws.worked_examples.Goals as goal

pub returns : goal.returns
unfolding digits made_boot
returns c = record {
  ok = refl;
  limit = refl;
  resume = refl;
  rpc = refl;
  least_rpc = refl;
  below_rpc = refl;
  fast_call = refl;
  no_call = refl;
}
