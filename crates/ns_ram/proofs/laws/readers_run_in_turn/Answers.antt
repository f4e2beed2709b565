use Rattle.ns_ram.proofs.ReaderLaws.{over_lane-runs}
use Rattle.ns_ram.proofs.laws.readers_run_in_turn.Goals as goal

pub returns : goal.returns
returns g c = over_lane-runs
