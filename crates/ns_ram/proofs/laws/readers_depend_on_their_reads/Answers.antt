use Rattle.ns_ram.proofs.ReaderLaws.{over_lane-reading}
use Rattle.ns_ram.proofs.laws.readers_depend_on_their_reads.Goals as goal

pub returns : goal.returns
returns g c = over_lane-reading
