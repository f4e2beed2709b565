use Rattle.ns_ram.proofs.ReaderLaws.{over_lane-appends}
use Rattle.ns_ram.proofs.laws.readers_add_their_reads.Goals as goal

pub returns : goal.returns
returns g c = over_lane-appends
