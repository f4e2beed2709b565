use Rattle.ns_ram.proofs.LaneBytes.{bytes_at-zeros}
use Rattle.ns_ram.proofs.laws.zeros_are_read_everywhere.Goals as goal

pub returns : goal.returns
returns c = bytes_at-zeros
