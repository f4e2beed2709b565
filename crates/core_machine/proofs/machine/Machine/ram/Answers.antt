use Rattle.std.proofs.Common.{◌∙◌}
use Rattle.core_machine.proofs.Lanes.{all_bytes, lane_read}
use Rattle.core_machine.proofs.machine.Machine.ram.Goals as goal

pub returns-clause-lane : goal.returns-clause-lane
returns-clause-lane c boot play at =
    c.at.ensures.bytes ∙ all_bytes c.index.result.now c.at.ensures.whole
    ∙ lane_read play c.args.self.now c.from.result c.args.cpu c.index.result.now c.requires c.from.ensures c.index.ensures
    at.lanes
