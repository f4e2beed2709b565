use Rattle.std.proofs.Common.{List, ℕ, ap, ◌∙◌}
use Rattle.ns_ram.specs.Lane.{bytes_at}
use Rattle.core_machine.proofs.Lanes.{lane_read}
use Rattle.core_machine.proofs.machine.Machine.show.Goals as goal

pub returns-clause-bytes : goal.returns-clause-bytes
returns-clause-bytes c boot play at =
    c.at.ensures.bytes
    ∙ ap (λ (lane : List ℕ). bytes_at lane c.args.addr c.args.len)
    (lane_read play c.args.self.now c.from.result c.args.cpu c.index.result.now c.requires.cpu c.from.ensures
    c.index.ensures at.lanes)
