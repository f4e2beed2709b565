use Rattle.std.proofs.Common.{List, ℕ, ap, sym, ◌∙◌}
use Rattle.ns_ram.specs.Lane.{bytes_put}
use Rattle.core_machine.proofs.Fills.{filled-more}
use Rattle.core_machine.proofs.filling.first_lane.Goals as goal

pub loop-fill-preserved : goal.loop-fill-preserved
loop-fill-preserved c =
    let fill = c.fill-item.result in
    c.write.ensures.bytes ∙ ap (bytes_put c.loop-fill.lane fill.addr) c.as_slice.ensures
    ∙ ap (λ (lane : List ℕ). bytes_put lane fill.addr fill.bytes) c.loop-fill.invariant
    ∙ sym (filled-more c.args.fills.now c.loop-fill.fill-index fill c.loop-fill-test.true c.fill-item.is)
