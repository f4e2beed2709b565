use Rattle.std.proofs.Common.{arith}
use Rattle.base.specs.NumberMap.{IsRising-remove}
use Rattle.base.specs.Places.{IsAt}
use Rattle.base.proofs.number_table.NumberTable.remove.Goals as goal

pub invariant_of-self : goal.invariant_of-self
invariant_of-self g c =
    let entries = c.self.inside.entries.items in
    let at : IsAt g.row.T.Denot entries c.args.number c.place_of-place.result = rw c.as_slice.ensures.value at c.place_of-place.ensures in (
      record {
        rising = rw (c.remove-number.ensures.items, ← at.without) (IsRising-remove entries c.args.number c.self.invariant.0.rising);
        few = omega (arith, c.remove-number.ensures.len, c.self.invariant.0.few);
      },
      rw c.remove-number.ensures.capacity c.self.invariant.1,
    )
