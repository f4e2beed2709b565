use Rattle.std.proofs.Common.{length-set, arith}
use Rattle.base.specs.NumberMap.{IsRising-insert}
use Rattle.base.specs.Places.{IsAt}
use Rattle.base.proofs.MapLemmas.{changed_at}
use Rattle.base.proofs.number_table.NumberTable.get_mut.Goals as goal

pub invariant_of-self-lent : goal.invariant_of-self-lent
invariant_of-self-lent g c = λ w.
    let entries = c.self.inside.entries.items in
    let at : IsAt g.row.T.Denot entries c.args.number c.place_of-place.result = rw c.as_slice.ensures.value at c.place_of-place.ensures in
    let entry = c.index_mut-entry.result.now in (
      record {
        rising = rw (changed_at entries c.args.number c.place_of-place.result entry w at c.index_mut-entry.ensures.value) (IsRising-insert entries c.args.number w c.self.invariant.0.rising);
        few = let few = c.self.invariant.0.few in omega (arith, length-set entries c.place_of-place.result (entry.0, w));
      },
      c.self.invariant.1,
    )
