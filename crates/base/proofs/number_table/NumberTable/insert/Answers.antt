use Rattle.std.proofs.Common.{◌≡◌, ◌<◌, ◌++◌, ◌∷◌, take, drop, length, length-append, length-drop, arith}
use Rattle.std.proofs.lemmas.List.{length-take-le}
use Rattle.base.specs.NumberMap.{IsRising-insert}
use Rattle.base.specs.Places.{IsBefore}
use Rattle.base.proofs.number_table.NumberTable.insert.Goals as goal

pub invariant_of-self : goal.invariant_of-self
invariant_of-self g c =
    let entries = c.self.inside.entries.items in
    let place = c.place_for-place.result in
    let before : IsBefore g.row.T.Denot entries c.args.number place = rw c.as_slice.ensures.value at c.place_for-place.ensures in
    let items : c.insert.new.self.items ≡ take place entries ++ (c.args.number, c.args.value) ∷ drop place entries =
    rw c.unwrap.ensures at c.insert.ensures.items in
    let room : length entries < g.row.ROOM = rw (← c.self.view_is) at c.requires.room in (
      record {
        rising = rw (items, ← before.with c.args.value) (IsRising-insert entries c.args.number c.args.value c.self.invariant.0.rising);
        few = rw items (omega (arith, length-append (take place entries) ((c.args.number, c.args.value) ∷ drop place entries), length-take-le place entries before.inside, length-drop place entries));
      },
      omega (arith, c.insert.ensures.capacity, c.self.invariant.1),
    )
