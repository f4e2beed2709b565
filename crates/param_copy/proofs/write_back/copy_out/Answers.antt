use Rattle.std.proofs.Common.{◌<◌, List, length}
use Rattle.param_copy.specs.declared.copied.Place.{Place}
use Rattle.param_copy.specs.WritingBack.{params_of}
use Rattle.param_copy.proofs.Writing.{PlacesPut-next}
use Rattle.param_copy.proofs.write_back.copy_out.Goals as goal

pub loop-i-preserved : goal.loop-i-preserved
loop-i-preserved c =
    let places : List Place = c.args.places.now.items in
    let inside : c.loop-i.i < length places = rw c.as_slice-place-items.ensures.value at c.loop-i-test.true in
    PlacesPut-next c.args.arg places (params_of c.args.params.now) c.args.lane.now c.loop-i.i c.loop-i.lane c.place-item.result c.place-item.result c.param_at.result.now c.put_param.new.lane c.loop-i.invariant inside (rw c.as_slice-place-items.ensures.value at c.place-item.is) c.param_at.ensures c.put_param.ensures
