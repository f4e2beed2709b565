use Rattle.param_copy.specs.WritingBack.{params_of}
use Rattle.param_copy.proofs.Writing.{PlacesPut}
use Rattle.param_copy.proofs.write_back.copy_out.Given as goal

abbrev pub invariant-loop-i : goal.invariant-loop-i
invariant-loop-i l = PlacesPut l.arg l.places.items (params_of l.params) l.fn.lane l.i l.lane
