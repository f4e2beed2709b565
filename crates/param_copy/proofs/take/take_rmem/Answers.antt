use Rattle.std.proofs.Common.{Some, refl}
use Rattle.param_copy.specs.Memory.{rmem_pieces}
use Rattle.param_copy.proofs.Attempts.{memory-taken}
use Rattle.param_copy.proofs.take.take_rmem.Goals as goal

pub returns-clause-ok : goal.returns-clause-ok
returns-clause-ok c =
    rw c.memref.ensures.value
    (memory-taken c.args.number c.args.way (Some c.args.param.now.s) (rmem_pieces c.args.registry.now.buffers c.args.number c.args.param.now) c.args.lane.now c.args.reads.now c.args.reads.now c.take_bytes_of.new.reads c.in_ok-pieces.pieces.items c.in_ok-bytes.bytes.items (rw c.in_ok-pieces.ensures.ok refl) (rw c.as_slice.ensures.value at c.in_ok-bytes.ensures.ok))
