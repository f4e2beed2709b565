use Rattle.std.proofs.Common.{◌≡◌, ℕ, List, Some, None, Err}
use Rattle.ns_ram.specs.declared.read.Read.{Read}
use Rattle.ns_ram.specs.Reader.{over_lane}
use Rattle.param_copy.specs.Copying.{memory}
use Rattle.param_copy.specs.Memory.{tmem_pieces}
use Rattle.param_copy.specs.Outcome.{UnlessMemory}
use Rattle.param_copy.proofs.Appended.{AppendsReads-trans}
use Rattle.param_copy.proofs.Attempts.{UnlessMemory-map, memory-taken, memory-refused, refused-is}
use Rattle.param_copy.proofs.take.take_tmem.Goals as goal

pub returns-in_err-pieces-clause-faulty : goal.returns-in_err-pieces-clause-faulty
returns-in_err-pieces-clause-faulty c =
    let pieces = tmem_pieces c.args.number c.args.param.now in
    let lane : List ℕ = c.args.lane.now in
    let after : List Read = c.tmem_pieces.new.reads in
    refused-is c.from_residual.result c.in_err-pieces.field-0.0
    (λ fault. UnlessMemory fault (over_lane (memory c.args.number c.args.way None pieces) lane c.args.reads.now ≡ Some (Err fault, after)))
    c.from_residual.ensures.1
    (UnlessMemory-map c.in_err-pieces.field-0.0 (memory-refused c.args.number c.args.way None pieces lane c.args.reads.now after c.in_err-pieces.field-0.0) c.in_err-pieces.ensures.faulty)

pub returns-clause-ok : goal.returns-clause-ok
returns-clause-ok c =
    rw c.memref.ensures.value
    (memory-taken c.args.number c.args.way None (tmem_pieces c.args.number c.args.param.now) c.args.lane.now c.args.reads.now c.tmem_pieces.new.reads c.take_bytes_of.new.reads c.in_ok-pieces.pieces.items c.in_ok-bytes.bytes.items c.in_ok-pieces.ensures.ok (rw c.as_slice.ensures.value at c.in_ok-bytes.ensures.ok))

pub returns-in_err-bytes-clause-appended : goal.returns-in_err-bytes-clause-appended
returns-in_err-bytes-clause-appended c =
    AppendsReads-trans c.args.lane.now c.args.reads.now c.tmem_pieces.new.reads c.take_bytes_of.new.reads c.in_ok-pieces.ensures.appended c.in_err-bytes.ensures.appended

pub returns-clause-appended : goal.returns-clause-appended
returns-clause-appended c =
    AppendsReads-trans c.args.lane.now c.args.reads.now c.tmem_pieces.new.reads c.take_bytes_of.new.reads c.in_ok-pieces.ensures.appended c.in_ok-bytes.ensures.appended
