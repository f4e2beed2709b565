use Rattle.std.proofs.Common.{◌≡◌, ◌∙◌, get_or, length, refl, arith}
use Rattle.ns_ram.specs.Reader.{take_bytes}
use Rattle.ns_ram.proofs.PageWalk.{AppendsReads-step}
use Rattle.shm_registry.specs.declared.piece.Piece.{Piece}
use Rattle.param_copy.proofs.PieceReads.{PiecesTaken-all, PiecesTaken-in_ram, PiecesTaken-len, PiecesTaken-none, PiecesTaken-next}
use Rattle.param_copy.proofs.memory.take_pieces.Goals as goal

pub loop-piece-init : goal.loop-piece-init
loop-piece-init c = rw c.in_ok-bytes.ensures.items (PiecesTaken-none c.args.pieces.now c.args.lane.now c.args.reads.now c.requires.in_ram)

pub loop-piece-preserved : goal.loop-piece-preserved
loop-piece-preserved c =
    let piece : Piece = get_or c.args.pieces.now c.loop-piece.piece-index record { addr = 0; len = 0 } in
    let len : length c.in_ok-part.part.now ≡ piece.len = c.in_ok-part.ensures.len ∙ c.from.ensures in
    rw c.in_ok-extend_from_slice.ensures.items
    (PiecesTaken-next c.args.pieces.now c.args.lane.now c.args.reads.now c.loop-piece.piece-index c.loop-piece.bytes.items c.loop-piece.reads c.take_bytes.new.self piece record { addr = 0; len = 0 } c.in_ok-part.part.now c.loop-piece.invariant c.loop-piece-test.true refl len (rw c.from.ensures at c.in_ok-part.ensures.ok))

pub take_bytes-requires : goal.take_bytes-requires
take_bytes-requires c =
    let piece : Piece = get_or c.args.pieces.now c.loop-piece.piece-index record { addr = 0; len = 0 } in
    rw c.from.ensures
    (PiecesTaken-in_ram c.args.pieces.now c.args.lane.now c.args.reads.now c.loop-piece.piece-index c.loop-piece.bytes.items c.loop-piece.reads piece record { addr = 0; len = 0 } c.loop-piece.invariant c.loop-piece-test.true refl)

pub returns-in_err-part-clause-appended : goal.returns-in_err-part-clause-appended
returns-in_err-part-clause-appended c = rw c.in_err-part.ensures.err c.loop-piece.invariant.added

pub returns-in_err-extend_from_slice-clause-appended : goal.returns-in_err-extend_from_slice-clause-appended
returns-in_err-extend_from_slice-clause-appended c =
    let piece : Piece = get_or c.args.pieces.now c.loop-piece.piece-index record { addr = 0; len = 0 } in
    AppendsReads-step (take_bytes piece.addr c.from.result) c.args.lane.now c.args.reads.now c.loop-piece.reads c.take_bytes.new.self c.in_ok-part.part.now c.loop-piece.invariant.added c.in_ok-part.ensures.ok

pub returns-clause-ok : goal.returns-clause-ok
returns-clause-ok c =
    let all : c.loop-piece.piece-index ≡ length c.args.pieces.now = omega arith in
    PiecesTaken-all c.args.pieces.now c.args.lane.now c.args.reads.now c.loop-piece.bytes.items c.loop-piece.reads (rw all at c.loop-piece.invariant)

pub returns-clause-len : goal.returns-clause-len
returns-clause-len c =
    let all : c.loop-piece.piece-index ≡ length c.args.pieces.now = omega arith in
    PiecesTaken-len c.args.pieces.now c.args.lane.now c.args.reads.now c.loop-piece.bytes.items c.loop-piece.reads (rw all at c.loop-piece.invariant)

pub returns-clause-appended : goal.returns-clause-appended
returns-clause-appended c = c.loop-piece.invariant.added
