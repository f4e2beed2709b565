use Rattle.param_copy.proofs.Writing.{PiecesPut}
use Rattle.param_copy.proofs.write_back.put_bytes.Given as goal

abbrev pub invariant-loop-piece : goal.invariant-loop-piece
invariant-loop-piece l = PiecesPut l.pieces l.bytes l.fn.lane l.piece-index l.left l.lane
