use Rattle.param_copy.proofs.PieceReads.{PiecesTaken}
use Rattle.param_copy.proofs.memory.take_pieces.Given as goal

abbrev pub invariant-loop-piece : goal.invariant-loop-piece
invariant-loop-piece l = PiecesTaken l.pieces l.lane l.fn.reads l.piece-index l.bytes.items l.reads
