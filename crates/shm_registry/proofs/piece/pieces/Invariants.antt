use Rattle.shm_registry.proofs.Cutting.{Cut}
use Rattle.shm_registry.proofs.piece.pieces.Given as goal

abbrev pub invariant-loop-page : goal.invariant-loop-page
invariant-loop-page l = Cut l.pages l.start l.size l.others l.page-index l.offset l.left l.pieces.items
