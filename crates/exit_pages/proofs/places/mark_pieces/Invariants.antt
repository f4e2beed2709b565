use Rattle.exit_pages.specs.Covering.{CoversPiece}
use Rattle.exit_pages.proofs.Marked.{CoversTo}
use Rattle.page_set.specs.Pages.{IsWithin}
use Rattle.exit_pages.proofs.places.mark_pieces.Given as goal

abbrev pub invariant-loop-piece : goal.invariant-loop-piece
invariant-loop-piece l = record {
  covers : CoversTo CoversPiece l.pages l.pieces l.piece-index;
  keeps : IsWithin l.initial.pages l.pages;
}
