use Rattle.std.proofs.Common.{List, ℕ, subst}
use Rattle.std.specs.List.{AllByRecursion}
use Rattle.exit_pages.specs.Covering.{CoversBytes, CoversPiece}
use Rattle.exit_pages.proofs.Marked.{bytes_still}
use Rattle.msg_args.specs.Layout.{param_place}
use Rattle.shm_registry.specs.declared.piece.Piece.{Piece}
use Rattle.exit_pages.proofs.places.mark_place.Goals as goal

pub returns-clause-covers : goal.returns-clause-covers
returns-clause-covers c = record {
  argument =
      bytes_still c.mark_param.new.pages c.mark_pieces.new.pages _ 32 c.mark_pieces.ensures.keeps
      (subst (λ (n : ℕ). CoversBytes c.mark_param.new.pages (param_place c.args.arg n) 32) c.from.ensures c.mark_param.ensures.covers);
  pieces = subst (λ (all : List Piece). AllByRecursion (CoversPiece c.mark_pieces.new.pages) all) c.as_slice.ensures c.mark_pieces.ensures.covers;
}

pub returns-clause-keeps : goal.returns-clause-keeps
returns-clause-keeps c = λ number is. c.mark_pieces.ensures.keeps number (c.mark_param.ensures.keeps number is)
