use Rattle.std.proofs.Common.{ℕ, get_or, subst, arith}
use Rattle.exit_pages.specs.Covering.{CoversBytes, CoversPiece}
use Rattle.exit_pages.proofs.Marked.{bytes_still, covers_all, covers_more}
use Rattle.exit_pages.proofs.places.mark_pieces.Goals as goal

pub loop-piece-init : goal.loop-piece-init
loop-piece-init c = record { covers = λ all within others. others; keeps = λ number is. is }

pub loop-piece-preserved : goal.loop-piece-preserved
loop-piece-preserved c = record {
  covers =
      covers_more CoversPiece c.loop-piece.pages c.mark.new.self c.args.pieces.now c.loop-piece.piece-index (record { addr = 0; len = 0 })
      (λ all x wider here. bytes_still c.mark.new.self all x.addr x.len wider here) c.loop-piece-test.true c.mark.ensures.keeps
      (subst (λ (n : ℕ). CoversBytes c.mark.new.self (get_or c.args.pieces.now c.loop-piece.piece-index (record { addr = 0; len = 0 })).addr n)
      c.from.ensures c.mark.ensures.bytes)
      c.loop-piece.invariant.covers;
  keeps = λ number is. c.mark.ensures.keeps number (c.loop-piece.invariant.keeps number is);
}

pub returns-clause-covers : goal.returns-clause-covers
returns-clause-covers c =
    covers_all CoversPiece c.loop-piece.pages c.args.pieces.now c.loop-piece.piece-index
    (omega (arith, c.loop-piece.auto.piece-index-end, c.loop-piece-test.false)) c.loop-piece.invariant.covers

pub returns-clause-keeps : goal.returns-clause-keeps
returns-clause-keeps c = c.loop-piece.invariant.keeps
