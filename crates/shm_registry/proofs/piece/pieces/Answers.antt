use Rattle.std.proofs.Common.{◌≡◌, ◌<◌, arith}
use Rattle.shm_registry.specs.Pieces.{pieces_from}
use Rattle.shm_registry.proofs.Cutting.{Cut-all, Cut-done, Cut-none, pieces-in_ram, pieces-size}
use Rattle.shm_registry.proofs.piece.pieces.Goals as goal
use Rattle.shm_registry.proofs.piece.pieces.Goals.{else-loop-page-test, then-loop-page-test+then-left-eq0}

pub loop-page-init : goal.loop-page-init
loop-page-init c = rw c.new-pieces.ensures.items (Cut-none c.args.pages.now c.args.start c.args.size c.requires.pages)

pub returns-clause-in_ram : goal.returns-clause-in_ram
returns-clause-in_ram c =
    let whole : pieces_from c.args.pages.now c.args.start c.args.size ≡ c.loop-page.pieces.items =
    elim c.loop-page-test.branch [
      | else-loop-page-test w ↦ Cut-all _ _ _ _ _ _ _ _ c.loop-page.invariant (omega arith)
      | then-loop-page-test+then-left-eq0 w ↦ Cut-done _ _ _ _ _ _ _ _ c.loop-page.invariant (omega arith)
    ] in
    rw whole at (pieces-in_ram c.args.pages.now c.args.start c.args.size c.requires.pages)

pub returns-clause-size : goal.returns-clause-size
returns-clause-size c =
    let whole : pieces_from c.args.pages.now c.args.start c.args.size ≡ c.loop-page.pieces.items =
    elim c.loop-page-test.branch [
      | else-loop-page-test w ↦ Cut-all _ _ _ _ _ _ _ _ c.loop-page.invariant (omega arith)
      | then-loop-page-test+then-left-eq0 w ↦ Cut-done _ _ _ _ _ _ _ _ c.loop-page.invariant (omega arith)
    ] in
    let some : 0 < c.args.size = omega arith in
    rw whole at (pieces-size c.args.pages.now c.args.start c.args.size (c.requires.enough some))
