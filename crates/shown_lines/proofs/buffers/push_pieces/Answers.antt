use Rattle.std.proofs.Common.{◌≡◌, ◌-◌, arith}
use Rattle.shown_lines.proofs.Texts.{pieces_full, pieces_more, pieces_over}
use Rattle.shown_lines.proofs.buffers.push_pieces.Goals as goal

pub loop-page-preserved : goal.loop-page-preserved
loop-page-preserved c = (
  rw c.from-offset.ensures (
      pieces_more c.loop-page.page c.args.registry.now c.args.cookie c.loop-page.offset c.in-Some.piece c.loop-page.text.items
      c.push_piece.new.text.items _ (omega arith) c.in-Some.ensures.piece c.loop-page.invariant.0 (c.in_ok-push_piece.ensures)
      ),
  omega (arith, c.loop-page.invariant.1, c.in-Some.ensures.in_ram.1, c.in-Some.ensures.in_ram.0, c.from-offset.ensures),
)

pub returns-after-loop-page : goal.returns-after-loop-page
returns-after-loop-page c =
    pieces_full c.args.registry.now c.args.cookie c.loop-page.offset c.loop-page.text.items _
    (let none : 1024 - c.loop-page.page ≡ 0 = omega arith in rw none at c.loop-page.invariant.0)

pub returns-in_default : goal.returns-in_default
returns-in_default c =
    pieces_over c.loop-page.page c.args.registry.now c.args.cookie c.loop-page.offset c.loop-page.text.items _ (omega arith)
    c.in_default.ensures.piece c.loop-page.invariant.0
