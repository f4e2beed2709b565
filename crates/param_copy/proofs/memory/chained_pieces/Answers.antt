use Rattle.std.proofs.Common.{◌-◌, ◌%◌, Ok, refl, sym, ◌∙◌, arith}
use Rattle.std.proofs.lemmas.Bool.Decides.{nat_tests}
use Rattle.ns_ram.specs.Pages.{walk}
use Rattle.param_copy.specs.Memory.{cut_at_pages}
use Rattle.param_copy.proofs.GoodPages.{walk-good}
use Rattle.param_copy.proofs.PieceReads.{onward}
use Rattle.param_copy.proofs.memory.chained_pieces.Goals as goal

pub pieces-requires-clause-few : goal.pieces-requires-clause-few
pieces-requires-clause-few c =
    let good = walk-good (c.args.param.now.p - c.args.param.now.p % 4096) c.page_count-count.result c.args.lane.now c.args.reads.now c.take_pages.new.reads c.in-Ok.pages.items c.in-Ok.ensures.pages in
    rw c.as_slice.ensures.value (omega (arith, good.many))

pub pieces-requires-clause-enough : goal.pieces-requires-clause-enough
pieces-requires-clause-enough c =
    let good = walk-good (c.args.param.now.p - c.args.param.now.p % 4096) c.page_count-count.result c.args.lane.now c.args.reads.now c.take_pages.new.reads c.in-Ok.pages.items c.in-Ok.ensures.pages in
    λ some. rw c.as_slice.ensures.value (grind (arith, nat_tests, good.many))

pub returns-in_ok-pieces-in-Ok-clause-ok : goal.returns-in_ok-pieces-in-Ok-clause-ok
returns-in_ok-pieces-in-Ok-clause-ok c =
    let param = c.args.param.now in
    rw (sym c.page_count-count.ensures.count)
    (onward (walk (param.p - param.p % 4096) c.page_count-count.result) (cut_at_pages c.args.number param) c.args.lane.now c.args.reads.now c.take_pages.new.reads (Ok c.in-Ok.pages.items) c.in-Ok.ensures.pages
    ∙ rw (c.in_ok-pieces-in-Ok.ensures.pieces, c.as_slice.ensures.value) refl)
