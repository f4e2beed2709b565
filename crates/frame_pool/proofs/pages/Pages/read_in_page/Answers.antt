use Rattle.std.proofs.Common.{◌≡◌, ◌/◌, ◌%◌, ◌<◌, Some, length, refl, ◌∙◌, sym, arith}
use Rattle.std.proofs.lemmas.Option.{slice_get_read}
use Rattle.std.specs.List.{slice_get}
use Rattle.frame_pool.proofs.PageBytes.{length-concat, part_of-concat, whole_page}
use Rattle.frame_pool.proofs.pages.Pages.read_in_page.Goals as goal

pub index-frame-requires : goal.index-frame-requires
index-frame-requires c =
    let whole = rw c.self.view_is at (length-concat 4096 c.self.inside.frames.items c.self.invariant.0) in
    omega (arith, whole)

pub read-requires : goal.read-requires
read-requires c =
    let frames = c.self.inside.frames.items in
    let page = c.args.at / 4096 in
    let whole = rw c.self.view_is at (length-concat 4096 frames c.self.invariant.0) in
    let there : page < length frames = omega (arith, whole) in
    let found : slice_get frames page ≡ Some c.index-frame.result.now = slice_get_read frames (length frames) page c.index-frame.result.now refl there c.index-frame.ensures in
    omega (arith, whole_page 4096 frames page c.index-frame.result.now c.self.invariant.0 found)

pub returns : goal.returns
returns c =
    let frames = c.self.inside.frames.items in
    let page = c.args.at / 4096 in
    let whole = rw c.self.view_is at (length-concat 4096 frames c.self.invariant.0) in
    let there : page < length frames = omega (arith, whole) in
    let found : slice_get frames page ≡ Some c.index-frame.result.now = slice_get_read frames (length frames) page c.index-frame.result.now refl there c.index-frame.ensures in
    rw (← c.self.view_is)
    (c.read.ensures
    ∙ sym (part_of-concat 4096 frames page (c.args.at % 4096) c.args.at (length c.args.out.now) c.index-frame.result.now c.self.invariant.0 c.requires.page found (omega arith)))
