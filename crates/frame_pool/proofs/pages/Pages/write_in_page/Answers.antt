use Rattle.std.proofs.Common.{◌≡◌, ◌/◌, ◌%◌, ◌<◌, Some, length, refl, arith}
use Rattle.std.proofs.lemmas.Option.{slice_get_read}
use Rattle.std.specs.List.{slice_get}
use Rattle.frame_pool.proofs.PageBytes.{length-concat, overwritten-concat, whole_page}
use Rattle.frame_pool.proofs.pages.Pages.write_in_page.Goals as goal

pub index_mut-frame-requires : goal.index_mut-frame-requires
index_mut-frame-requires c =
    let whole = rw c.self.view_is at (length-concat 4096 c.self.inside.frames.items c.self.invariant.0) in
    omega (arith, whole)

pub write-requires : goal.write-requires
write-requires c =
    let frames = c.self.inside.frames.items in
    let page = c.args.at / 4096 in
    let whole = rw c.self.view_is at (length-concat 4096 frames c.self.invariant.0) in
    let there : page < length frames = omega (arith, whole) in
    let found : slice_get frames page ≡ Some c.index_mut-frame.result.now = slice_get_read frames (length frames) page c.index_mut-frame.result.now refl there c.index_mut-frame.ensures.value in
    omega (arith, whole_page 4096 frames page c.index_mut-frame.result.now c.self.invariant.0 found)

pub returns : goal.returns
returns c =
    let frames = c.self.inside.frames.items in
    let page = c.args.at / 4096 in
    let whole = rw c.self.view_is at (length-concat 4096 frames c.self.invariant.0) in
    let there : page < length frames = omega (arith, whole) in
    let found : slice_get frames page ≡ Some c.index_mut-frame.result.now = slice_get_read frames (length frames) page c.index_mut-frame.result.now refl there c.index_mut-frame.ensures.value in
    rw (c.write.ensures, ← c.self.view_is)
    (overwritten-concat 4096 frames page (c.args.at % 4096) c.args.at c.index_mut-frame.result.now c.args.part.now c.self.invariant.0 c.requires.page found (omega arith))
