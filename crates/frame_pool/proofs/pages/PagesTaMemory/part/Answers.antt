use Rattle.std.proofs.Common.{◌≡◌, ◌+◌, ◌-◌, ◌/◌, ◌%◌, ◌<◌, ◌≤◌, Some, length, drop, refl, ap, ◌∙◌, sym, arith, length-drop}
use Rattle.std.proofs.lemmas.List.{take_all}
use Rattle.std.proofs.lemmas.Option.{slice_get_read}
use Rattle.std.specs.List.{slice_get}
use Rattle.frame_pool.proofs.PageBytes.{length-concat, part_of-concat, whole_page}
use Rattle.frame_pool.proofs.pages.PagesTaMemory.part.Goals as goal

pub index-frame-requires : goal.index-frame-requires
index-frame-requires c =
    let whole = rw c.self.view_is at (length-concat 4096 c.self.inside.frames.items c.self.invariant.0) in
    omega (arith, whole)

pub part-requires : goal.part-requires
part-requires c =
    let frames = c.self.inside.frames.items in
    let page = c.args.addr / 4096 in
    let whole = rw c.self.view_is at (length-concat 4096 frames c.self.invariant.0) in
    let there : page < length frames = omega (arith, whole) in
    let found : slice_get frames page ≡ Some c.index-frame.result.now = slice_get_read frames (length frames) page c.index-frame.result.now refl there c.index-frame.ensures in
    omega (arith, whole_page 4096 frames page c.index-frame.result.now c.self.invariant.0 found)

pub returns-clause-part : goal.returns-clause-part
returns-clause-part c =
    let frames = c.self.inside.frames.items in
    let page = c.args.addr / 4096 in
    let place = c.args.addr % 4096 in
    let frame = c.index-frame.result.now in
    let whole = rw c.self.view_is at (length-concat 4096 frames c.self.invariant.0) in
    let there : page < length frames = omega (arith, whole) in
    let found : slice_get frames page ≡ Some frame = slice_get_read frames (length frames) page frame refl there c.index-frame.ensures in
    let long : length frame ≡ 4096 = whole_page 4096 frames page frame c.self.invariant.0 found in
    let count : length c.part.result.now ≡ length frame - place = ap length c.part.ensures ∙ length-drop place frame in
    let within : place + length c.part.result.now ≤ 4096 = omega arith in
    let all : length (drop place frame) ≤ length c.part.result.now = omega (arith, length-drop place frame) in
    rw (← c.self.view_is)
    (c.part.ensures
    ∙ sym (take_all (length c.part.result.now) (drop place frame) all)
    ∙ sym (part_of-concat 4096 frames page place c.args.addr (length c.part.result.now) frame c.self.invariant.0 within found (omega arith)))

pub returns-clause-some : goal.returns-clause-some
returns-clause-some c =
    let frames = c.self.inside.frames.items in
    let page = c.args.addr / 4096 in
    let place = c.args.addr % 4096 in
    let frame = c.index-frame.result.now in
    let whole = rw c.self.view_is at (length-concat 4096 frames c.self.invariant.0) in
    let there : page < length frames = omega (arith, whole) in
    let found : slice_get frames page ≡ Some frame = slice_get_read frames (length frames) page frame refl there c.index-frame.ensures in
    let long : length frame ≡ 4096 = whole_page 4096 frames page frame c.self.invariant.0 found in
    let count : length c.part.result.now ≡ length frame - place = ap length c.part.ensures ∙ length-drop place frame in
    omega arith
