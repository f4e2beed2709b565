use Rattle.std.proofs.Common.{◌≡◌, ◌/◌, ◌%◌, Some, length, refl, sym, arith}
use Rattle.std.proofs.lemmas.Option.{slice_get_read}
use Rattle.std.specs.List.{slice_get}
use Rattle.frame_pool.proofs.PageBytes.{slice_get-concat, slice_get-concat_past}
use Rattle.frame_pool.proofs.pages.PagesTaMemory.load.Goals as goal

-- where the address stands: the number of its page, and its place there
pub returns-in_err-frame : goal.returns-in_err-frame
returns-in_err-frame c =
    let past = rw c.as_slice.ensures.value at c.in_err-frame.ensures.lookup.3 in
    rw (c.from_residual.ensures, ← c.self.view_is) (sym (slice_get-concat_past 4096 c.self.inside.frames.items (c.args.addr / 4096) (c.args.addr % 4096) c.args.addr c.self.invariant.0 past (omega arith)))

pub returns : goal.returns
returns c =
    let frames = c.self.inside.frames.items in
    let looked = rw c.as_slice.ensures.value at c.in_ok-frame.ensures.lookup in
    let found : slice_get frames (c.args.addr / 4096) ≡ Some c.in_ok-frame.frame.now = slice_get_read frames (length frames) (c.args.addr / 4096) c.in_ok-frame.frame.now refl looked.3.0 looked.1 in
    rw (← c.self.view_is) (sym (slice_get-concat 4096 frames (c.args.addr / 4096) (c.args.addr % 4096) c.args.addr c.in_ok-frame.frame.now c.get-2.result c.self.invariant.0 (omega arith) found c.get-2.ensures (omega arith)))
