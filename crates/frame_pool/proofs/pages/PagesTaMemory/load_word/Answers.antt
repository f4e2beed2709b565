use Rattle.std.proofs.Common.{◌≡◌, ◌+◌, ◌/◌, ◌%◌, ◌≤◌, Some, length, refl, sym, ◌∙◌, arith}
use Rattle.std.proofs.lemmas.Bool.Decides.{nat_tests}
use Rattle.std.proofs.lemmas.Option.{slice_get_read}
use Rattle.std.specs.List.{slice_get}
use Rattle.frame_pool.proofs.PageBytes.{word_at-concat, word_at-concat_past}
use Rattle.frame_pool.proofs.pages.PagesTaMemory.load_word.Goals as goal

pub returns-in_err-frame : goal.returns-in_err-frame
returns-in_err-frame c =
    let past = rw c.as_slice.ensures.value at c.in_err-frame.ensures.lookup.3 in
    rw (c.from_residual.ensures, ← c.self.view_is) (sym (word_at-concat_past 4096 c.self.inside.frames.items (c.args.addr / 4096) (c.args.addr % 4096) c.args.addr c.self.invariant.0 past (omega arith)))

pub returns : goal.returns
returns c =
    let frames = c.self.inside.frames.items in
    let looked = rw c.as_slice.ensures.value at c.in_ok-frame.ensures.lookup in
    let found : slice_get frames (c.args.addr / 4096) ≡ Some c.in_ok-frame.frame.now = slice_get_read frames (length frames) (c.args.addr / 4096) c.in_ok-frame.frame.now refl looked.3.0 looked.1 in
    let within : c.args.addr % 4096 + 4 ≤ 4096 = grind (arith, nat_tests, c.crosses.ensures, c.if-crosses.false) in
    rw (← c.self.view_is) (sym (word_at-concat 4096 frames (c.args.addr / 4096) (c.args.addr % 4096) c.args.addr c.in_ok-frame.frame.now c.self.invariant.0 within found (omega arith) ∙ c.word.ensures))
