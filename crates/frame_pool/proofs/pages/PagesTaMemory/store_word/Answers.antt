use Rattle.std.proofs.Common.{◌≡◌, ◌+◌, ◌<◌, ◌≤◌, ◌/◌, ◌%◌, true, false, Some, length, refl, sym, ◌∙◌, arith}
use Rattle.std.proofs.lemmas.Bool.Decides.{nat_tests}
use Rattle.std.proofs.lemmas.Option.{slice_get_read}
use Rattle.std.specs.List.{concat, slice_get}
use Rattle.frame_pool.proofs.PageBytes.{length-concat, overwritten-concat, written-past, written-there}
use Rattle.frame_pool.proofs.pages.PagesTaMemory.store_word.Goals as goal

pub returns-in_default-clause-inside : goal.returns-in_default-clause-inside
returns-in_default-clause-inside c =
    let whole = rw c.self.view_is at (length-concat 4096 c.self.inside.frames.items c.self.invariant.0) in
    let none : c.args.addr / 4096 < length c.self.inside.frames.items → ⊥ = λ h. let wrong : false ≡ true = c.in_default.ensures.variant.1 (omega arith) in cc in
    let short : length c.args.self.now < c.args.addr + 4 = omega (arith, whole, none) in
    grind (arith, nat_tests, short)

pub returns-in_default-clause-bytes : goal.returns-in_default-clause-bytes
returns-in_default-clause-bytes c =
    let frames = c.self.inside.frames.items in
    let whole = length-concat 4096 frames c.self.invariant.0 in
    let none : c.args.addr / 4096 < length frames → ⊥ = λ h. let wrong : false ≡ true = c.in_default.ensures.variant.1 (omega arith) in cc in
    let past : length frames ≤ c.args.addr / 4096 = omega (arith, none) in
    rw (← c.self.view_is) (sym (written-past (concat frames) c.args.word c.args.addr (omega (arith, whole, past))))

pub returns-clause-inside : goal.returns-clause-inside
returns-clause-inside c =
    let whole = rw c.self.view_is at (length-concat 4096 c.self.inside.frames.items c.self.invariant.0) in
    let in_list = c.in-Some.ensures.variant.0 refl in
    let there : c.args.addr / 4096 < length c.self.inside.frames.items = omega arith in
    let within : c.args.addr % 4096 + 4 ≤ 4096 = grind (arith, nat_tests, c.crosses.ensures, c.if-crosses.false) in
    let inside : c.args.addr + 4 ≤ length c.args.self.now = omega (arith, whole, there, within) in
    grind (arith, nat_tests, inside)

pub returns-clause-bytes : goal.returns-clause-bytes
returns-clause-bytes c =
    let frames = c.self.inside.frames.items in
    let whole = length-concat 4096 frames c.self.invariant.0 in
    let page = c.args.addr / 4096 in
    let in_list = c.in-Some.ensures.variant.0 refl in
    let there : page < length frames = omega arith in
    let found : slice_get frames page ≡ Some c.in-Some.frame.now = slice_get_read frames (length frames) page c.in-Some.frame.now refl there c.in-Some.ensures.value in
    let within : c.args.addr % 4096 + 4 ≤ 4096 = grind (arith, nat_tests, c.crosses.ensures, c.if-crosses.false) in
    let inside : c.args.addr + length c.args.word ≤ length (concat frames) = omega (arith, whole, there, within) in
    rw (c.set_word.ensures, ← c.self.view_is)
    (overwritten-concat 4096 frames page (c.args.addr % 4096) c.args.addr c.in-Some.frame.now c.args.word c.self.invariant.0 (omega (arith, within)) found (omega arith)
    ∙ sym (written-there (concat frames) c.args.word c.args.addr inside))
