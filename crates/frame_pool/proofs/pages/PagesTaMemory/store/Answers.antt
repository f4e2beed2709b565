use Rattle.std.proofs.Common.{◌≡◌, ◌<◌, ◌≤◌, ◌/◌, ◌%◌, true, false, Some, length, refl, sym, arith}
use Rattle.std.proofs.lemmas.List.{set_past}
use Rattle.std.proofs.lemmas.Option.{slice_get_read}
use Rattle.std.specs.List.{concat, slice_get}
use Rattle.frame_pool.proofs.PageBytes.{length-concat, set-concat}
use Rattle.frame_pool.proofs.pages.PagesTaMemory.store.Goals as goal

pub returns-in_default-clause-stored : goal.returns-in_default-clause-stored
returns-in_default-clause-stored c =
    let whole = rw c.self.view_is at (length-concat 4096 c.self.inside.frames.items c.self.invariant.0) in
    let none : c.args.addr / 4096 < length c.self.inside.frames.items → ⊥ = λ h. let wrong : false ≡ true = c.in_default.ensures.variant.1 (omega arith) in cc in
    let past : length c.self.inside.frames.items ≤ c.args.addr / 4096 = omega (arith, none) in
    (λ stored. let wrong : false ≡ true = stored in cc, λ below. absurd (omega (arith, whole, past)))

pub returns-in_default-clause-bytes : goal.returns-in_default-clause-bytes
returns-in_default-clause-bytes c =
    let frames = c.self.inside.frames.items in
    let whole = length-concat 4096 frames c.self.invariant.0 in
    let none : c.args.addr / 4096 < length frames → ⊥ = λ h. let wrong : false ≡ true = c.in_default.ensures.variant.1 (omega arith) in cc in
    let past : length frames ≤ c.args.addr / 4096 = omega (arith, none) in
    rw (← c.self.view_is) (sym (set_past (concat frames) c.args.addr c.args.value (omega (arith, whole, past))))

pub returns-clause-stored : goal.returns-clause-stored
returns-clause-stored c =
    let whole = rw c.self.view_is at (length-concat 4096 c.self.inside.frames.items c.self.invariant.0) in
    let in_list = c.in-Some.ensures.variant.0 refl in
    let there : c.args.addr / 4096 < length c.self.inside.frames.items = omega arith in
    (λ stored. omega (arith, whole, there), λ below. refl)

pub returns-clause-bytes : goal.returns-clause-bytes
returns-clause-bytes c =
    let frames = c.self.inside.frames.items in
    let page = c.args.addr / 4096 in
    let in_list = c.in-Some.ensures.variant.0 refl in
    let there : page < length frames = omega arith in
    let found : slice_get frames page ≡ Some c.in-Some.frame.now = slice_get_read frames (length frames) page c.in-Some.frame.now refl there c.in-Some.ensures.value in
    rw (c.set.ensures, ← c.self.view_is) (set-concat 4096 frames page (c.args.addr % 4096) c.args.addr c.in-Some.frame.now c.args.value c.self.invariant.0 (omega arith) found (omega arith))
