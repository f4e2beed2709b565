use Rattle.std.proofs.Common.{◌≡◌, ◌+◌, ◌<◌, List, ℕ, length, suc, sym, subst, ◌∙◌, arith}
use Rattle.shown_lines.proofs.Pages.{AreTold, front_is, kept_here, long_enough, none_told, page_in, passed_page, told_all, told_page}
use Rattle.page_set.proofs.PagesKept.{kept_from}
use Rattle.shown_lines.proofs.changes.push_changes.Goals as goal

pub loop-page-init : goal.loop-page-init
loop-page-init c = λ before are.
    none_told c.args.kept.now before c.args.after.now c.args.cpu c.args.text.now.items _ c.as_slice-left.ensures.value are

pub split_at-requires : goal.split_at-requires
split_at-requires c =
    let page = c.loop-page.page in
    let kept = c.args.kept.now in
    let before = c.requires.kept.0 in
    let are = c.requires.kept.1 in
    let within : page < length kept.pages = omega (arith, c.loop-page-test.true, c.capacity-page-end.ensures.marks) in
    let few : page < 1024 = omega (arith, c.loop-page-test.true, c.capacity-page-end.ensures.all) in
    long_enough before c.loop-page.left.now (kept_from kept.pages before (suc page)) page are.whole few
    (kept_here kept before c.args.after.now c.args.cpu page c.args.text.now.items c.loop-page.text.items c.loop-page.left.now within
    (sym c.has.ensures ∙ c.if-not-has.false) (c.loop-page.invariant before are))

pub loop-page-preserved : goal.loop-page-preserved
loop-page-preserved c = λ before are.
    let page = c.loop-page.page in
    let kept = c.args.kept.now in
    let after = c.args.after.now in
    let start = c.args.text.now.items in
    let text = c.loop-page.text.items in
    let left = c.loop-page.left.now in
    let so = c.loop-page.invariant before are in
    let has = sym c.has.ensures ∙ c.if-not-has.false in
    let within : page < length kept.pages = omega (arith, c.loop-page-test.true, c.capacity-page-end.ensures.marks) in
    let few : page < 1024 = omega (arith, c.loop-page-test.true, c.capacity-page-end.ensures.all) in
    let here = kept_here kept before after c.args.cpu page start text left within has so in
    let was = c.split_at.ensures.front ∙ front_is before left (kept_from kept.pages before (suc page)) page are.whole few here in
    let more = c.in_ok-push_page.ensures before after start was (page_in after page _ _ (omega arith) (omega arith)) so.told in
    subst (λ (l : List ℕ). AreTold kept before after c.args.cpu (page + 1) start c.push_page.new.text.items l) (sym c.split_at.ensures.back)
    (told_page kept before after c.args.cpu page start text left c.push_page.new.text.items are.whole few within has so more)

pub loop-page-preserved-then-not-has : goal.loop-page-preserved-then-not-has
loop-page-preserved-then-not-has c = λ before are.
    let page = c.loop-page.page in
    let kept = c.args.kept.now in
    let within : page < length kept.pages = omega (arith, c.loop-page-test.true, c.capacity-page-end.ensures.marks) in
    let few : page < 1024 = omega (arith, c.loop-page-test.true, c.capacity-page-end.ensures.all) in
    passed_page kept before c.args.after.now c.args.cpu page c.args.text.now.items c.loop-page.text.items c.loop-page.left.now are few
    within (sym c.has.ensures ∙ c.if-not-has.true) (c.loop-page.invariant before are)

pub returns : goal.returns
returns c = λ before are.
    let kept = c.args.kept.now in
    let last : c.loop-page.page ≡ 1024 =
    omega (arith, c.loop-page-test.false, c.loop-page.auto.page-end, c.capacity-page-end.ensures.all) in
    told_all kept before c.args.after.now c.args.cpu c.args.text.now.items c.loop-page.text.items c.loop-page.left.now c.requires.whole
    (subst (λ (n : ℕ). AreTold kept before c.args.after.now c.args.cpu n c.args.text.now.items c.loop-page.text.items c.loop-page.left.now)
    last (c.loop-page.invariant before are))
