use Rattle.std.proofs.Common.{Bool, List, ℕ, ◌++◌, length, refl, sym, ap, ◌∙◌, arith}
use Rattle.page_set.specs.Pages.{is_in}
use Rattle.page_set.proofs.PagesKept.{kept_from, kept_pushed, kept_whole}
use Rattle.page_set.proofs.kept.KeptPages.keep.Goals as goal

pub loop-number-init : goal.loop-number-init
loop-number-init c = record {
  pages = refl;
  bytes = ap (λ (l : List ℕ). l ++ kept_from c.args.pages c.args.ram.now 0) c.clear.ensures.items;
}

pub loop-number-preserved : goal.loop-number-preserved
loop-number-preserved c = record {
  pages = c.loop-number.invariant.pages;
  bytes =
      kept_pushed c.args.pages c.args.ram.now c.loop-number.number c.loop-number.self.bytes.items c.push_page.new.bytes.items
      c.has.result _ _ (omega (arith, c.capacity-number-end.ensures.marks)) (c.has.ensures ∙ ap (λ (p : List Bool). is_in p c.loop-number.number) c.loop-number.invariant.pages)
      (omega arith) (omega arith) c.loop-number.invariant.bytes c.in_ok-push_page.ensures;
}

pub returns-clause-bytes : goal.returns-clause-bytes
returns-clause-bytes c =
    kept_whole c.args.pages c.args.ram.now c.loop-number.number c.loop-number.self.bytes.items
    (omega (arith, c.capacity-number-end.ensures.marks)) c.loop-number.invariant.bytes
