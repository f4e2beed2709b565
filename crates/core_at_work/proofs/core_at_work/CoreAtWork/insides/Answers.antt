-- Just those that are inside have something to go out with.
use Rattle.std.proofs.Common.{List, Option, Some, ◌≤◌, length, map, ap, sym, subst, ◌∙◌}
use Rattle.std.proofs.lemmas.List.{take_all}
use Rattle.std.specs.Option.{is_some}
use Rattle.core_at_work.proofs.Stand.{told}
use Rattle.kernel_state.specs.declared.work.Ran.{Ran}
use Rattle.core_at_work.proofs.core_at_work.CoreAtWork.insides.Goals as goal

pub returns : goal.returns
returns c =
    let items = c.args.self.now.outgoing.items in
    let index = c.loop-kept.kept-index in
    let all : length items ≤ index =
    subst (λ (kept : List (Option Ran)). length kept ≤ index) c.deref-kept-items.ensures.value c.loop-kept-test.false in
    told c.args.self.now.core items c.args.self.now.own
    ∙ ap Some (ap (map is_some) (sym (take_all index items all)) ∙ sym c.loop-kept.invariant)
