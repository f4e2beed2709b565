use Rattle.std.proofs.Common.{◌≡◌, ◌==◌, List, not, ap, sym, subst, ◌∙◌, rules}
use Rattle.arrayvec.proofs.ArrayVecLemmas.{filter-from_retain}
use Rattle.session_table.specs.declared.waiters.Waiter.{Waiter}
use Rattle.session_table.specs.Waiters.{IsLine, without}
use Rattle.session_table.proofs.LineLemmas.{line_after_leave}
use Rattle.session_table.proofs.waiters.Waiters.leave.Goals as goal

left : (c : goal.After-retain) → c.retain.new.self.items ≡ without c.self.inside.waiters.items c.args.slot
left c =
    filter-from_retain _ (λ (waiter : Waiter). not (waiter.slot == c.args.slot)) _ (λ x b f' y called. search rules) _ _ c.retain.ensures.filtered

pub invariant_of-self : goal.invariant_of-self
invariant_of-self c =
    subst (λ (waiters : List Waiter). IsLine waiters) (sym (left c))
    (line_after_leave c.self.inside.waiters.items c.args.slot c.self.invariant)

pub returns : goal.returns
returns c = left c ∙ ap (λ (waiters : List Waiter). without waiters c.args.slot) c.self.view_is
