use Rattle.std.proofs.Common.{List, lit<, ap, sym, subst, ◌∙◌}
use Rattle.session_table.specs.declared.waiters.Waiter.{Waiter}
use Rattle.session_table.specs.Waiters.{IsLine, waits}
use Rattle.session_table.proofs.LineLemmas.{line_after_join, room_to_join}
use Rattle.session_table.proofs.waiters.Waiters.join.Goals as goal

pub push-requires : goal.push-requires
push-requires c =
    let waiter : Waiter = record { instance = c.args.instance; uuid = c.args.uuid; slot = c.args.slot } in
    let absent = ap (λ (waiters : List Waiter). waits waiters c.args.slot) c.self.view_is ∙ c.requires.absent in
    (lit< tt, room_to_join c.self.inside.waiters.items waiter c.self.invariant c.requires.in_range absent)

pub invariant_of-self : goal.invariant_of-self
invariant_of-self c =
    let waiter : Waiter = record { instance = c.args.instance; uuid = c.args.uuid; slot = c.args.slot } in
    let absent = ap (λ (waiters : List Waiter). waits waiters c.args.slot) c.self.view_is ∙ c.requires.absent in
    subst (λ (waiters : List Waiter). IsLine waiters) (sym c.push.ensures.items)
    (line_after_join c.self.inside.waiters.items waiter c.self.invariant c.requires.in_range absent)
