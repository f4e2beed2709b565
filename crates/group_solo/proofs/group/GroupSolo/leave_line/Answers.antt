use Rattle.std.proofs.Common.{rules, ◌==◌, not, ap, ◌∙◌}
use Rattle.std.proofs.lemmas.Fn.{filter_same}
use Rattle.group_solo.proofs.Line.{left}
use Rattle.group_solo.specs.Standing.{waiters_of}
use Rattle.group_solo.specs.declared.waiter.Waiter.{Waiter}
use Rattle.group_solo.proofs.group.GroupSolo.leave_line.Goals as goal

pub returns-clause-after : goal.returns-clause-after
returns-clause-after c =
    ap waiters_of (filter_same _ (λ (waiter : Waiter). not (waiter.call == c.args.number)) _ (λ x b g called. (search rules, search rules)) _ _ c.retain.ensures.filtered)
    ∙ left c.args.self.now.waiting.items c.args.number
