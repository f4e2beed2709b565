use Rattle.std.proofs.Common.{sym, ap, ◌∙◌}
use Rattle.std.specs.Option.{option_copied, option_map}
use Rattle.group_solo.proofs.Line.{first}
use Rattle.group_solo.specs.declared.waiter.Waiter.{Waiter}
use Rattle.group_solo.proofs.lookups.first_for.Goals as goal

pub returns-in_default : goal.returns-in_default
returns-in_default c =
    ap (option_map (λ (waiter : Waiter). waiter.call)) (sym (ap option_copied c.in_default.is) ∙ c.waiter_for.ensures)
    ∙ first c.args.waiting.now c.args.instance

pub returns : goal.returns
returns c =
    ap (option_map (λ (waiter : Waiter). waiter.call)) (sym (ap option_copied c.in-Some.is) ∙ c.waiter_for.ensures)
    ∙ first c.args.waiting.now c.args.instance
