-- An entry of a processor in a legal history has read its head first, in RAM.
use Rattle.std.proofs.Common.{ap, refl, subst, sym, ◌∙◌}
use Rattle.notify_play.specs.Duty.{CameIn, duty_of}
use Rattle.notify_play.specs.Told.{told_regs}
use Rattle.desk_answers.specs.Duties.{duty_in}
use Rattle.notify_player.specs.Asking.{HasArgument}
use Rattle.notify_player.proofs.Asked.{IsGoodEntry, good-entry, has-argument}
use Rattle.notify_player.proofs.entered.asked_by.Goals as goal

-- one that never came in asks nothing
pub returns-in_default-clause-duty : goal.returns-in_default-clause-duty
returns-in_default-clause-duty c =
    sym (ap (λ (came : CameIn). duty_of came c.args.a0) c.in_default.ensures)

pub returns-in_default-clause-caller : goal.returns-in_default-clause-caller
returns-in_default-clause-caller c = λ desk answered. refl

pub returns-in_default-clause-argument : goal.returns-in_default-clause-argument
returns-in_default-clause-argument c = tt

pub duty_of-duty-requires : goal.duty_of-duty-requires
duty_of-duty-requires c = (subst IsGoodEntry c.in-Some.ensures (good-entry _ c.requires)).head

pub returns-clause-duty : goal.returns-clause-duty
returns-clause-duty c =
    c.duty_of-duty.ensures ∙ sym (ap (λ (came : CameIn). duty_of came c.args.a0) c.in-Some.ensures)

pub returns-clause-caller : goal.returns-clause-caller
returns-clause-caller c = λ desk answered.
    ap (λ (came : CameIn). told_regs desk came.regs answered (duty_in c.duty_of-duty.result)) c.in-Some.ensures

pub returns-clause-argument : goal.returns-clause-argument
returns-clause-argument c =
    let good = subst IsGoodEntry c.in-Some.ensures (good-entry _ c.requires) in
    subst HasArgument (sym c.duty_of-duty.ensures) (has-argument _ c.args.a0 good)
