use Rattle.std.proofs.lemmas.Result.{IfOk-weaker, on_err_weaker}
use Rattle.group_solo.proofs.ShortGroup.{more_group}
use Rattle.group_solo.proofs.Stepped.{stepped, still_group}
use Rattle.group_solo.proofs.group.GroupSolo.step.Goals as goal

pub returns-clause-ok : goal.returns-clause-ok
returns-clause-ok c most g next told is room e =
    let s = c.args.self.now in
    let longest = c.longest_with_event-longest.result in
    let short = more_group s.longest longest c.longest_with_event-longest.ensures.least g is.short in
    IfOk-weaker c.step_within-answer.result _ _
    (λ answer holds.
    stepped most longest s c.step_within-answer.new.self g next c.args.event.now answer told is c.requires.number short
    c.longest_with_event-longest.ensures.short e c.step_within-answer.ensures.app holds.0 holds.1)
    (c.step_within-answer.ensures.ok most g next told is short room e)

pub returns-clause-err : goal.returns-clause-err
returns-clause-err c g is =
    let s = c.args.self.now in
    on_err_weaker c.step_within-answer.result
    (still_group c.longest_with_event-longest.result s c.step_within-answer.new.self g is c.longest_with_event-longest.ensures.least c.step_within-answer.ensures.app)
    (c.step_within-answer.ensures.err g is.stands)
