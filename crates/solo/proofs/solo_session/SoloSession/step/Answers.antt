use Rattle.std.proofs.lemmas.Result.{IfOk-weaker, on_err_weaker}
use Rattle.solo.proofs.ShortSolo.{more_solo}
use Rattle.solo.proofs.Stepped.{stepped, still_solo}
use Rattle.solo.proofs.solo_session.SoloSession.step.Goals as goal

pub returns-clause-ok : goal.returns-clause-ok
returns-clause-ok c most solo next told is room e =
    let s = c.args.self.now in
    let longest = c.longest_with_event-longest.result in
    let short = more_solo s.longest longest c.longest_with_event-longest.ensures.least solo is.short in
    IfOk-weaker c.step_within-answer.result _ _
    (λ answer holds.
    stepped most longest s c.step_within-answer.new.self solo next c.args.event.now answer told is short c.longest_with_event-longest.ensures.short e
    c.step_within-answer.ensures.app holds.0 holds.1)
    (c.step_within-answer.ensures.ok most solo next told is short room e)

pub returns-clause-err : goal.returns-clause-err
returns-clause-err c solo is =
    let s = c.args.self.now in
    on_err_weaker c.step_within-answer.result
    (still_solo c.longest_with_event-longest.result s c.step_within-answer.new.self solo is c.longest_with_event-longest.ensures.least c.step_within-answer.ensures.app)
    (c.step_within-answer.ensures.err solo is.stands)
