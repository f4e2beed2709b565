use Rattle.std.proofs.lemmas.Result.{err_from_is_err_and}
use Rattle.client_runner.proofs.Called.{never_failed, returned_plays, stopped_plays}
use Rattle.client_runner.proofs.player.ScriptPlayer.play_call.Goals as goal

pub returns-in_err-outcome-clause-plays : goal.returns-in_err-outcome-clause-plays
returns-in_err-outcome-clause-plays g c = λ place at.
    let passed = err_from_is_err_and c.from_residual.result c.from_residual.ensures.1 in
    rw (passed.1, passed.2) (stopped_plays g.B.OfBoot.booted place c.args.call.now c.in_err-outcome.field-0.0 _ _ (c.in_err-outcome.ensures place at))

pub returns-in_err-outcome-clause-never_fails : goal.returns-in_err-outcome-clause-never_fails
returns-in_err-outcome-clause-never_fails g c = λ failed.
    let passed = err_from_is_err_and c.from_residual.result c.from_residual.ensures.1 in
    never_failed g.B.OfBoot.booted c.requires.place c.args.call.now c.in_err-outcome.field-0.0 _
    (c.in_err-outcome.ensures c.requires.place c.requires.stands) cc

pub returns-clause-plays : goal.returns-clause-plays
returns-clause-plays g c = λ place at.
    returned_plays g.B.OfBoot.booted place c.args.call.now c.in_ok-outcome.outcome _ _ _ (c.in_ok-outcome.ensures place at)
    c.in_ok-push_line.ensures
