use Rattle.solo.proofs.solo_session.SoloSession.close.Goals as goal

pub returns-clause-ok : goal.returns-clause-ok
returns-clause-ok c solo at stands home = c.work_or_wait.ensures.ok solo at stands home (λ e. absurd cc)
