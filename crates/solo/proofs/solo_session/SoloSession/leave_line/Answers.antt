use Rattle.std.proofs.Common.{rules, ℕ, ◌==◌, not}
use Rattle.std.proofs.lemmas.Fn.{filter_same}
use Rattle.solo.proofs.solo_session.SoloSession.leave_line.Goals as goal

pub returns-clause-after : goal.returns-clause-after
returns-clause-after c =
    filter_same _ (λ (other : ℕ). not (other == c.args.number)) _ (λ x b g called. (search rules, search rules)) _ _ c.retain.ensures.filtered
