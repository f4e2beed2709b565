use Rattle.ta_step.proofs.EffectLemmas.{one_outcome}
use Rattle.ta_step.proofs.laws.one_outcome.Goals as goal

pub returns : goal.returns
returns c = one_outcome
