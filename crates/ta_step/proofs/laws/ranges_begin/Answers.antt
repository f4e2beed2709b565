use Rattle.ta_step.proofs.RangeLemmas.{ranges_begin}
use Rattle.ta_step.proofs.laws.ranges_begin.Goals as goal

pub returns : goal.returns
returns c = ranges_begin
