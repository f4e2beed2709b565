use Rattle.ta_step.proofs.Kept.{runs-names}
use Rattle.ta_step.proofs.laws.requests_name_ranges.Goals as goal

pub returns : goal.returns
returns c = runs-names
