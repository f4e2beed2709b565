use Rattle.compare_model.proofs.Comparisons.{one_comparison as law}
use Rattle.compare_model.proofs.laws.one_comparison.Goals as goal

pub returns : goal.returns
returns c = law
