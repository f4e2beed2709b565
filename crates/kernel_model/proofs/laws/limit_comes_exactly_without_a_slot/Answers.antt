use Rattle.kernel_model.proofs.EntryLaws.{limit_exactly as law}
use Rattle.kernel_model.proofs.laws.limit_comes_exactly_without_a_slot.Goals as goal

pub returns : goal.returns
returns c = law
