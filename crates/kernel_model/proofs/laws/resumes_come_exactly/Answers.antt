use Rattle.kernel_model.proofs.EntryLaws.{resumes_exactly as law}
use Rattle.kernel_model.proofs.laws.resumes_come_exactly.Goals as goal

pub returns : goal.returns
returns c = law
