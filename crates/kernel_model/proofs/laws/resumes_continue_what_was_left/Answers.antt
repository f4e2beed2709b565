use Rattle.kernel_model.proofs.Suspended.{resumes_continue}
use Rattle.kernel_model.proofs.laws.resumes_continue_what_was_left.Goals as goal

pub returns : goal.returns
returns c = resumes_continue
