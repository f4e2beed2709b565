use Rattle.audit_model.proofs.Prefixes.{one_verdict as law}
use Rattle.audit_model.proofs.laws.one_verdict.Goals as goal

pub returns : goal.returns
returns c = law
