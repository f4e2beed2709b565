use Rattle.audit_model.proofs.Prefixes.{prefixes_can_be as law}
use Rattle.audit_model.proofs.laws.prefixes_can_be.Goals as goal

pub returns : goal.returns
returns c = law
