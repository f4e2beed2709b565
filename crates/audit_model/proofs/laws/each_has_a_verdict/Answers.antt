use Rattle.audit_model.proofs.EachVerdict.{each_has_a_verdict as law}
use Rattle.audit_model.proofs.laws.each_has_a_verdict.Goals as goal

pub returns : goal.returns
returns c = law
