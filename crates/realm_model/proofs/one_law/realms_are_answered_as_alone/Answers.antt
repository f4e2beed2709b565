use Rattle.realm_model.proofs.OneLaw.{answered_as_a_realm as law}
use Rattle.realm_model.proofs.one_law.realms_are_answered_as_alone.Goals as goal

pub returns : goal.returns
returns c = law
