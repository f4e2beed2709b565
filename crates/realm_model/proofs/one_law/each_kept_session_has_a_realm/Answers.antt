use Rattle.realm_model.proofs.EachKept.{each_kept_has_a_realm as law}
use Rattle.realm_model.proofs.one_law.each_kept_session_has_a_realm.Goals as goal

pub returns : goal.returns
returns c = law
