use Rattle.realm_model.proofs.ShownAlike.{show_the_same as law}
use Rattle.realm_model.proofs.session_laws.same_events_show_the_same.Goals as goal

pub returns : goal.returns
returns c = law
