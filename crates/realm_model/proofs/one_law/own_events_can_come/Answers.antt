use Rattle.realm_model.proofs.OwnEvents.{own_events_can_come as law}
use Rattle.realm_model.proofs.one_law.own_events_can_come.Goals as goal

pub returns : goal.returns
returns c = law
