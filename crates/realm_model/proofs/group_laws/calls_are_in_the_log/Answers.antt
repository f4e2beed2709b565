use Rattle.realm_model.proofs.GroupCalls.{calls_in_the_log as law}
use Rattle.realm_model.proofs.group_laws.calls_are_in_the_log.Goals as goal

pub returns : goal.returns
returns c = law
