use Rattle.isolation.proofs.CallsLogged.{logs_have_calls as law}
use Rattle.isolation.proofs.laws.logs_have_their_calls.Goals as goal

pub returns : goal.returns
returns c = law
