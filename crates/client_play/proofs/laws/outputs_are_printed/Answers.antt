use Rattle.client_play.proofs.OutputsPrinted.{outputs_are_printed as law}
use Rattle.client_play.proofs.laws.outputs_are_printed.Goals as goal

pub returns : goal.returns
returns c = law
