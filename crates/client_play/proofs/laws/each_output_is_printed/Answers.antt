use Rattle.client_play.proofs.OutputsPrinted.{one_printed as law}
use Rattle.client_play.proofs.laws.each_output_is_printed.Goals as goal

pub returns : goal.returns
returns c = law
