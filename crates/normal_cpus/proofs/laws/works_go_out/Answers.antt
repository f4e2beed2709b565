use Rattle.normal_cpus.proofs.Goings.{works_go_out as law}
use Rattle.normal_cpus.proofs.laws.works_go_out.Goals as goal

pub returns : goal.returns
returns c = law
