use Rattle.line_port.specs.Laws.{Closes-adds, HappenInTurn-adds, HappenInTurn-trans}
use Rattle.line_port.proofs.laws.laws_of_ports.Goals as goal

pub returns-clause-happen_both : goal.returns-clause-happen_both
returns-clause-happen_both c = HappenInTurn-trans

pub returns-clause-happen_adds : goal.returns-clause-happen_adds
returns-clause-happen_adds c = HappenInTurn-adds

pub returns-clause-closes_adds : goal.returns-clause-closes_adds
returns-clause-closes_adds c = Closes-adds
