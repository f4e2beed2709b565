use Rattle.param_copy.proofs.Sizes.{rmem-size, tmem-size}
use Rattle.param_copy.proofs.laws.pieces_have_the_size.Goals as goal

pub returns-clause-registered : goal.returns-clause-registered
returns-clause-registered c = rmem-size

pub returns-clause-named : goal.returns-clause-named
returns-clause-named c = tmem-size
