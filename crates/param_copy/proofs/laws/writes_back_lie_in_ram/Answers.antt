use Rattle.param_copy.specs.WritingBack.{params_of}
use Rattle.param_copy.proofs.Writing.{writes_of-in_ram}
use Rattle.param_copy.proofs.laws.writes_back_lie_in_ram.Goals as goal

pub returns : goal.returns
returns c = λ arg places params writable. writes_of-in_ram arg places (params_of params) writable
