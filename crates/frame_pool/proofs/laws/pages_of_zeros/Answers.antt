use Rattle.std.proofs.Common.{◌*◌, arith}
use Rattle.base.proofs.ZeroLemmas.{length-zeros}
use Rattle.frame_pool.proofs.laws.pages_of_zeros.Goals as goal

pub returns : goal.returns
returns c = λ n. omega (arith, length-zeros (4096 * n))
