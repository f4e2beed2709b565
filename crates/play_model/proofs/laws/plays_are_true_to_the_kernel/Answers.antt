use Rattle.play_model.proofs.TrueToKernel.{plays_are_true as law}
use Rattle.play_model.proofs.laws.plays_are_true_to_the_kernel.Goals as goal

pub returns : goal.returns
returns c = law
