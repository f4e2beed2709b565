use Rattle.supplicant.proofs.Readings.{read_again}
use Rattle.supplicant.proofs.laws.replies_are_read.Goals as goal

pub returns : goal.returns
returns c = read_again
