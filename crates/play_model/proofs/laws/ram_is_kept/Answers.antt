use Rattle.play_model.proofs.RamKept.{ram_is_kept as law}
use Rattle.play_model.proofs.laws.ram_is_kept.Goals as goal

pub returns : goal.returns
returns c = law
