use Rattle.ta_asm.proofs.Spoken.{every_image}
use Rattle.ta_asm.proofs.laws.round_trip.Goals as goal

pub returns : goal.returns
returns c = every_image
