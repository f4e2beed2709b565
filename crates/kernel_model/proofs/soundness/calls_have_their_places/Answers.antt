use Rattle.kernel_model.proofs.SoundPlaces.{calls_placed as law}
use Rattle.kernel_model.proofs.soundness.calls_have_their_places.Goals as goal

pub returns : goal.returns
returns c = law
