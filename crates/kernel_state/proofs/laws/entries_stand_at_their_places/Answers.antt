use Rattle.kernel_state.proofs.Placed.{entries_placed as law}
use Rattle.kernel_state.proofs.laws.entries_stand_at_their_places.Goals as goal

pub returns : goal.returns
returns c = law
