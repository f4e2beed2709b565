use Rattle.ordered_play.proofs.Places.{parts_print as law}
use Rattle.ordered_play.proofs.laws.parts_print_their_places.Goals as goal

pub returns : goal.returns
returns c = law
