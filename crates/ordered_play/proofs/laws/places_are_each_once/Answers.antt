use Rattle.ordered_play.proofs.PlacesOfPlays.{places_are_each_once as law}
use Rattle.ordered_play.proofs.laws.places_are_each_once.Goals as goal

pub returns : goal.returns
returns c = law
