use Rattle.ordered_play.proofs.BlocksOfSeats.{blocks_are_of_seats}
use Rattle.ordered_play.proofs.laws.blocks_are_of_seats.Goals as goal

pub returns : goal.returns
returns c = blocks_are_of_seats
