use Rattle.core_port.proofs.OfPlay.{no_room}
use Rattle.core_port.proofs.laws.no_room_is_the_plays.Goals as goal

pub returns : goal.returns
returns c = no_room
