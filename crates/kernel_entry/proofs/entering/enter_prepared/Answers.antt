use Rattle.std.proofs.lemmas.Result.{err_from_is_err_and}
use Rattle.kernel_entry.specs.Visiting.{coming_of}
use Rattle.kernel_entry.proofs.Arrived.{can_enter_with_room, has_entered_with_room}
use Rattle.kernel_entry.proofs.entering.enter_prepared.Goals as goal

pub returns-in_err-prepared : goal.returns-in_err-prepared
returns-in_err-prepared c =
    let told = err_from_is_err_and c.from_residual.result c.from_residual.ensures.1 in
    rw (told.1, told.2) c.in_err-prepared.ensures.prepares

pub admit-requires-clause-can : goal.admit-requires-clause-can
admit-requires-clause-can c =
    can_enter_with_room c.args.core.now c.prepare.new.core (coming_of c.args.visitor) c.prepare.ensures.room c.requires

pub admit-requires-clause-prepared : goal.admit-requires-clause-prepared
admit-requires-clause-prepared c = record { lane = c.args.lane.now; is = c.in_ok-prepared.ensures.prepares }

pub returns : goal.returns
returns c =
    has_entered_with_room c.args.core.now c.prepare.new.core c.admit.new.core (coming_of c.args.visitor) c.args.lane.now c.admit.result c.prepare.ensures.room
    (c.admit.ensures c.args.lane.now c.in_ok-prepared.ensures.prepares)
