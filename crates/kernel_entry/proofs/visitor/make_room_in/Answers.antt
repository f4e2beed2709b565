use Rattle.std.proofs.Common.{refl}
use Rattle.kernel_state.specs.declared.parts.Parts.{Parts}
use Rattle.kernel_entry.specs.Entering.{HasMoreRoom}
use Rattle.kernel_entry.proofs.Entered.{roomier_replays}
use Rattle.kernel_entry.proofs.visitor.make_room_in.Goals as goal

pub invariant_of-core : goal.invariant_of-core
invariant_of-core c =
    let old = c.args.core.now.parts in
    let new : Parts = record old { journal = c.make_room.new.journal } in
    let more : HasMoreRoom old new = record {
      events = c.make_room.ensures.events;
      keeps = c.make_room.ensures.keeps;
      spare = c.make_room.ensures.kept;
      stays = refl;
    } in
    record { replay = roomier_replays old new more c.args.core.now.replay }
