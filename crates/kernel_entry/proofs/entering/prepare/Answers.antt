-- What is known of the core's kernel, before and behind.
use Rattle.kernel_entry.proofs.Arrived.{prepares_entry}
use Rattle.kernel_entry.proofs.Entered.{can_decide, has_pages, have_apps, roomier_replays}
use Rattle.kernel_entry.proofs.entering.prepare.Goals as goal

pub prepare_parts-requires-clause-call : goal.prepare_parts-requires-clause-call
prepare_parts-requires-clause-call c = can_decide c.args.core.now.parts c.args.visitor.now.regs.a c.args.core.now.replay

pub prepare_parts-requires-clause-pages : goal.prepare_parts-requires-clause-pages
prepare_parts-requires-clause-pages c = has_pages c.args.core.now.parts c.args.core.now.replay

pub prepare_parts-requires-clause-apps : goal.prepare_parts-requires-clause-apps
prepare_parts-requires-clause-apps c = have_apps c.args.core.now.parts c.args.core.now.replay

pub invariant_of-core : goal.invariant_of-core
invariant_of-core c = record {
  replay = roomier_replays c.args.core.now.parts c.prepare_parts.new.parts c.prepare_parts.ensures.room c.args.core.now.replay;
}

pub returns-clause-prepares : goal.returns-clause-prepares
returns-clause-prepares c =
    prepares_entry c.args.core.now _ c.args.visitor.now c.args.lane.now c.prepare_parts.result c.prepare_parts.ensures.room
    (roomier_replays c.args.core.now.parts c.prepare_parts.new.parts c.prepare_parts.ensures.room c.args.core.now.replay) c.prepare_parts.ensures.prepares
