use Rattle.kernel_entry.proofs.Sharing.{came_kept, came_made, came_queued, ready_shared}
use Rattle.kernel_state.specs.Setup.{application_of}
use Rattle.kernel_state.specs.Tables.{tables_of}
use Rattle.kernel_model.specs.Application.{uuid_of}
use Rattle.kernel_model.specs.Instances.{shared_instance}
use Rattle.begin_call.specs.Begins.{brought, who_begins}
use Rattle.kernel_entry.proofs.opening.open_or_wait.Goals as goal

pub open_kept-requires-clause-kept : goal.open_kept-requires-clause-kept
open_kept-requires-clause-kept c =
    ready_shared (shared_instance (tables_of c.args.tables.now).instances (application_of c.args.call.app)) c.args.tables.now (application_of c.args.call.app)
    c.in-Some.shared (tables_of c.args.tables.now).instances c.in-Some.ensures.shared c.in-Some.ensures.kept c.requires.opens.share c.in-None-holder.is

pub returns-in-None-clause-came : goal.returns-in-None-clause-came
returns-in-None-clause-came c boot =
    came_made (shared_instance (tables_of c.args.tables.now).instances (application_of c.args.call.app)) c.open_made.new.tables c.args.cont.now c.open_made.new.cont
    (uuid_of (application_of c.args.call.app)) (who_begins boot c.args.tables.now c.args.call.slot c.args.cont.now) (brought c.args.call c.args.cont.now)
    c.in-None.ensures.shared (c.open_made.ensures.begins boot)

pub returns-in-None-holder-clause-came : goal.returns-in-None-holder-clause-came
returns-in-None-holder-clause-came c boot =
    came_kept (shared_instance (tables_of c.args.tables.now).instances (application_of c.args.call.app)) c.in-Some.shared (tables_of c.args.tables.now).instances
    c.open_kept.new.tables c.args.cont.now c.open_kept.new.cont
    (uuid_of (application_of c.args.call.app)) (who_begins boot c.args.tables.now c.args.call.slot c.args.cont.now) (brought c.args.call c.args.cont.now)
    c.in-Some.ensures.shared c.in-Some.ensures.kept c.in-None-holder.is (c.open_kept.ensures.begins boot)

pub returns-in-None-holder-clause-pages : goal.returns-in-None-holder-clause-pages
returns-in-None-holder-clause-pages c setup known has = c.open_kept.ensures.pages setup has

pub returns-in-Some-holder-clause-came : goal.returns-in-Some-holder-clause-came
returns-in-Some-holder-clause-came c boot =
    came_queued (shared_instance (tables_of c.args.tables.now).instances (application_of c.args.call.app)) c.in-Some.shared c.in-Some-holder.field-0
    c.join_line.new.tables c.args.cont.now c.join_line.new.cont
    (uuid_of (application_of c.args.call.app)) (who_begins boot c.args.tables.now c.args.call.slot c.args.cont.now) (brought c.args.call c.args.cont.now)
    c.in-Some.ensures.shared c.in-Some-holder.is (c.join_line.ensures.came boot)

pub returns-in-Some-holder-clause-pages : goal.returns-in-Some-holder-clause-pages
returns-in-Some-holder-clause-pages c setup known has = c.join_line.ensures.pages setup has
