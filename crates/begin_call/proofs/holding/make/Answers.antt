use Rattle.std.proofs.Common.{ap, ◌∙◌}
use Rattle.kernel_model.specs.Application.{uuid_of}
use Rattle.kernel_state.specs.Calls.{bytes_of}
use Rattle.kernel_state.specs.Setup.{application_of}
use Rattle.rpc_cont.specs.Conts.{kept_memory}
use Rattle.begin_call.proofs.HeldInstances.{absent_there, free_as_made, moved_as_made, pages_made, tables_made}
use Rattle.begin_call.proofs.holding.make.Goals as goal

pub make-requires-clause-absent : goal.make-requires-clause-absent
make-requires-clause-absent c = absent_there c.args.tables.now.instances c.args.number c.requires.absent

pub hold_into-requires : goal.hold_into-requires
hold_into-requires c =
    free_as_made c.args.tables.now.instances c.make.new.self c.args.number c.uuid.result c.fresh_pages-memory.result c.make.ensures

pub returns-clause-tables : goal.returns-clause-tables
returns-clause-tables c =
    tables_made c.args.tables.now c.make.new.self c.hold_into.new.self c.args.number c.args.slot c.uuid.result (uuid_of (application_of c.args.app.now))
    c.fresh_pages-memory.result c.make.ensures c.hold_into.ensures.after c.uuid.ensures

pub returns-clause-memory : goal.returns-clause-memory
returns-clause-memory c =
    ap (kept_memory bytes_of) (moved_as_made c.args.tables.now.instances c.make.new.self c.args.number c.uuid.result c.fresh_pages-memory.result
    c.hold_into.result c.hold_into.new.objects c.make.ensures c.hold_into.ensures.moved).0
    ∙ c.fresh_pages-memory.ensures.zeros

pub returns-clause-objects : goal.returns-clause-objects
returns-clause-objects c =
    (moved_as_made c.args.tables.now.instances c.make.new.self c.args.number c.uuid.result c.fresh_pages-memory.result
    c.hold_into.result c.hold_into.new.objects c.make.ensures c.hold_into.ensures.moved).1

pub returns-clause-pages : goal.returns-clause-pages
returns-clause-pages c boot =
    pages_made boot c.args.tables.now.instances c.make.new.self c.hold_into.new.self c.args.number c.args.slot c.uuid.result (uuid_of (application_of c.args.app.now))
    c.fresh_pages-memory.result c.requires.absent c.make.ensures c.hold_into.ensures.after c.uuid.ensures
