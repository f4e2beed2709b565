use Rattle.begin_call.proofs.HeldInstances.{is_free_there, moved_out, pages_held, tables_held}
use Rattle.begin_call.proofs.holding.hold.Goals as goal

pub hold_into-requires : goal.hold_into-requires
hold_into-requires c = is_free_there c.args.tables.now.instances c.args.number c.requires.free

pub returns-clause-tables : goal.returns-clause-tables
returns-clause-tables c instance is =
    tables_held c.args.tables.now c.hold_into.new.self c.args.number c.args.slot instance c.hold_into.ensures.after is

pub returns-clause-memory : goal.returns-clause-memory
returns-clause-memory c instance is =
    (moved_out c.args.tables.now.instances c.args.number c.hold_into.result c.hold_into.new.objects instance c.hold_into.ensures.moved is).0

pub returns-clause-objects : goal.returns-clause-objects
returns-clause-objects c instance is =
    (moved_out c.args.tables.now.instances c.args.number c.hold_into.result c.hold_into.new.objects instance c.hold_into.ensures.moved is).1

pub returns-clause-pages : goal.returns-clause-pages
returns-clause-pages c boot =
    pages_held boot c.args.tables.now.instances c.hold_into.new.self c.args.number c.args.slot c.requires.rising c.requires.free c.hold_into.ensures.after
