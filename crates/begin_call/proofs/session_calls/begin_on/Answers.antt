use Rattle.std.proofs.Common.{◌≡◌, None, sym}
use Rattle.base.specs.NumberMap.{get}
use Rattle.kernel_state.specs.Setup.{application_of}
use Rattle.kernel_state.specs.Tables.{instance_of}
use Rattle.begin_call.proofs.OnSession.{begun_on, can_start_on, found_kept, never_absent, ready_found}
use Rattle.begin_call.specs.Points.{points_of}
use Rattle.begin_call.proofs.session_calls.begin_on.Goals as goal

pub unreachable-requires : goal.unreachable-requires
unreachable-requires c =
    let none : get c.args.tables.now.instances c.args.call.session.instance ≡ None = cc (c.in_default.ensures.instance, c.in_default.is, c.get.ensures.instance) in
    never_absent c.args.tables.now.instances c.args.call.session.instance (application_of c.args.call.app) none c.requires.kept

pub start-requires-clause-found : goal.start-requires-clause-found
start-requires-clause-found c =
    can_start_on c.in-Some.instance.now c.args.call.app c.program_on-program.result c.hold-memory.result c.requires.valid
    (ready_found c.args.tables.now.instances c.args.call.session.instance c.in-Some.instance.now (application_of c.args.call.app) (sym c.in-Some.ensures.instance) c.requires.kept)
    c.program_on-program.ensures
    (c.hold-memory.ensures.memory (instance_of c.in-Some.instance.now) (found_kept c.args.tables.now.instances c.args.call.session.instance c.in-Some.instance.now (sym c.in-Some.ensures.instance)))

pub returns-clause-begins : goal.returns-clause-begins
returns-clause-begins c boot instance is found =
    begun_on boot c.args.tables.now c.hold-memory.new.tables c.args.cont.now c.start.new.cont c.args.call.slot c.args.call.session c.in-Some.instance.now instance
    (points_of c.args.call.points) c.args.call.app c.program_on-program.result c.hold-memory.result c.hold-memory.new.objects
    (sym c.in-Some.ensures.instance) is found c.program_on-program.ensures
    (c.hold-memory.ensures.memory instance is) (c.hold-memory.ensures.objects instance is) (c.hold-memory.ensures.tables instance is)
    c.start.ensures.runs c.start.ensures.app c.start.ensures.stays
