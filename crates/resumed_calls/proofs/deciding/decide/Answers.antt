use Rattle.std.proofs.Common.{None, refl}
use Rattle.kernel_model.specs.Argument.{thread_in}
use Rattle.kernel_state.specs.Setup.{booted_of_setup}
use Rattle.resumed_calls.proofs.Decides.{app_handed_out, can_be_given, is_decided, is_refused}
use Rattle.resumed_calls.proofs.deciding.decide.Goals as goal

pub returns-in_default-clause-ok : goal.returns-in_default-clause-ok
returns-in_default-clause-ok c =
    is_refused c.args.slots.now c.args.regs.now.a c.args.lane.now None c.args.reads.now refl c.in_default.ensures.call

pub given_to-requires : goal.given_to-requires
given_to-requires c = can_be_given c.args.slots.now c.args.regs.now.a c.in-Some.cont.now c.requires c.in-Some.ensures.call

pub returns-clause-ok : goal.returns-clause-ok
returns-clause-ok c =
    is_decided c.args.slots.now c.args.regs.now.a c.args.lane.now (thread_in c.args.regs.now.a) c.in-Some.cont.now
    (record { slot = c.slot_named-slot.result; given = c.in_ok-given.given; app = c.in_ok-app.app }) c.args.reads.now c.given_to.new.reads refl c.in-Some.ensures.call
    c.in_ok-given.ensures.ok

pub returns-clause-app : goal.returns-clause-app
returns-clause-app c cont handed =
    app_handed_out (booted_of_setup c.args.setup.now) cont.value c.in-Some.cont.now c.in_ok-app.app (c.in-Some.ensures.there cont handed) c.in_ok-app.ensures
