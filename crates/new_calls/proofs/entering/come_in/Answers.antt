use Rattle.std.proofs.Common.{sym}
use Rattle.new_calls.proofs.Coming.{bad_address, bad_command, bad_count, comes_in, kept_cookie, located_nowhere, located_there, no_argument}
use Rattle.new_calls.specs.Commands.{tests_of}
use Rattle.new_calls.specs.Locating.{located_as}
use Rattle.new_calls.proofs.entering.come_in.Goals as goal

pub returns-in_default-clause-comes : goal.returns-in_default-clause-comes
returns-in_default-clause-comes c tables same boot =
    rw c.code.ensures (no_argument boot tables c.args.regs.now.a c.args.lane.now c.args.slot c.args.reads.now
    (located_nowhere tables c.args.registry.now c.args.regs.now.a same c.in_default.ensures.at))

pub returns-then-not-has_head-clause-comes : goal.returns-then-not-has_head-clause-comes
returns-then-not-has_head-clause-comes c tables same boot =
    rw c.code-then-not-has_head.ensures
    (bad_address boot tables c.args.regs.now.a c.args.lane.now c.args.slot c.args.reads.now (located_as c.in-Some.at)
    (located_there tables c.args.registry.now c.args.regs.now.a c.in-Some.at same c.in-Some.ensures.at)
    (sym c.if-not-has_head.ensures))

pub returns-then-not-has_argument-clause-comes : goal.returns-then-not-has_argument-clause-comes
returns-then-not-has_argument-clause-comes c tables same boot =
    rw c.code-then-not-has_argument.ensures
    (bad_count boot tables c.args.regs.now.a c.args.lane.now c.args.slot c.args.reads.now c.take_bytes.new.self (located_as c.in-Some.at)
    c.in_ok-bytes.bytes.now
    (located_there tables c.args.registry.now c.args.regs.now.a c.in-Some.at same c.in-Some.ensures.at)
    (sym c.if-not-has_head.ensures) c.in_ok-bytes.ensures.ok
    (rw c.head_in-head.ensures at (sym c.if-not-has_argument.ensures)))

pub returns-in_default-command_of-clause-comes : goal.returns-in_default-command_of-clause-comes
returns-in_default-command_of-clause-comes c tables same boot =
    rw c.code-in_default-command_of.ensures
    (bad_command boot tables c.args.regs.now.a c.args.lane.now c.args.slot c.args.reads.now c.take_bytes.new.self (located_as c.in-Some.at)
    c.in_ok-bytes.bytes.now
    (located_there tables c.args.registry.now c.args.regs.now.a c.in-Some.at same c.in-Some.ensures.at)
    (sym c.if-not-has_head.ensures) c.in_ok-bytes.ensures.ok
    (rw c.head_in-head.ensures at (sym c.if-not-has_argument.ensures))
    (rw c.head_in-head.ensures at (sym c.in_default-command_of.ensures)))

pub returns-clause-comes : goal.returns-clause-comes
returns-clause-comes c tables same boot =
    rw (c.client_in.ensures, c.area.ensures, c.cookie.ensures, c.head_in-head.ensures)
    (comes_in boot tables c.args.regs.now.a c.args.lane.now c.args.slot c.args.reads.now c.take_bytes.new.self (located_as c.in-Some.at)
    c.in_ok-bytes.bytes.now (tests_of c.in-Some-command_of.command)
    (located_there tables c.args.registry.now c.args.regs.now.a c.in-Some.at same c.in-Some.ensures.at)
    (sym c.if-not-has_head.ensures) c.in_ok-bytes.ensures.ok
    (rw c.head_in-head.ensures at (sym c.if-not-has_argument.ensures))
    (rw c.head_in-head.ensures at (sym c.in-Some-command_of.ensures)))

pub returns-clause-kept : goal.returns-clause-kept
returns-clause-kept c =
    rw c.cookie.ensures (kept_cookie c.args.registry.now.buffers c.in-Some.at c.in-Some.ensures.kept)
