use Rattle.std.proofs.Common.{arith}
use Rattle.alone_runner.proofs.Commands.{too_many}
use Rattle.alone_runner.proofs.command.work_of.Goals as goal

pub returns-then-calls-from-clause-nothing : goal.returns-then-calls-from-clause-nothing
returns-then-calls-from-clause-nothing c = λ _.
    too_many c.args.word.now c.args.seed.now c.args.count.now c.in_ok-calls.calls c.in_ok-calls.ensures.found.0
    (omega (arith, c.from.ensures, c.if-calls-from.true)) c.in_ok-calls.ensures.found.1
