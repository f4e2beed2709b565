use Rattle.std.proofs.Common.{◌≡◌, false}
use Rattle.native_tas.specs.Table.{entries}
use Rattle.word_parts.specs.BuiltIn.{built_in}
use Rattle.alone_runner.proofs.TopCalls.{one-asked}
use Rattle.trace_runner.specs.Commands.{Threads, top_commands}
use Rattle.trace_runner.proofs.OnThreads.{does-on-threads}
use Rattle.trace_runner.proofs.TopCalls.{answered-alone, answered-threads, threads_alone}
use Rattle.trace_runner.proofs.top_call.run.Goals as goal

-- ---- `threads`

pub returns-then-asks_threads-clause-answered : goal.returns-then-asks_threads-clause-answered
returns-then-asks_threads-clause-answered g c =
    let e = c.run_on_threads.ensures in
    let built = built_in c.args.natives.now in
    answered-threads built c.args.words.now _ (c.asks_threads.ensures.0 c.if-asks_threads.true)
    (one-asked (top_commands built) _ Threads
    (does-on-threads (entries c.args.natives.now) _ (λ is. (e.read_fault is).0) e.faults.write_fault e.memory e.told)
    (λ is. (tt, (e.read_fault is).0, (e.read_fault is).1)) e.faults e.taken e.input_count e.input_stays)

pub returns-then-asks_threads-clause-untouched : goal.returns-then-asks_threads-clause-untouched
returns-then-asks_threads-clause-untouched g c = λ seed count asks.
    absurd (threads_alone c.args.words.now _ (c.asks_threads.ensures.0 c.if-asks_threads.true) asks)

-- ---- other words

pub returns-else-asks_threads-clause-answered : goal.returns-else-asks_threads-clause-answered
returns-else-asks_threads-clause-answered g c =
    answered-alone (built_in c.args.natives.now) c.args.words.now _
    (λ asks. let yes = c.asks_threads.ensures.1 asks in let no = c.if-asks_threads.false in absurd cc)
    c.run_alone.ensures.answered
