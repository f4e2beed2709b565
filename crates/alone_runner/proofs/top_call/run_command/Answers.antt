-- By each command.
use Rattle.std.proofs.Common.{[], refl, arith}
use Rattle.word_parts.specs.BuiltIn.{built_in}
use Rattle.alone_runner.specs.Commands.{alone_commands}
use Rattle.alone_runner.proofs.Running.{sums-up}
use Rattle.alone_runner.proofs.TopCalls.{one-asked, took-nothing}
use Rattle.alone_runner.proofs.top_call.run_command.Goals as goal

pub returns-in-Serve-clause-answered : goal.returns-in-Serve-clause-answered
returns-in-Serve-clause-answered g c =
    let e = c.run_word.ensures in
    rw c.in-Serve.is (one-asked _ _ _ e.keeps (λ is. (tt, (e.read_fault is).0, (e.read_fault is).1)) e.faults e.taken e.input_count e.input_stays)

pub returns-in-Record-clause-answered : goal.returns-in-Record-clause-answered
returns-in-Record-clause-answered g c =
    let e = c.run_word-in-Record.ensures in
    rw c.in-Record.is (one-asked _ _ _ e.keeps (λ is. (tt, (e.read_fault is).0, (e.read_fault is).1)) e.faults e.taken e.input_count e.input_stays)

pub returns-in-Audit-clause-answered : goal.returns-in-Audit-clause-answered
returns-in-Audit-clause-answered g c =
    let e = c.run_word-in-Audit.ensures in
    rw c.in-Audit.is (one-asked _ _ _ e.keeps (λ is. (tt, (e.read_fault is).0, (e.read_fault is).1)) e.faults e.taken e.input_count e.input_stays)

pub returns-in-Compare-clause-answered : goal.returns-in-Compare-clause-answered
returns-in-Compare-clause-answered g c =
    let e = c.run_word-in-Compare.ensures in
    rw c.in-Compare.is (one-asked _ _ _ e.keeps (λ is. (tt, (e.read_fault is).0, (e.read_fault is).1)) e.faults e.taken e.input_count e.input_stays)

pub returns-in-Notify-clause-answered : goal.returns-in-Notify-clause-answered
returns-in-Notify-clause-answered g c =
    let e = c.run_word-in-Notify.ensures in
    rw c.in-Notify.is (one-asked _ _ _ e.keeps (λ is. (tt, (e.read_fault is).0, (e.read_fault is).1)) e.faults e.taken e.input_count e.input_stays)

pub returns-in-Client-clause-answered : goal.returns-in-Client-clause-answered
returns-in-Client-clause-answered g c =
    let e = c.run_word-in-Client.ensures in
    rw c.in-Client.is (one-asked _ _ _ e.keeps (λ is. (tt, (e.read_fault is).0, (e.read_fault is).1)) e.faults e.taken e.input_count e.input_stays)

pub returns-in-Work-clause-answered : goal.returns-in-Work-clause-answered
returns-in-Work-clause-answered g c =
    let e = c.answer_work.ensures in
    rw c.in-Work.is (one-asked _ _ _
    (sums-up c.in-Work.seed c.in-Work.count _ (rw c.in-Work.is at c.requires).1 e.faults.write_fault e.worked)
    (λ is. absurd (e.reads is)) e.faults (took-nothing _ _ refl) (omega arith) (λ other. refl))
