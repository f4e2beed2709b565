-- An item up to its exit, whose answer is counted, and then the kernel's answer.
use Rattle.std.proofs.Common.{Option, List, subst, sym, arith}
use Rattle.std.specs.Prelude.{Ok}
use Rattle.std.proofs.lemmas.Result.{err_from_is_err_and}
use Rattle.event_journal.specs.declared.event.Event.{Event}
use Rattle.trace_player.specs.Items.{Begins}
use Rattle.trace_player.specs.Position.{position_of}
use Rattle.trace_player.specs.declared.exit.Exit.{Exit}
use Rattle.trace_player.proofs.OfTraces.{alone-follows, exit-follows, stop-follows}
use Rattle.alone_runner.specs.Counts.{AreBelow, AreCounts}
use Rattle.alone_runner.proofs.Counting.{AreBelow-answer, AreBelow-more, AreCounts-alone, AreCounts-out, whatever-told}
use Rattle.alone_runner.proofs.digesting.play_and_count.Goals as goal

pub returns-in_err-exit-clause-follows : goal.returns-in_err-exit-clause-follows
returns-in_err-exit-clause-follows c = λ boot play stands.
    let failed = err_from_is_err_and c.from_residual.result c.from_residual.ensures.1 in
    rw (failed.1, failed.2) (stop-follows boot play c.args.item.now c.in_err-exit.field-0.0 c.begin_item.new.self
    c.args.lines.now.items c.begin_item.new.lines.items stands.machine.goes_on
    (c.in_err-exit.ensures.begins boot (position_of play) stands))

pub returns-in_err-exit-clause-few : goal.returns-in_err-exit-clause-few
returns-in_err-exit-clause-few c = λ bound are. AreBelow-more bound _ c.args.counts.now (omega arith) are

-- ---- a processor goes out

pub returns-in-Some-clause-follows : goal.returns-in-Some-clause-follows
returns-in-Some-clause-follows c = λ boot play stands.
    let begun = subst (λ (out : Option Exit). Begins boot (position_of play) c.args.item.now (Ok out) c.begin_item.new.self
    c.args.lines.now.items c.begin_item.new.lines.items) c.in-Some.is (c.in_ok-exit.ensures.begins boot (position_of play) stands) in
    exit-follows boot play c.args.item.now c.in-Some.exit c.tell.result c.begin_item.new.self c.tell.new.self
    c.args.lines.now.items c.begin_item.new.lines.items c.tell.new.lines.items stands.machine.goes_on begun
    (c.tell.ensures.tells boot _ begun.goes.stands) c.tell.ensures.line c.tell.ensures.memory

pub returns-in-Some-clause-counts : goal.returns-in-Some-clause-counts
returns-in-Some-clause-counts c = λ boot play stands are.
    let begun = subst (λ (out : Option Exit). Begins boot (position_of play) c.args.item.now (Ok out) c.begin_item.new.self
    c.args.lines.now.items c.begin_item.new.lines.items) c.in-Some.is (c.in_ok-exit.ensures.begins boot (position_of play) stands) in
    let told = c.tell.ensures.tells boot _ begun.goes.stands in
    whatever-told c.tell.result
    (subst (λ (history : List Event). AreCounts history c.add.new.self) (sym told.machine.history)
    (subst (AreCounts begun.goes.next.history) (sym c.add.ensures)
    (AreCounts-out boot play c.args.item.now c.in-Some.exit _ _ _ c.args.counts.now begun are)))

pub returns-in-Some-clause-few : goal.returns-in-Some-clause-few
returns-in-Some-clause-few c = λ bound are.
    subst (AreBelow _) (sym c.add.ensures) (AreBelow-answer _ bound c.args.counts.now are)

-- ---- none does

pub returns-in-None-clause-follows : goal.returns-in-None-clause-follows
returns-in-None-clause-follows c = λ boot play stands.
    alone-follows boot play c.args.item.now c.begin_item.new.self c.args.lines.now.items c.begin_item.new.lines.items
    stands.machine.goes_on
    (subst (λ (out : Option Exit). Begins boot (position_of play) c.args.item.now (Ok out) c.begin_item.new.self
    c.args.lines.now.items c.begin_item.new.lines.items) c.in-None.is (c.in_ok-exit.ensures.begins boot (position_of play) stands))

pub returns-in-None-clause-counts : goal.returns-in-None-clause-counts
returns-in-None-clause-counts c = λ boot play stands are.
    let alone = subst (λ (out : Option Exit). Begins boot (position_of play) c.args.item.now (Ok out) c.begin_item.new.self
    c.args.lines.now.items c.begin_item.new.lines.items) c.in-None.is (c.in_ok-exit.ensures.begins boot (position_of play) stands) in
    subst (λ (history : List Event). AreCounts history c.args.counts.now) (sym alone.stands.machine.history)
    (AreCounts-alone boot play c.args.item.now _ _ _ c.args.counts.now alone are)

pub returns-in-None-clause-few : goal.returns-in-None-clause-few
returns-in-None-clause-few c = λ bound are. AreBelow-more bound _ c.args.counts.now (omega arith) are
