-- An item up to its exit, and then the kernel's answer.
use Rattle.std.proofs.Common.{Option, subst}
use Rattle.std.specs.Prelude.{Ok}
use Rattle.std.proofs.lemmas.Result.{err_from_is_err_and}
use Rattle.trace_player.specs.Items.{Begins}
use Rattle.trace_player.specs.Position.{position_of}
use Rattle.trace_player.specs.declared.exit.Exit.{Exit}
use Rattle.trace_player.proofs.OfTraces.{alone-follows, exit-follows, stays, stop-follows}
use Rattle.trace_player.proofs.player.Player.play_item.Goals as goal

pub returns-in_err-exit-clause-follows : goal.returns-in_err-exit-clause-follows
returns-in_err-exit-clause-follows c = λ boot play stands.
    let failed = err_from_is_err_and c.from_residual.result c.from_residual.ensures.1 in
    rw (failed.1, failed.2) (stop-follows boot play c.args.item.now c.in_err-exit.field-0.0 c.begin_item.new.self
    c.args.lines.now.items c.begin_item.new.lines.items stands.machine.goes_on
    (c.in_err-exit.ensures.begins boot (position_of play) stands))

pub returns-in_err-exit-clause-refused : goal.returns-in_err-exit-clause-refused
returns-in_err-exit-clause-refused c = λ e boot play stands.
    stays boot play _ c.from_residual.result c.begin_item.new.self _ _ e (returns-in_err-exit-clause-follows c boot play stands)

pub returns-in-Some-clause-follows : goal.returns-in-Some-clause-follows
returns-in-Some-clause-follows c = λ boot play stands.
    let begun = subst (λ (out : Option Exit). Begins boot (position_of play) c.args.item.now (Ok out) c.begin_item.new.self
    c.args.lines.now.items c.begin_item.new.lines.items) c.in-Some.is (c.in_ok-exit.ensures.begins boot (position_of play) stands) in
    exit-follows boot play c.args.item.now c.in-Some.exit c.tell.result c.begin_item.new.self c.tell.new.self
    c.args.lines.now.items c.begin_item.new.lines.items c.tell.new.lines.items stands.machine.goes_on begun
    (c.tell.ensures.tells boot _ begun.goes.stands) c.tell.ensures.line c.tell.ensures.memory

pub returns-in-None-clause-follows : goal.returns-in-None-clause-follows
returns-in-None-clause-follows c = λ boot play stands.
    alone-follows boot play c.args.item.now c.begin_item.new.self c.args.lines.now.items c.begin_item.new.lines.items
    stands.machine.goes_on
    (subst (λ (out : Option Exit). Begins boot (position_of play) c.args.item.now (Ok out) c.begin_item.new.self
    c.args.lines.now.items c.begin_item.new.lines.items) c.in-None.is (c.in_ok-exit.ensures.begins boot (position_of play) stands))
