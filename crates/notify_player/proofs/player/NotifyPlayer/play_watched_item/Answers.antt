-- An item up to its exit, and then what is told at that.
use Rattle.std.proofs.Common.{Option, subst}
use Rattle.std.specs.Prelude.{Err, Ok}
use Rattle.std.proofs.lemmas.Result.{err_from_is_err_and}
use Rattle.native_tas.specs.Table.{drivers}
use Rattle.notify_play.specs.NotifyPlay.{after_item, with_play}
use Rattle.trace_player.specs.Items.{Begins}
use Rattle.trace_player.specs.declared.exit.Exit.{Exit}
use Rattle.trace_player.proofs.Items.{panic-alone, panic-exit}
use Rattle.notify_player.specs.Playing.{Follows, HasGone, position_in}
use Rattle.notify_player.specs.declared.player.NotifyPlayer.{NotifyPlayer}
use Rattle.notify_player.proofs.OfSignals.{alone-follows, exit-follows, has-gone, stop-follows}
use Rattle.notify_player.proofs.Watched.{begun_is}
use Rattle.notify_player.proofs.player.NotifyPlayer.play_watched_item.Goals as goal

pub returns-in_err-out-clause-follows : goal.returns-in_err-out-clause-follows
returns-in_err-out-clause-follows g c = λ boot told stands.
    let ds = drivers c.args.natives.now in
    let now = c.begin_watched.new.self in
    let failed = err_from_is_err_and c.from_residual.result c.from_residual.ensures.1 in
    rw (failed.1, failed.2) (subst (λ (n : NotifyPlayer). Follows boot ds told (after_item boot ds c.args.item.now told)
    (Err c.in_err-out.field-0.0) n c.args.lines.now.items c.begin_watched.new.lines.items)
    (begun_is c.args.self.now now c.in_err-out.ensures.desk)
    (stop-follows boot ds told c.args.item.now c.in_err-out.field-0.0 c.args.self.now now.player c.args.lines.now.items
    c.begin_watched.new.lines.items stands (c.in_err-out.ensures.begins boot (position_in told) stands.at)))

pub returns-in-None-clause-follows : goal.returns-in-None-clause-follows
returns-in-None-clause-follows g c = λ boot told stands.
    let ds = drivers c.args.natives.now in
    let now = c.begin_watched.new.self in
    subst (λ (n : NotifyPlayer). Follows boot ds told (after_item boot ds c.args.item.now told) (Ok tt) n c.args.lines.now.items
    c.begin_watched.new.lines.items)
    (begun_is c.args.self.now now c.in_ok-out.ensures.desk)
    (alone-follows boot ds told c.args.item.now c.args.self.now now.player c.args.lines.now.items c.begin_watched.new.lines.items stands
    (subst (λ (out : Option Exit). Begins boot (position_in told) c.args.item.now (Ok out) now.player
    c.args.lines.now.items c.begin_watched.new.lines.items) c.in-None.is
    (c.in_ok-out.ensures.begins boot (position_in told) stands.at)))

pub returns-in-None-clause-panic : goal.returns-in-None-clause-panic
returns-in-None-clause-panic g c = λ boot told stands.
    panic-alone boot (position_in told) c.args.item.now c.begin_watched.new.self.player c.args.lines.now.items
    c.begin_watched.new.lines.items (rw c.in-None.is at (c.in_ok-out.ensures.begins boot (position_in told) stands.at))

pub returns-in_ok-answer-in-Some-clause-follows : goal.returns-in_ok-answer-in-Some-clause-follows
returns-in_ok-answer-in-Some-clause-follows g c = λ boot told stands.
    let ds = drivers c.args.natives.now in
    let i = c.args.item.now in
    let now = c.begin_watched.new.self in
    let begun = rw c.in-Some.is at (c.in_ok-out.ensures.begins boot (position_in told) stands.at) in
    let gone = has-gone boot ds told i c.in-Some.exit c.args.self.now now.player c.args.lines.now.items
    c.begin_watched.new.lines.items stands begun in
    exit-follows boot ds told i c.in-Some.exit (Ok tt) now.player c.answer.new.self
    c.args.lines.now.items c.begin_watched.new.lines.items c.answer.new.lines.items stands.at.machine.goes_on begun
    (c.in_ok-answer-in-Some.ensures.follows boot (with_play told begun.between)
    (subst (λ (n : NotifyPlayer). HasGone boot ds (with_play told begun.between) c.in-Some.exit.answer n)
    (begun_is c.args.self.now now c.in_ok-out.ensures.desk) gone)) tt

pub returns-in_ok-answer-in-Some-clause-panic : goal.returns-in_ok-answer-in-Some-clause-panic
returns-in_ok-answer-in-Some-clause-panic g c = λ boot told stands.
    panic-exit boot (position_in told) c.args.item.now c.in-Some.exit c.begin_watched.new.self.player c.args.lines.now.items
    c.begin_watched.new.lines.items (rw c.in-Some.is at (c.in_ok-out.ensures.begins boot (position_in told) stands.at))

pub returns-in-None-clause-kept : goal.returns-in-None-clause-kept
returns-in-None-clause-kept g c = λ boot told next cpu stands out after.
    c.in_ok-out.ensures.kept boot (drivers c.args.natives.now) told next cpu stands out after

pub returns-in_ok-answer-in-Some-clause-kept : goal.returns-in_ok-answer-in-Some-clause-kept
returns-in_ok-answer-in-Some-clause-kept g c = λ boot told next cpu stands out after.
    c.in_ok-out.ensures.kept boot (drivers c.args.natives.now) told next cpu stands out after
