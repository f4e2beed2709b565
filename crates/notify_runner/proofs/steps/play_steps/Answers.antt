use Rattle.std.proofs.Common.{Err, ℕ, List, length, refl, subst, ◌∙◌, arith}
use Rattle.std.proofs.lemmas.List.{drop_all}
use Rattle.std.proofs.lemmas.List.Elements.{All-from_recursion}
use Rattle.std.proofs.lemmas.Result.{err_from_is_err_and}
use Rattle.native_tas.specs.Table.{drivers}
use Rattle.word_parts.specs.Gathering.{EndsAs, PutsLines}
use Rattle.word_parts.proofs.Serving.{faults-since}
use Rattle.notify_text.specs.Sound.{IsSoundSignal}
use Rattle.notify_runner.proofs.Gathered.{gathering-ended, gathering-first, gathering-more, gathering-signalled, gathering-stopped, gathering-unput}
use Rattle.notify_runner.proofs.Playable.{taking-desk, taking-takes}
use Rattle.notify_runner.proofs.steps.play_steps.Goals as goal

pub loop-at-init : goal.loop-at-init
loop-at-init g c = record {
  gathering = λ apps told start. gathering-first apps (drivers c.args.natives.now) told _ _ _ _ _ start
      c.new-lines.ensures.items;
  stays = refl;
}

pub take_signals-signals-requires : goal.take_signals-signals-requires
take_signals-signals-requires g c =
    let p = (c.loop-at.invariant.gathering c.requires.0 c.requires.1 c.requires.2).playing in (
      length c.args.items.now,
      All-from_recursion (IsSoundSignal (length c.args.items.now)) _ p.values,
    )

pub play_item-requires-clause-can : goal.play_item-requires-clause-can
play_item-requires-clause-can g c =
    let w = gathering-signalled c.requires.0 (drivers c.args.natives.now) c.requires.1 c.args.items.now c.loop-at.at _ _ _
    c.loop-at.player c.take_signals-signals.new.self _ _ _ c.loop-at-test.true
    c.index-items-at.is
    (c.loop-at.invariant.gathering c.requires.0 c.requires.1 c.requires.2) c.take_signals-signals.ensures.rest
    c.take_signals-signals.ensures.signals in
    taking-takes c.requires.0 (drivers c.args.natives.now) c.requires.1 c.args.items.now c.loop-at.at _ _ _ _
    c.machines_stand.ensures w.taking

pub play_item-requires-clause-desk : goal.play_item-requires-clause-desk
play_item-requires-clause-desk g c =
    let w = gathering-signalled c.requires.0 (drivers c.args.natives.now) c.requires.1 c.args.items.now c.loop-at.at _ _ _
    c.loop-at.player c.take_signals-signals.new.self _ _ _ c.loop-at-test.true
    c.index-items-at.is
    (c.loop-at.invariant.gathering c.requires.0 c.requires.1 c.requires.2) c.take_signals-signals.ensures.rest
    c.take_signals-signals.ensures.signals in
    taking-desk c.requires.0 (drivers c.args.natives.now) c.requires.1 c.args.items.now c.loop-at.at _ _ _ _
    c.desks_keep_their_drivers.ensures w.taking

pub returns-in-Err-clause-told : goal.returns-in-Err-clause-told
returns-in-Err-clause-told g c = λ apps told start.
    let w = gathering-signalled apps (drivers c.args.natives.now) told c.args.items.now c.loop-at.at _ _ _
    c.loop-at.player c.take_signals-signals.new.self _ _ _ c.loop-at-test.true
    c.index-items-at.is
    (c.loop-at.invariant.gathering apps told start) c.take_signals-signals.ensures.rest c.take_signals-signals.ensures.signals in
    gathering-stopped apps (drivers c.args.natives.now) told c.args.items.now c.loop-at.at _ _ c.take_signals-signals.new.self
    c.play_item.new.self _ c.play_item.new.lines.items c.in-Err.stop c.end_at.result _ (g.K.Sink.held c.loop-at.out) _ w
    c.in-Err.ensures.follows
    (subst (λ (lines : List ℕ). EndsAs c.in-Err.stop lines c.end_at.result (g.K.Sink.held c.loop-at.out)
    (g.K.Sink.held c.end_at.new.out)) c.as_slice.ensures.value c.end_at.ensures.ends)

pub returns-in-Err-clause-faults : goal.returns-in-Err-clause-faults
returns-in-Err-clause-faults g c =
    faults-since (Err c.end_at.result) _ _ _ c.loop-at.invariant.stays c.end_at.ensures.faults

pub returns-in_err-put_if_many-clause-told : goal.returns-in_err-put_if_many-clause-told
returns-in_err-put_if_many-clause-told g c = λ apps told start.
    let failed = err_from_is_err_and c.from_residual.result c.from_residual.ensures.1 in
    let w = gathering-signalled apps (drivers c.args.natives.now) told c.args.items.now c.loop-at.at _ _ _
    c.loop-at.player c.take_signals-signals.new.self _ _ _ c.loop-at-test.true
    c.index-items-at.is
    (c.loop-at.invariant.gathering apps told start) c.take_signals-signals.ensures.rest c.take_signals-signals.ensures.signals in
    rw (failed.1, failed.2) (gathering-unput apps (drivers c.args.natives.now) told c.args.items.now c.loop-at.at _ _
    c.take_signals-signals.new.self c.play_item.new.self _ c.play_item.new.lines.items c.put_if_many.new.lines.items
    c.in_err-put_if_many.field-0.0 _ (g.K.Sink.held c.loop-at.out) _ w c.in_default.ensures.follows
    c.in_err-put_if_many.ensures.lines)

pub returns-in_err-put_if_many-clause-faults : goal.returns-in_err-put_if_many-clause-faults
returns-in_err-put_if_many-clause-faults g c =
    let failed = err_from_is_err_and c.from_residual.result c.from_residual.ensures.1 in
    rw (failed.1, failed.2) (faults-since (Err c.in_err-put_if_many.field-0.0) _ _ _ c.loop-at.invariant.stays
    c.in_err-put_if_many.ensures.faults)

pub loop-at-preserved : goal.loop-at-preserved
loop-at-preserved g c = record {
  gathering = λ apps told start.
      let w = gathering-signalled apps (drivers c.args.natives.now) told c.args.items.now c.loop-at.at _ _ _
      c.loop-at.player c.take_signals-signals.new.self _ _ _ c.loop-at-test.true
      c.index-items-at.is
      (c.loop-at.invariant.gathering apps told start) c.take_signals-signals.ensures.rest c.take_signals-signals.ensures.signals in
      gathering-more apps (drivers c.args.natives.now) told c.args.items.now c.loop-at.at _ _ c.take_signals-signals.new.self
      c.play_item.new.self _ c.play_item.new.lines.items c.put_if_many.new.lines.items _ (g.K.Sink.held c.loop-at.out) _ w
      c.in_default.ensures.follows c.in_ok-put_if_many.ensures.lines;
  stays = c.in_ok-put_if_many.ensures.faults.stays (λ e. absurd cc) ∙ c.loop-at.invariant.stays;
}

pub returns-clause-told : goal.returns-clause-told
returns-clause-told g c = λ apps told start.
    gathering-ended apps (drivers c.args.natives.now) told c.args.items.now c.loop-at.at _ c.loop-at.player
    c.loop-at.lines.items c.put_lines.result _ (g.K.Sink.held c.loop-at.out) _
    (drop_all c.loop-at.at c.args.items.now (omega (arith, c.loop-at-test.false)))
    (c.loop-at.invariant.gathering apps told start)
    (subst (λ (lines : List ℕ). PutsLines lines c.put_lines.result (g.K.Sink.held c.loop-at.out)
    (g.K.Sink.held c.put_lines.new.out)) c.as_slice-2.ensures.value c.put_lines.ensures.lines)

pub returns-clause-faults : goal.returns-clause-faults
returns-clause-faults g c = faults-since c.put_lines.result _ _ _ c.loop-at.invariant.stays c.put_lines.ensures.faults
