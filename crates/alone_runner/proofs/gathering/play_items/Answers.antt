use Rattle.std.proofs.Common.{Err, ℕ, List, refl, subst, ◌∙◌, arith}
use Rattle.std.proofs.lemmas.Result.{err_from_is_err_and}
use Rattle.word_parts.specs.Gathering.{EndsAs, PutsLines}
use Rattle.word_parts.proofs.Serving.{faults-since}
use Rattle.alone_runner.proofs.Gathered.{gathering-ended, gathering-first, gathering-more, gathering-stopped, gathering-unput}
use Rattle.trace_player.proofs.Playable.{playing-takes}
use Rattle.alone_runner.proofs.gathering.play_items.Goals as goal

pub loop-item-init : goal.loop-item-init
loop-item-init g c = record {
  gathering = λ natives trace start. gathering-first natives trace _ _ _ _ start c.new-lines.ensures.items;
  stays = refl;
}

pub play_item-requires : goal.play_item-requires
play_item-requires g c =
    playing-takes c.requires.0 c.requires.1 _ _ _ c.loop-item.player _ c.machines_stand.ensures c.loop-item-test.true
    c.item-item.is (c.loop-item.invariant.gathering c.requires.0 c.requires.1 c.requires.2).playing

pub returns-in-Err-clause-told : goal.returns-in-Err-clause-told
returns-in-Err-clause-told g c = λ natives trace start.
    gathering-stopped natives trace _ _ _ c.loop-item.player c.play_item.new.self _ c.play_item.new.lines.items
    c.in-Err.stop c.end_at.result _ (g.K.Sink.held c.loop-item.out) _ c.loop-item-test.true c.item-item.is
    (c.loop-item.invariant.gathering natives trace start) c.in-Err.ensures.follows
    (subst (λ (lines : List ℕ). EndsAs c.in-Err.stop lines c.end_at.result (g.K.Sink.held c.loop-item.out)
    (g.K.Sink.held c.end_at.new.out)) c.as_slice.ensures.value c.end_at.ensures.ends)

pub returns-in-Err-clause-faults : goal.returns-in-Err-clause-faults
returns-in-Err-clause-faults g c =
    faults-since (Err c.end_at.result) _ _ _ c.loop-item.invariant.stays c.end_at.ensures.faults

pub returns-in_err-put_if_many-clause-told : goal.returns-in_err-put_if_many-clause-told
returns-in_err-put_if_many-clause-told g c = λ natives trace start.
    let told = err_from_is_err_and c.from_residual.result c.from_residual.ensures.1 in
    rw (told.1, told.2) (gathering-unput natives trace _ _ _ c.loop-item.player c.play_item.new.self _
    c.play_item.new.lines.items c.put_if_many.new.lines.items c.in_err-put_if_many.field-0.0 _
    (g.K.Sink.held c.loop-item.out) _ c.loop-item-test.true c.item-item.is
    (c.loop-item.invariant.gathering natives trace start) c.in_default.ensures.follows
    c.in_err-put_if_many.ensures.lines)

pub returns-in_err-put_if_many-clause-faults : goal.returns-in_err-put_if_many-clause-faults
returns-in_err-put_if_many-clause-faults g c =
    let failed = err_from_is_err_and c.from_residual.result c.from_residual.ensures.1 in
    rw (failed.1, failed.2) (faults-since (Err c.in_err-put_if_many.field-0.0) _ _ _ c.loop-item.invariant.stays
    c.in_err-put_if_many.ensures.faults)

pub loop-item-preserved : goal.loop-item-preserved
loop-item-preserved g c = record {
  gathering = λ natives trace start.
      gathering-more natives trace _ _ _ c.loop-item.player c.play_item.new.self _ c.play_item.new.lines.items
      c.put_if_many.new.lines.items _ (g.K.Sink.held c.loop-item.out) _ c.loop-item-test.true c.item-item.is
      (c.loop-item.invariant.gathering natives trace start) c.in_default.ensures.follows
      c.in_ok-put_if_many.ensures.lines;
  stays = c.in_ok-put_if_many.ensures.faults.stays (λ e. absurd cc) ∙ c.loop-item.invariant.stays;
}

pub returns-clause-told : goal.returns-clause-told
returns-clause-told g c = λ natives trace start.
    gathering-ended natives trace _ _ c.loop-item.player c.loop-item.lines.items c.put_lines.result _
    (g.K.Sink.held c.loop-item.out) _ (omega (arith, c.loop-item-test.false))
    (c.loop-item.invariant.gathering natives trace start)
    (subst (λ (lines : List ℕ). PutsLines lines c.put_lines.result (g.K.Sink.held c.loop-item.out)
    (g.K.Sink.held c.put_lines.new.out)) c.as_slice-2.ensures.value c.put_lines.ensures.lines)

pub returns-clause-faults : goal.returns-clause-faults
returns-clause-faults g c = faults-since c.put_lines.result _ _ _ c.loop-item.invariant.stays c.put_lines.ensures.faults
