use Rattle.std.proofs.Common.{Err, ℕ, List, refl, subst, ◌∙◌, arith}
use Rattle.std.proofs.lemmas.List.{drop_all}
use Rattle.std.proofs.lemmas.Result.{err_from_is_err_and}
use Rattle.word_parts.specs.Gathering.{EndsAs, PutsLines}
use Rattle.word_parts.proofs.Serving.{faults-since}
use Rattle.client_runner.proofs.Gathered.{gathering_can_make, gathering_ended, gathering_first, gathering_more, gathering_stopped, gathering_unput}
use Rattle.client_runner.proofs.playing.play_calls.Goals as goal

pub loop-call-init : goal.loop-call-init
loop-call-init g c = record {
  gathering = λ natives script start. gathering_first _ natives script _ _ _ _ start c.new-lines.ensures.items;
  stays = refl;
}

pub play_call-requires : goal.play_call-requires
play_call-requires g c =
    gathering_can_make _ c.requires.0 c.requires.1 _ _ _ _ _ _ _ _ c.loop-call-test.true c.call-item.is
    (c.loop-call.invariant.gathering c.requires.0 c.requires.1 c.requires.2)

pub returns-in-Err-clause-told : goal.returns-in-Err-clause-told
returns-in-Err-clause-told g c = λ natives script start.
    gathering_stopped _ natives script _ _ _ _ _ c.play_call.new.lines.items c.in-Err.stop c.end_at.result _
    (g.K.Sink.held c.loop-call.out) _ _ _ c.loop-call-test.true c.call-item.is
    (c.loop-call.invariant.gathering natives script start) c.in-Err.ensures.plays
    (subst (λ (lines : List ℕ). EndsAs c.in-Err.stop lines c.end_at.result (g.K.Sink.held c.loop-call.out)
    (g.K.Sink.held c.end_at.new.out)) c.as_slice.ensures.value c.end_at.ensures.ends)

pub returns-in-Err-clause-faults : goal.returns-in-Err-clause-faults
returns-in-Err-clause-faults g c =
    faults-since (Err c.end_at.result) _ _ _ c.loop-call.invariant.stays c.end_at.ensures.faults

pub returns-in_err-put_if_many-clause-told : goal.returns-in_err-put_if_many-clause-told
returns-in_err-put_if_many-clause-told g c = λ natives script start.
    let told = err_from_is_err_and c.from_residual.result c.from_residual.ensures.1 in
    rw (told.1, told.2) (gathering_unput _ natives script _ _ _ _ _ c.play_call.new.lines.items c.put_if_many.new.lines.items
    c.in_err-put_if_many.field-0.0 _ (g.K.Sink.held c.loop-call.out) _ _ _ c.loop-call-test.true c.call-item.is
    (c.loop-call.invariant.gathering natives script start) c.in_default.ensures.plays
    c.in_err-put_if_many.ensures.lines)

pub returns-in_err-put_if_many-clause-faults : goal.returns-in_err-put_if_many-clause-faults
returns-in_err-put_if_many-clause-faults g c =
    let failed = err_from_is_err_and c.from_residual.result c.from_residual.ensures.1 in
    rw (failed.1, failed.2) (faults-since (Err c.in_err-put_if_many.field-0.0) _ _ _ c.loop-call.invariant.stays
    c.in_err-put_if_many.ensures.faults)

pub loop-call-preserved : goal.loop-call-preserved
loop-call-preserved g c = record {
  gathering = λ natives script start.
      gathering_more _ natives script _ _ _ _ _ c.play_call.new.lines.items c.put_if_many.new.lines.items _
      (g.K.Sink.held c.loop-call.out) _ _ _ c.loop-call-test.true c.call-item.is
      (c.loop-call.invariant.gathering natives script start) c.in_default.ensures.plays
      c.in_ok-put_if_many.ensures.lines;
  stays = c.in_ok-put_if_many.ensures.faults.stays (λ e. absurd cc) ∙ c.loop-call.invariant.stays;
}

pub returns-clause-told : goal.returns-clause-told
returns-clause-told g c = λ natives script start.
    gathering_ended _ natives script _ c.loop-call.call-index _ c.loop-call.lines.items c.put_lines.result _
    (g.K.Sink.held c.loop-call.out) _ (drop_all c.loop-call.call-index c.args.calls.now (omega (arith, c.loop-call-test.false)))
    (c.loop-call.invariant.gathering natives script start)
    (subst (λ (lines : List ℕ). PutsLines lines c.put_lines.result (g.K.Sink.held c.loop-call.out)
    (g.K.Sink.held c.put_lines.new.out)) c.as_slice-2.ensures.value c.put_lines.ensures.lines)

pub returns-clause-faults : goal.returns-clause-faults
returns-clause-faults g c = faults-since c.put_lines.result _ _ _ c.loop-call.invariant.stays c.put_lines.ensures.faults
