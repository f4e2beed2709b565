use Rattle.std.proofs.Common.{◌≡◌, ℕ, ◌+◌, List, ◌++◌, subst, sym, ◌∙◌, arith}
use Rattle.std.proofs.lemmas.Result.{err_from_is_err_and}
use Rattle.sha2.specs.Hashers.{Holds256}
use Rattle.word_parts.specs.declared.stop.Stop.TheVariants.{Full}
use Rattle.alone_runner.proofs.Counting.{AreBelow-more}
use Rattle.alone_runner.proofs.Digests.{digesting-ended, digesting-first, digesting-full, digesting-more}
use Rattle.trace_player.proofs.Playable.{playing-takes}
use Rattle.alone_runner.proofs.digesting.digest_items.Goals as goal

pub loop-item-init : goal.loop-item-init
loop-item-init c = λ natives trace start.
    digesting-first natives trace _ _ _ _ _ start c.none-counts.ensures.counts c.none-counts.ensures.few c.new-hasher.ensures
    c.new-lines.ensures.items

pub play_and_count-requires-clause-can : goal.play_and_count-requires-clause-can
play_and_count-requires-clause-can c =
    playing-takes c.requires.0 c.requires.1 _ _ _ c.loop-item.player _ c.machines_stand.ensures c.loop-item-test.true
    c.item-item.is (c.loop-item.invariant c.requires.0 c.requires.1 c.requires.2).playing

-- there are no more of them than items
pub play_and_count-requires-clause-room : goal.play_and_count-requires-clause-room
play_and_count-requires-clause-room c =
    AreBelow-more (c.loop-item.item-index + 1) _ c.loop-item.counts (omega (arith, c.loop-item-test.true))
    (c.loop-item.invariant c.requires.0 c.requires.1 c.requires.2).few

pub returns-in_err-play_and_count-clause-full : goal.returns-in_err-play_and_count-clause-full
returns-in_err-play_and_count-clause-full c = λ e natives trace start.
    let told = err_from_is_err_and c.from_residual.result c.from_residual.ensures.1 in
    let one = sym told.1 ∙ e in
    let failed : told.0 ≡ Full = cc in
    digesting-full natives trace _ _ _ c.loop-item.player _ c.in_err-play_and_count.field-0.0 _ _ _ _
    c.loop-item-test.true c.item-item.is (c.loop-item.invariant natives trace start) (sym told.2 ∙ failed)
    c.in_err-play_and_count.ensures.follows

pub loop-item-preserved : goal.loop-item-preserved
loop-item-preserved c = λ natives trace start.
    digesting-more natives trace _ _ _ c.loop-item.player _ _ _ _ _ _ _ _ c.loop-item-test.true
    c.item-item.is (c.loop-item.invariant natives trace start) c.in_ok-play_and_count.ensures.follows
    c.in_ok-play_and_count.ensures.counts c.in_ok-play_and_count.ensures.few
    (λ message holds. subst (λ (line : List ℕ). Holds256 c.update.new.self (message ++ line)) c.as_slice.ensures.value
    (c.update.ensures message holds))
    c.clear.ensures.items

pub returns-clause-told : goal.returns-clause-told
returns-clause-told c = λ natives trace start.
    digesting-ended natives trace _ _ c.loop-item.player _ _ _
    (omega (arith, c.loop-item-test.false)) (c.loop-item.invariant natives trace start) c.finalize.ensures
