use Rattle.std.proofs.Common.{Err, ap, refl, ◌∙◌, arith}
use Rattle.trace_player.proofs.Playable.{playing-takes}
use Rattle.journal_runner.proofs.Silent.{silent-ended, silent-first, silent-full, silent-more}
use Rattle.journal_runner.proofs.playing.play_items.Goals as goal

pub loop-item-init : goal.loop-item-init
loop-item-init c = record {
  played = λ natives trace start. silent-first natives trace _ _ _ start c.new-lines.ensures.items;
  terms = refl;
}

pub play_item-requires : goal.play_item-requires
play_item-requires c =
    playing-takes c.requires.0 c.requires.1 _ _ _ c.loop-item.player _ c.machines_stand.ensures c.loop-item-test.true
    c.item-item.is (c.loop-item.invariant.played c.requires.0 c.requires.1 c.requires.2).playing

pub loop-item-preserved : goal.loop-item-preserved
loop-item-preserved c = record {
  played = λ natives trace start.
      silent-more natives trace _ _ _ c.loop-item.player _ _ _ _ c.loop-item-test.true c.item-item.is
      (c.loop-item.invariant.played natives trace start) c.in-Ok.ensures.follows c.clear.ensures.items;
  terms = c.play_item.ensures.terms ∙ c.loop-item.invariant.terms;
}

pub returns-in-Err-Full-clause-end : goal.returns-in-Err-Full-clause-end
returns-in-Err-Full-clause-end c = λ natives trace start.
    silent-full natives trace _ _ _ c.loop-item.player _ c.in-Err-Full.field-0 _ _ c.loop-item-test.true c.item-item.is
    (c.loop-item.invariant.played natives trace start) c.in-Err-Full.field-0-is c.in-Err-Full.ensures.follows
    (c.in-Err-Full.ensures.refused (ap Err c.in-Err-Full.field-0-is))

pub returns-clause-end : goal.returns-clause-end
returns-clause-end c = λ natives trace start.
    silent-ended natives trace _ _ c.loop-item.player _ (omega (arith, c.loop-item-test.false))
    (c.loop-item.invariant.played natives trace start)
