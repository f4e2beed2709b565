use Rattle.std.proofs.Common.{ℕ, List, [], refl, subst, sym, ◌∙◌}
use Rattle.core_cases.proofs.Boots.{has_its_boot}
use Rattle.core_cases.proofs.playing.play_items.Goals as goal
use Rattle.trace_player.proofs.Playable.{Playing, playing-first, playing-more, playing-takes}

pub loop-item-init : goal.loop-item-init
loop-item-init c = record {
  played = λ natives trace start.
      subst (λ (held : List ℕ). Playing natives trace c.args.items.now 0 c.args.player.now held) (sym c.new-lines.ensures.items)
      (playing-first natives trace _ _ start);
  terms = refl;
}

pub play_item-requires : goal.play_item-requires
play_item-requires c =
    playing-takes c.requires.0 c.requires.1 _ _ _ c.loop-item.player _ c.machines_stand.ensures c.loop-item-test.true
    c.item-item.is (c.loop-item.invariant.played c.requires.0 c.requires.1 c.requires.2)

pub loop-item-preserved : goal.loop-item-preserved
loop-item-preserved c = record {
  played = λ natives trace start.
      playing-more natives trace _ _ _ c.loop-item.player _ [] _ _ c.loop-item-test.true c.item-item.is
      (c.loop-item.invariant.played natives trace start) c.in-Ok.ensures.follows;
  terms = c.play_item.ensures.terms ∙ c.loop-item.invariant.terms;
}

pub returns-clause-boot : goal.returns-clause-boot
returns-clause-boot c = λ natives trace start.
    has_its_boot natives trace _ _ c.loop-item.player _ (c.loop-item.invariant.played natives trace start)
