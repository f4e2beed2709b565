use Rattle.std.proofs.Common.{ℕ, List, ◌++◌, ap, ◌∙◌}
use Rattle.threads_play.proofs.Texts.{next_block}
use Rattle.threads_play.proofs.ends.text_of.Goals as goal

pub loop-end-preserved : goal.loop-end-preserved
loop-end-preserved c =
    next_block c.args.ends.now c.loop-end.end-index _ _ c.loop-end.text.items _ c.loop-end-test.true c.end-item.is
    c.loop-end.invariant
    (c.in_ok-extend_from_slice.ensures.items ∙ ap (λ (block : List ℕ). c.loop-end.text.items ++ block) c.as_slice.ensures.value)
