use Rattle.std.proofs.Common.{◌∷◌, ◌++◌, [], List, Option, None, ap, ◌∙◌}
use Rattle.std.proofs.lemmas.List.{replicate-append-replicate}
use Rattle.kernel_state.specs.declared.work.Ran.{Ran}
use Rattle.core_at_work.proofs.working.none_inside.Goals as goal

pub loop-preserved : goal.loop-preserved
loop-preserved c =
    c.in_ok-push.ensures.items
    ∙ ap (λ (l : List (Option Ran)). l ++ None ∷ []) c.loop.invariant
    ∙ replicate-append-replicate c.loop.counter 1 None
