-- Both passes are idle ones of the lock.
use Rattle.std.proofs.Common.{[], ◌∷◌, subst}
use Rattle.std.proofs.lemmas.List.Elements.{All-head, All-tail}
use Rattle.core_lock.specs.Passes.{IsPassOf, IsIdle, AreIdle}
use Rattle.parts.specs.Lines.{writer, title}
use Rattle.parts.proofs.adding.add_both.Goals as goal

pub join-one-requires-after_bounds : goal.join-one-requires-after_bounds
join-one-requires-after_bounds g c κs within =
    let lock = c.in-Ok.made.0 in
    let first = c.two_of-one.result.0 in
    let second = c.two_of-one.result.1 in
    let idle = subst (AreIdle writer title lock) c.two_of-one.ensures.0 c.in-Ok.ensures.passes.0 in
    (All-head (λ p. IsPassOf writer title lock p × IsIdle p) first (second ∷ []) idle, All-head (λ p. IsPassOf writer title lock p × IsIdle p) second [] (All-tail (λ p. IsPassOf writer title lock p × IsIdle p) first (second ∷ []) idle))
