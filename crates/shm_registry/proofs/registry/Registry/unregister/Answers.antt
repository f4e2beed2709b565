use Rattle.std.proofs.Common.{◌≡◌, false, is_some, Option, Some, None, IsSome, sym}
use Rattle.shm_registry.specs.Registered.{lowest_slot}
use Rattle.shm_registry.proofs.Sound.{IsSound-remove, lowest_kept}
use Rattle.shm_registry.proofs.registry.Registry.unregister.Goals as goal

absent : {X : Type 0} (o : Option X) → false ≡ is_some o → IsSome o → ⊥
absent None none some = absurd (cc)
absent (Some x) none some = absurd (cc)

pub returns-then-not-contains-clause-pinned : goal.returns-then-not-contains-clause-pinned
returns-then-not-contains-clause-pinned c = λ slot.
    let pinned : lowest_slot c.args.self.now.pins c.args.cookie ≡ Some slot → ⊥ =
    λ e. absent _ c.if-not-contains.ensures (lowest_kept c.self.inside.buffers c.self.inside.pins.items c.args.cookie slot c.self.invariant.0.pins (rw (← c.self.view_is) at e)) in
    (λ wrong. absurd (cc), λ e. absurd (pinned e))

pub invariant_of-self : goal.invariant_of-self
invariant_of-self c =
    let free : lowest_slot c.self.inside.pins.items c.args.cookie ≡ None = sym (rw c.as_slice.ensures.value at c.in_default.ensures) in (
      rw c.remove.ensures.after
          (IsSound-remove c.self.inside.buffers c.self.inside.pins.items c.args.cookie c.self.invariant.0 free),
      c.self.invariant.1,
    )
