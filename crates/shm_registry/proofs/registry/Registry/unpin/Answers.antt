use Rattle.std.proofs.Common.{◌≡◌, ◌==◌, not, refl, rules}
use Rattle.std.proofs.lemmas.Fn.{filter_same}
use Rattle.shm_registry.specs.declared.pin.Pin.{Pin}
use Rattle.shm_registry.specs.Registered.{without_slot}
use Rattle.shm_registry.proofs.Sound.{IsSound-unpin}
use Rattle.shm_registry.proofs.registry.Registry.unpin.Goals as goal

pub invariant_of-self : goal.invariant_of-self
invariant_of-self c =
    let kept : c.retain.new.self.items ≡ without_slot c.self.inside.pins.items c.args.slot =
    filter_same _ (λ (pin : Pin). not (pin.slot == c.args.slot)) _ (λ x b f called. search rules) _ _ c.retain.ensures.filtered in (
      rw kept (IsSound-unpin c.self.inside.buffers c.self.inside.pins.items c.args.slot c.self.invariant.0),
      rw c.retain.ensures.capacity c.self.invariant.1,
    )

pub returns : goal.returns
returns c =
    let kept : c.retain.new.self.items ≡ without_slot c.self.inside.pins.items c.args.slot =
    filter_same _ (λ (pin : Pin). not (pin.slot == c.args.slot)) _ (λ x b f called. search rules) _ _ c.retain.ensures.filtered in
    rw (kept, ← c.self.view_is) refl
