use Rattle.std.proofs.Common.{◌≡◌, ℕ, ◌<◌, ◌≤◌, ◌==◌, false, length, arith}
use Rattle.std.proofs.lemmas.Bool.Decides.{nat_tests}
use Rattle.shm_registry.proofs.Sound.{IsSound-insert}
use Rattle.shm_registry.proofs.registry.Registry.register.Goals as goal

room : (n : ℕ) → n ≤ 64 → false ≡ (n == 64) → n < 64
room n few full = grind (arith, nat_tests)

pub invariant_of-self : goal.invariant_of-self
invariant_of-self c =
    let buffers = c.self.inside.buffers in (
      rw c.insert.ensures
          (IsSound-insert buffers c.self.inside.pins.items c.args.cookie c.args.buffer c.self.invariant.0 (room (length buffers) c.self.invariant.0.few c.if-is_full.ensures) c.requires),
      c.self.invariant.1,
    )
