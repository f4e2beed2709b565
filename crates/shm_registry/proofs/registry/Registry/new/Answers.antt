use Rattle.std.proofs.Common.{arith}
use Rattle.shm_registry.proofs.Sound.{IsSound-none}
use Rattle.shm_registry.proofs.registry.Registry.new.Goals as goal

pub invariant_of-result : goal.invariant_of-result
invariant_of-result c = (
  rw (c.in_ok-new.ensures, c.in_ok-with_capacity.ensures.items) IsSound-none,
  omega (arith, c.in_ok-with_capacity.ensures.capacity),
)
