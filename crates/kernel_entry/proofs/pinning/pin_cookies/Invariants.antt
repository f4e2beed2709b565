use Rattle.std.proofs.Common.{◌≡◌, drop}
use Rattle.std.specs.Prelude.{IsSome, fold}
use Rattle.std.specs.List.{AllByRecursion}
use Rattle.base.specs.NumberMap.{get}
use Rattle.shm_registry.specs.Registered.{with_pin}
use Rattle.kernel_entry.proofs.pinning.pin_cookies.Given as goal

abbrev pub invariant-loop-cookie : goal.invariant-loop-cookie
invariant-loop-cookie l = record {
  buffers : l.registry.buffers ≡ l.fn.registry.buffers;
  pins : fold (λ pins cookie. with_pin pins cookie l.fn.slot) l.registry.pins (drop l.cookie-index l.cookies)
      ≡ fold (λ pins cookie. with_pin pins cookie l.fn.slot) l.fn.registry.pins l.cookies;
  kept : AllByRecursion (λ cookie. IsSome (get l.fn.registry.buffers cookie)) (drop l.cookie-index l.cookies);
}
