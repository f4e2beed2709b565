use Rattle.std.proofs.Common.{◌≡◌, ℕ, None, Some, Err}
use Rattle.std.specs.Prelude.{IsErrOf, IsNone, IsSome, Result, Option}
use Rattle.shm_registry.specs.declared.fault.UnregisterFault.{UnregisterFault}
use Rattle.shm_registry.specs.declared.fault.UnregisterFault.TheVariants.{Unknown, Pinned}
use Rattle.shm_registry.specs.declared.page_buffer.PageBuffer.{PageBuffer}
use Rattle.kernel_entry.proofs.buffers.drop_buffer.Goals as goal

never_refused : (found : Option PageBuffer) (lowest : Option ℕ) (result : Result PageBuffer UnregisterFault) (fault : UnregisterFault) → result ≡ Err fault →
    (IsErrOf result Unknown → IsNone found) → ((slot : ℕ) → IsErrOf result (Pinned slot) → lowest ≡ Some slot) → IsSome found → lowest ≡ None → ⊥
never_refused found lowest result Unknown is unknown pinned kept free = let none = unknown is in cc
never_refused found lowest result (Pinned slot) is unknown pinned kept free = let some = pinned slot is in cc

pub unreachable-requires : goal.unreachable-requires
unreachable-requires c =
    never_refused _ _ c.unregister.result c.in_default.field-0 c.in_default.is c.unregister.ensures.unknown.0
    (λ slot. (c.unregister.ensures.pinned slot).0) c.requires.kept c.requires.free
