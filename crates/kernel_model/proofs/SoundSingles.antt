-- Of an application whose sessions share one instance, one number at most is kept or waited for, after each event of a legal history.
use Rattle.std.proofs.Common.{◌≡◌, ℕ, List, Some, None, ◌⊎◌, inl, inr, ap, subst, sym, ◌∙◌}
use Rattle.base.specs.NumberMap.{NumberMap}
use Rattle.event_journal.specs.declared.event.Event.{Event}
use Rattle.kernel_model.specs.Application.{Booted}
use Rattle.kernel_model.specs.History.{kernel_after}
use Rattle.kernel_model.specs.Kernel.{Instance, Kernel, first_kernel}
use Rattle.kernel_model.specs.Sound.{Calls, unmarked_at}
use Rattle.kernel_model.specs.SoundWaiters.{awaited}
use Rattle.kernel_model.proofs.SoundCallsJoined.{all_joined}
use Rattle.kernel_model.proofs.SoundEvents.{holds_along}
use Rattle.kernel_model.proofs.SoundNumbers.{numbered}
use Rattle.kernel_model.proofs.SoundOrder.{in_order}
use Rattle.kernel_model.proofs.SoundSlots.{none_at_first}
use Rattle.kernel_model.proofs.SoundWaiters.{waiting}
use Rattle.kernel_model.proofs.SoundClaims.{Claims, IsKeptUp, IsSingle, claim_cases, no_claim}

-- one number at most is claimed for an application that shares its instance
abbrev pub OneEach : Booted → Calls → NumberMap Instance → Type 0
OneEach boot calls tables = (uuid : List ℕ) (one other : ℕ) → IsSingle boot uuid → Claims calls tables one uuid → Claims calls tables other uuid → one ≡ other

abbrev AfterOneEach : Booted → Kernel → Type 0
AfterOneEach boot next = OneEach boot (unmarked_at next.slots) next.tables.instances

one_kept_up : (boot : Booted) (next : ℕ) → IsKeptUp boot next (OneEach boot)
one_kept_up boot next = record {
  still = λ before after tables now one_each old uuid one other single first second.
      one_each uuid one other single (old one uuid first) (old other uuid second);
  made = λ before after tables now its one_each none old uuid one other single first second.
      both before tables its uuid one other one_each none single (old one uuid first) (old other uuid second);
}
  where
    both : (before : Calls) (tables : NumberMap Instance) (its uuid : List ℕ) (one other : ℕ) → OneEach boot before tables
        → (IsSingle boot its → (at : ℕ) → Claims before tables at its → ⊥) → IsSingle boot uuid
        → Claims before tables one uuid ⊎ ((next ≡ one) × (its ≡ uuid))
        → Claims before tables other uuid ⊎ ((next ≡ other) × (its ≡ uuid)) → one ≡ other
    both before tables its uuid one other one_each none single (inl a) (inl b) = one_each uuid one other single a b
    both before tables its uuid one other one_each none single (inl a) (inr new) =
        absurd (none (subst (IsSingle boot) (sym new.1) single) one (subst (Claims before tables one) (sym new.1) a))
    both before tables its uuid one other one_each none single (inr new) (inl b) =
        absurd (none (subst (IsSingle boot) (sym new.1) single) other (subst (Claims before tables other) (sym new.1) b))
    both before tables its uuid one other one_each none single (inr new) (inr again) = sym new.0 ∙ again.0

first_one : (boot : Booted) → AfterOneEach boot (first_kernel boot)
first_one boot uuid one other single (inl (instance, kept, its)) second = absurd (nothing instance kept)
  where
    nothing : (i : Instance) → None ≡ Some i → ⊥
    nothing i e = cc
first_one boot uuid one other single (inr (at, waited)) second =
    no_claim (one, Some uuid) (sym (ap awaited (none_at_first boot.threads at)) ∙ waited)

pub all_single : (boot : Booted) (history : List Event) (kernel : Kernel) → kernel_after boot history ≡ Some kernel → AfterOneEach boot kernel
all_single boot history kernel e =
    holds_along boot (AfterOneEach boot) (first_one boot) (λ before k cpu there one_each.
    claim_cases boot (OneEach boot) k cpu (one_kept_up boot k.tables.next_instance) (record {
      joined = all_joined boot before k there;
      numbers = numbered boot before k there;
      waiters = waiting boot before k there;
      rising = (in_order boot before k there).instances;
    }) one_each) history kernel e
