-- The calls in the slots after an event: one slot's call changes, and of the others at most the marks.
use Rattle.std.proofs.Common.{◌≡◌, ℕ, zero, suc, Bool, true, false, List, [], ◌∷◌, Option, Some, None, refl, ap, sym, ◌∙◌}
use Rattle.std.specs.Prelude.{slice_get, slice_set, replicate, ◌==◌}
use Rattle.std.specs.Option.{option_map, option_and_then}
use Rattle.std.proofs.lemmas.Bool.Decides.{Decides-eqb}
use Rattle.std.proofs.lemmas.List.Quantifiers.{position-Some}
use Rattle.std.proofs.lemmas.Option.{slice_get-get_or}
use Rattle.kernel_model.specs.Kernel.{Active, Cancel, Free, PendingCall, Suspended, ThreadSlot, cancelled_slot, cancelled_slots, is_free, lowest_free}
use Rattle.kernel_model.specs.Sound.{Calls, unmarked_at, unmarked_in, unmarked}
use Rattle.kernel_model.proofs.Parts.{set_found, set_other}

-- ---- the same number, or another

pub by_number : {P : Type 0} (i j : ℕ) → (i ≡ j → P) → ((i ≡ j → ⊥) → P) → P
by_number {P} i j same apart = by_test (i == j) refl
  where
    by_test : (test : Bool) → (i == j) ≡ test → P
    by_test true e = same ((Decides-eqb i j).0 e)
    by_test false e = apart (λ at. let yes = (Decides-eqb i j).1 at in absurd cc)

-- ---- the lowest free slot

is_free_slot : (held : ThreadSlot) → is_free held ≡ true → held ≡ Free
is_free_slot Free e = refl
is_free_slot (Active cpu call) e = absurd cc
is_free_slot (Suspended client call) e = absurd cc

pub free_there : (slots : List ThreadSlot) (slot : ℕ) → lowest_free slots ≡ Some slot → slice_get slots slot ≡ Some Free
free_there slots slot lowest =
    let found = position-Some is_free slots slot Free lowest in
    slice_get-get_or slots slot Free found.0 ∙ ap (λ (held : ThreadSlot). Some held) (is_free_slot _ found.1)

-- ---- cancelled calls

-- the slot but for the mark of its call
abbrev pub plain : ThreadSlot → ThreadSlot
plain Free = Free
plain (Active cpu call) = Active cpu (unmarked call)
plain (Suspended client call) = Suspended client (unmarked call)

plain_cancelled : (cancel : Cancel) (held : ThreadSlot) → plain (cancelled_slot cancel held) ≡ plain held
plain_cancelled cancel Free = refl
plain_cancelled cancel (Active cpu call) = refl
plain_cancelled cancel (Suspended client call) = refl

pub cancelled_there : (slots : List ThreadSlot) (cancels : Option Cancel) (slot : ℕ)
    → option_map plain (slice_get (cancelled_slots slots cancels) slot) ≡ option_map plain (slice_get slots slot)
cancelled_there slots None slot = refl
cancelled_there [] (Some cancel) slot = refl
cancelled_there (first ∷ slots) (Some cancel) zero = ap (λ (held : ThreadSlot). Some held) (plain_cancelled cancel first)
cancelled_there (first ∷ slots) (Some cancel) (suc slot) = cancelled_there slots (Some cancel) slot

call_in_plain : (held : Option ThreadSlot) → option_and_then unmarked_in held ≡ option_and_then unmarked_in (option_map plain held)
call_in_plain None = refl
call_in_plain (Some Free) = refl
call_in_plain (Some (Active cpu call)) = refl
call_in_plain (Some (Suspended client call)) = refl

pub cancelled_call_at : (slots : List ThreadSlot) (cancels : Option Cancel) (slot : ℕ) → unmarked_at (cancelled_slots slots cancels) slot ≡ unmarked_at slots slot
cancelled_call_at slots cancels slot =
    call_in_plain (slice_get (cancelled_slots slots cancels) slot)
    ∙ ap (λ (o : Option ThreadSlot). option_and_then unmarked_in o) (cancelled_there slots cancels slot)
    ∙ sym (call_in_plain (slice_get slots slot))

-- what is there is still there, but for a mark
pub still_held : (slots : List ThreadSlot) (cancels : Option Cancel) (slot : ℕ) (held : ThreadSlot) → slice_get slots slot ≡ Some held
    → (now : ThreadSlot) × (slice_get (cancelled_slots slots cancels) slot ≡ Some now) × (plain now ≡ plain held)
still_held slots cancels slot held there = found (slice_get (cancelled_slots slots cancels) slot)
    (cancelled_there slots cancels slot ∙ ap (λ (o : Option ThreadSlot). option_map plain o) there)
  where
    found : (o : Option ThreadSlot) → option_map plain o ≡ Some (plain held) → (now : ThreadSlot) × (o ≡ Some now) × (plain now ≡ plain held)
    found None e = absurd cc
    found (Some now) e = (now, refl, cc)

-- what is there now was there, but for a mark
pub was_held : (slots : List ThreadSlot) (cancels : Option Cancel) (slot : ℕ) (now : ThreadSlot) → slice_get (cancelled_slots slots cancels) slot ≡ Some now
    → (held : ThreadSlot) × (slice_get slots slot ≡ Some held) × (plain held ≡ plain now)
was_held slots cancels slot now there = found (slice_get slots slot)
    (sym (cancelled_there slots cancels slot) ∙ ap (λ (o : Option ThreadSlot). option_map plain o) there)
  where
    found : (o : Option ThreadSlot) → option_map plain o ≡ Some (plain now) → (held : ThreadSlot) × (o ≡ Some held) × (plain held ≡ plain now)
    found None e = absurd cc
    found (Some held) e = (held, refl, cc)

-- ---- one slot changes

-- the call of one slot is this now, and those of the others are as they were
pub record Changes (before after : Calls) (slot : ℕ) (now : Option PendingCall) : Type 0 where
  pub here : after slot ≡ now
  pub others : (other : ℕ) → (slot ≡ other → ⊥) → after other ≡ before other

pub takes_slot : (slots : List ThreadSlot) (cancels : Option Cancel) (slot cpu : ℕ) (held : ThreadSlot) (call : PendingCall) → slice_get slots slot ≡ Some held
    → Changes (unmarked_at slots) (unmarked_at (slice_set (cancelled_slots slots cancels) slot (Active cpu call))) slot (Some (unmarked call))
takes_slot slots cancels slot cpu held call there =
    let still = still_held slots cancels slot held there in
    record {
      here = ap (λ (o : Option ThreadSlot). option_and_then unmarked_in o) (set_found (cancelled_slots slots cancels) slot (Active cpu call) still.0 still.1);
      others = λ other apart.
          ap (λ (o : Option ThreadSlot). option_and_then unmarked_in o) (set_other (cancelled_slots slots cancels) slot other (Active cpu call) apart)
          ∙ cancelled_call_at slots cancels other;
    }

pub leaves_slot : (slots : List ThreadSlot) (slot : ℕ) (held left : ThreadSlot) → slice_get slots slot ≡ Some held
    → Changes (unmarked_at slots) (unmarked_at (slice_set slots slot left)) slot (unmarked_in left)
leaves_slot slots slot held left there = record {
  here = ap (λ (o : Option ThreadSlot). option_and_then unmarked_in o) (set_found slots slot left held there);
  others = λ other apart. ap (λ (o : Option ThreadSlot). option_and_then unmarked_in o) (set_other slots slot other left apart);
}

-- no call is in a slot as the kernel boots
pub none_at_first : (count slot : ℕ) → unmarked_at (replicate count Free) slot ≡ None
none_at_first zero slot = refl
none_at_first (suc count) zero = refl
none_at_first (suc count) (suc slot) = none_at_first count slot
