-- What a call that comes in changes on both sides, step by step: it takes a free slot, it gets an instance, and an instance
-- gets the next number.
use Rattle.std.proofs.Common.{◌≡◌, ℕ, ◌+◌, List, [], ◌∷◌, Option, Some, None, refl, ap, subst, sym, ◌∙◌}
use Rattle.std.specs.Prelude.{All, ◌==◌, if◌then◌else◌}
use Rattle.std.specs.Option.{option_map}
use Rattle.std.proofs.lemmas.Bool.Decides.{Decides-eqb}
use Rattle.std.proofs.lemmas.List.Elements.{All-cons, All-head, All-nil, All-tail}
use Rattle.base.specs.NumberMap.{NumberMap, insert}
use Rattle.kernel_model.specs.Kernel.{Cancel, Instance, PendingCall, Tables, ThreadSlot, cancelled_slots}
use Rattle.kernel_model.specs.Sound.{unmarked}
use Rattle.own_model.proofs.Lookups.{apart_numbers}
use Rattle.own_model.proofs.Marks.{cancels_mark}
use Rattle.own_model.proofs.Marks.{there_but_marked}
use Rattle.own_model.specs.Tied.{call_at}
use Rattle.group_model.specs.Group.{Group}
use Rattle.group_model.specs.Tied.{AreOthers}
use Rattle.group_model.specs.Tied.{IsOther, Names, found_at}

-- ---- a call takes a free slot

other_marked : (sessions instances : NumberMap ℕ) (call now : PendingCall) → unmarked call ≡ unmarked now
    → IsOther sessions instances call → IsOther sessions instances now
other_marked sessions instances call now same other =
    let plain : IsOther sessions instances (unmarked call) =
    record { session = other.session; instance = other.instance } in
    let there : IsOther sessions instances (unmarked now) = subst (IsOther sessions instances) same plain in
    record { session = there.session; instance = there.instance }

-- a mark leaves the others others
pub others_marked : (sessions instances : NumberMap ℕ) (in_slots : NumberMap ℕ) (slots : List ThreadSlot)
    (cancels : Option Cancel) → AreOthers sessions instances in_slots slots
    → AreOthers sessions instances in_slots (cancelled_slots slots cancels)
others_marked sessions instances in_slots slots cancels others at now found none =
    let was = there_but_marked (call_at slots at) now
    (sym (cancels_mark slots cancels at) ∙ ap (λ (o : Option PendingCall). option_map unmarked o) found) in
    other_marked sessions instances was.0 now was.2 (others at was.0 was.1 none)

-- ---- an instance changes, or comes

abbrev pub one_there : ℕ → Instance → Option (ℕ × Instance)
one_there number instance = Some (number, instance)

pub found_same : (number : ℕ) (instance : Instance) → found_at (one_there number instance) number ≡ Some instance
found_same number instance = ap (λ b. if b then Some instance else None) ((Decides-eqb number number).1 refl)

pub found_other : (number other : ℕ) (instance : Instance) → (other ≡ number → ⊥)
    → found_at (one_there number instance) other ≡ None
found_other number other instance apart =
    ap (λ b. if b then Some instance else None)
    (apart_numbers number other (λ same. apart (sym same)) (number == other) refl)

-- the machine has none but under this number
abbrev pub HasNoOther : Group → ℕ → Type 0
HasNoOther g number = (other : ℕ) → (other ≡ number → ⊥) → found_at g.instance other ≡ None

-- nobody there, or the one of this number
pub no_other : (g : Group) (number : ℕ) (instance : Instance) → g.instance ≡ Some (number, instance) → HasNoOther g number
no_other g number instance is other apart =
    ap (λ (o : Option (ℕ × Instance)). found_at o other) is ∙ found_other number other instance apart

pub nobody : (g : Group) (number : ℕ) → g.instance ≡ None → HasNoOther g number
nobody g number is other apart = ap (λ (o : Option (ℕ × Instance)). found_at o other) is

-- ---- an instance gets the next number

-- what holds of each by two facts
pub all_both : {X : Type 0} (P Q R : X → Type 0) → ((x : X) → P x → Q x → R x) → (xs : List X) → All P xs → All Q xs
    → All R xs
all_both P Q R both [] first second = All-nil R
all_both P Q R both (x ∷ xs) first second =
    All-cons R x xs (both x (All-head P x xs first) (All-head Q x xs second))
    (all_both P Q R both xs (All-tail P x xs first) (All-tail Q x xs second))

-- the numbers with the next instance's
abbrev pub with_next_instance : Names → ℕ → ℕ → Names
with_next_instance names next own_next = record names { instances = insert names.instances next own_next }

abbrev pub next_given : Tables → Tables
next_given tables = record tables { next_instance = tables.next_instance + 1 }

abbrev pub own_next_given : Group → Group
own_next_given g = record g { next_instance = g.next_instance + 1 }
