-- A slot that gets the next number: it was free, another has its number still, and an instance stays the machine's.
use Rattle.std.proofs.Common.{◌≡◌, ℕ, zero, suc, List, [], ◌∷◌, Option, Some, None, ap}
use Rattle.std.proofs.Common.{sym, ◌∙◌}
use Rattle.std.specs.Prelude.{map, slice_get}
use Rattle.base.specs.NumberMap.{NumberMap, get}
use Rattle.kernel_model.specs.Kernel.{Cancel, Free, Instance, ThreadSlot}
use Rattle.kernel_model.specs.Kernel.{cancelled_slot, cancelled_slots}
use Rattle.own_model.proofs.Maps.{get-insert-other}
use Rattle.own_model.specs.Own.{next_in}
use Rattle.own_model.specs.Tied.{FoundAlike, HasNumber}
use Rattle.own_model.specs.Tied.{HoldersAlike, Whose}

-- the session's calls with one more, in this slot
abbrev pub with_next : Whose → ℕ → Whose
with_next whose slot = record whose { numbering = next_in whose.numbering slot }

-- ---- the slots

-- a slot without a number is another than one with a number
pub numbered_apart : (numbers : NumberMap ℕ) (slot at number : ℕ) → get numbers slot ≡ None
    → get numbers at ≡ Some number → slot ≡ at → ⊥
numbered_apart numbers slot at number none has same =
    let no : None ≡ Some number = sym none ∙ ap (λ n. get numbers n) same ∙ has in absurd cc

-- the number of another slot stays
pub number_stays : (whose : Whose) (slot at number : ℕ) → get whose.numbering.in_slots slot ≡ None
    → HasNumber whose at number
    → HasNumber (with_next whose slot) at number
number_stays whose slot at number none has =
    get-insert-other whose.numbering.in_slots slot whose.numbering.entered at
    (numbered_apart whose.numbering.in_slots slot at number none has) ∙ has

pub free_marked : (slots : List ThreadSlot) (cancels : Option Cancel) (slot : ℕ) → slice_get slots slot ≡ Some Free
    → slice_get (cancelled_slots slots cancels) slot ≡ Some Free
free_marked slots None slot free = free
free_marked slots (Some cancel) slot free = by_list slots slot free
  where
    by_list : (held : List ThreadSlot) (at : ℕ) → slice_get held at ≡ Some Free
        → slice_get (map (cancelled_slot cancel) held) at ≡ Some Free
    by_list [] at there = absurd cc
    by_list (first ∷ rest) zero there = let is : first ≡ Free = cc in
        ap (λ (h : ThreadSlot). Some (cancelled_slot cancel h)) is
    by_list (first ∷ rest) (suc at) there = by_list rest at there

-- ---- the instance

-- an instance that stays as it is
holders_stay : (whose : Whose) (slot : ℕ) (kept own : Option ℕ) → get whose.numbering.in_slots slot ≡ None
    → HoldersAlike whose.numbering.in_slots kept own → HoldersAlike (with_next whose slot).numbering.in_slots kept own
holders_stay whose slot None None none alike = tt
holders_stay whose slot (Some at) (Some number) none alike = number_stays whose slot at number none alike
holders_stay whose slot None (Some number) none alike = absurd alike
holders_stay whose slot (Some at) None none alike = absurd alike

pub instance_stays : (whose : Whose) (slot : ℕ) (kept own : Option Instance) → get whose.numbering.in_slots slot ≡ None
    → FoundAlike whose.numbering.in_slots kept own → FoundAlike (with_next whose slot).numbering.in_slots kept own
instance_stays whose slot None None none alike = tt
instance_stays whose slot (Some kept) (Some own) none alike = record {
  uuid = alike.uuid;
  dead = alike.dead;
  holders = holders_stay whose slot kept.holder own.holder none alike.holders;
  memory = alike.memory;
  objects = alike.objects;
}
instance_stays whose slot None (Some own) none alike = absurd alike
instance_stays whose slot (Some kept) None none alike = absurd alike
