-- An instance stays the machine's where a slot that doesn't hold it gets rid of its number.
use Rattle.std.proofs.Common.{◌≡◌, ℕ, Option, Some, None, refl, ap, sym, ◌∙◌}
use Rattle.base.specs.NumberMap.{NumberMap, get, remove}
use Rattle.kernel_model.specs.Kernel.{Instance}
use Rattle.own_model.proofs.Maps.{get-remove-other, get-remove-same}
use Rattle.own_model.specs.Tied.{FoundAlike}
use Rattle.own_model.specs.Tied.{HoldersAlike}

-- ---- the call of a slot

pub some_number : (a b : ℕ) → Some a ≡ Some b → a ≡ b
some_number a b e = cc

-- ---- the call goes

-- another slot than this has its number still
still_numbered : (numbers : NumberMap ℕ) (slot at other : ℕ) → (slot ≡ at → ⊥) → get numbers at ≡ Some other
    → get (remove numbers slot) at ≡ Some other
still_numbered numbers slot at other apart has = get-remove-other numbers slot at apart ∙ has

-- what has a number still is another slot
pub is_another : (numbers : NumberMap ℕ) (slot at other : ℕ) → get (remove numbers slot) at ≡ Some other → slot ≡ at → ⊥
is_another numbers slot at other has same =
    let no : None ≡ Some other = sym (get-remove-same numbers slot) ∙ ap (λ n. get (remove numbers slot) n) same
    ∙ has in absurd cc

holders_stay : (numbers : NumberMap ℕ) (slot : ℕ) (kept own : Option ℕ) → (kept ≡ Some slot → ⊥)
    → HoldersAlike numbers kept own
    → HoldersAlike (remove numbers slot) kept own
holders_stay numbers slot None None apart alike = tt
holders_stay numbers slot (Some at) (Some number) apart alike =
    still_numbered numbers slot at number (λ same. apart (ap (λ n. Some n) (sym same))) alike
holders_stay numbers slot None (Some number) apart alike = absurd alike
holders_stay numbers slot (Some at) None apart alike = absurd alike

pub found_stays : (numbers : NumberMap ℕ) (slot : ℕ) (kept own : Option Instance)
    → ((instance : Instance) → kept ≡ Some instance → instance.holder ≡ Some slot → ⊥)
    → FoundAlike numbers kept own → FoundAlike (remove numbers slot) kept own
found_stays numbers slot None None apart alike = tt
found_stays numbers slot (Some kept) (Some own) apart alike = record {
  uuid = alike.uuid;
  dead = alike.dead;
  holders = holders_stay numbers slot kept.holder own.holder (apart kept refl) alike.holders;
  memory = alike.memory;
  objects = alike.objects;
}
found_stays numbers slot None (Some own) apart alike = absurd alike
found_stays numbers slot (Some kept) None apart alike = absurd alike
