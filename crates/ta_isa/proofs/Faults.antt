-- Chains of tests, each with its fault.
use Rattle.std.proofs.Common.{◌≡◌, ℕ, ◌<◌, ◌≤◌, Bool, true, false, cond, ltb, List, length, get_or, Option, Some, None, refl, arith}
use Rattle.std.specs.Prelude.{◌||◌, position}
use Rattle.std.specs.Option.{option_map, option_or}
use Rattle.std.specs.List.{position_or_len}
use Rattle.std.proofs.lemmas.Bool.{ltb-false}
use Rattle.std.proofs.lemmas.List.Sums.{fails_before_first}
use Rattle.ta_isa.specs.declared.image_fault.ImageFault.{ImageFault}

-- no fault comes of a test that fails and of those behind it
pub passed : (b : Bool) (fault : ImageFault) (rest : Option ImageFault) → b ≡ false → rest ≡ None → cond b (Some fault) rest ≡ None
passed true fault rest e r = absurd cc
passed false fault rest e r = r

pub passed_back : (b : Bool) (fault : ImageFault) (rest : Option ImageFault) → cond b (Some fault) rest ≡ None → (b ≡ false) × (rest ≡ None)
passed_back true fault rest e = absurd cc
passed_back false fault rest e = (refl, e)

pub neither : (a b : Bool) → a ≡ false → b ≡ false → (a || b) ≡ false
neither true b e f = absurd cc
neither false b e f = f

pub neither_back : (a b : Bool) → (a || b) ≡ false → (a ≡ false) × (b ≡ false)
neither_back true b e = absurd cc
neither_back false b e = (refl, e)

pub no_first : (a b : Option ImageFault) → option_or a b ≡ None → (a ≡ None) × (b ≡ None)
no_first None b e = (refl, e)
no_first (Some fault) b e = absurd cc

pub no_number : (fault : ℕ → ImageFault) (n : Option ℕ) → option_map fault n ≡ None → n ≡ None
no_number fault None e = refl
no_number fault (Some n) e = absurd cc

no_place : (b : Bool) (n : ℕ) → cond b (Some n) None ≡ None → b ≡ false
no_place true n e = absurd cc
no_place false n e = refl

-- where no place passes, none does
pub position-none_back : {X : Type 0} (p : X → Bool) (xs : List X) (k : ℕ) (d : X) → position p xs ≡ None → k < length xs → p (get_or xs k d) ≡ false
position-none_back p xs k d e lt =
    let long : length xs ≤ position_or_len p xs = ltb-false _ _ (no_place (ltb (position_or_len p xs) (length xs)) (position_or_len p xs) e) in
    fails_before_first p xs k d (omega arith)
