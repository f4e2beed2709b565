-- Applications by their UUIDs.
use Rattle.std.proofs.Common.{◌≡◌, ℕ, Bool, true, false, cond, List, [], ◌∷◌, ◌++◌, map, Option, Some, refl, ap, subst, arith}
use Rattle.std.specs.List.{All, find}
use Rattle.std.specs.Option.{option_map_or}
use Rattle.std.specs.Str.{bytes_eq}
use Rattle.std.proofs.lemmas.List.Elements.{All-head, All-tail}
use Rattle.std.proofs.lemmas.Slice.Eq.{bytes_eq-Decides}
use Rattle.ta_isa.specs.Boots.{IsBoot}
use Rattle.ta_isa.specs.Spelling.{IsValid}
use Rattle.ta_isa.specs.declared.boot.App.{App}
use Rattle.ta_isa.specs.declared.boot.Boot.{Boot}
use Rattle.kernel_model.specs.Application.{Application, Booted, Native, OfImage, BuiltIn, booted, pages_in, uuid_of}
use Rattle.kernel_model.specs.Instances.{app_of, pages_of}
use Rattle.begin_call.specs.Begins.{IsValidApp}

true_same : (one other : List ℕ) → bytes_eq one other ≡ true → one ≡ other
true_same one other is = grind (arith, bytes_eq-Decides)

-- what is found passes the test
found_passes : {X : Type 0} (test : X → Bool) (xs : List X) (x : X) → find test xs ≡ Some x → test x ≡ true
found_passes test [] x found = absurd (cc)
found_passes {X} test (y ∷ ys) x found = by_test (test y) refl (found_passes test ys x) found
  where
    by_test : (b : Bool) → test y ≡ b → (find test ys ≡ Some x → test x ≡ true) → cond b (Some y) (find test ys) ≡ Some x → test x ≡ true
    by_test true passes rest is = let same : y ≡ x = cc in subst (λ (z : X). test z ≡ true) same passes
    by_test false fails rest is = rest is

-- the application of a UUID has it
pub found_uuid : (boot : Booted) (uuid : List ℕ) (app : Application) → app_of boot uuid ≡ Some app → uuid_of app ≡ uuid
found_uuid boot uuid app found =
    true_same (uuid_of app) uuid (found_passes (λ (one : Application). bytes_eq (uuid_of one) uuid) boot.apps app found)

-- ---- valid ones

valid_natives : (test : Application → Bool) (natives : List Native) (app : Application) →
    find test (map (λ (native : Native). BuiltIn native.0 native.1) natives) ≡ Some app → IsValidApp app
valid_natives test [] app found = absurd (cc)
valid_natives test (native ∷ natives) app found =
    by_test (test (BuiltIn native.0 native.1)) (valid_natives test natives app) found
  where
    by_test : (b : Bool) → (find test (map (λ (native : Native). BuiltIn native.0 native.1) natives) ≡ Some app → IsValidApp app) →
        cond b (Some (BuiltIn native.0 native.1)) (find test (map (λ (native : Native). BuiltIn native.0 native.1) natives)) ≡ Some app → IsValidApp app
    by_test true rest is = let same : BuiltIn native.0 native.1 ≡ app = cc in subst IsValidApp same tt
    by_test false rest is = rest is

abbrev pub all_apps : List App → List Native → List Application
all_apps apps natives =
    map (λ (app : App). OfImage app) apps ++ map (λ (native : Native). BuiltIn native.0 native.1) natives

valid_apps : (test : Application → Bool) (apps : List App) (natives : List Native) (app : Application) → All (λ (app : App). IsValid app.image) apps →
    find test (all_apps apps natives) ≡ Some app → IsValidApp app
valid_apps test [] natives app valid found = valid_natives test natives app found
valid_apps test (first ∷ apps) natives app valid found =
    by_test (test (OfImage first)) (All-head (λ (app : App). IsValid app.image) first apps valid)
    (valid_apps test apps natives app (All-tail (λ (app : App). IsValid app.image) first apps valid)) found
  where
    by_test : (b : Bool) → IsValid first.image → (find test (all_apps apps natives) ≡ Some app → IsValidApp app) →
        cond b (Some (OfImage first)) (find test (all_apps apps natives)) ≡ Some app → IsValidApp app
    by_test true here rest is = let same : OfImage first ≡ app = cc in subst IsValidApp same here
    by_test false here rest is = rest is

-- an application of a boot is valid
pub valid_app : (boot : Boot) (natives : List Native) (uuid : List ℕ) (app : Application) → IsBoot boot →
    app_of (booted boot natives) uuid ≡ Some app → IsValidApp app
valid_app boot natives uuid app is_boot found =
    valid_apps (λ (one : Application). bytes_eq (uuid_of one) uuid) boot.apps natives app is_boot.valid found

pub pages_found : (boot : Booted) (uuid : List ℕ) (app : Application) → app_of boot uuid ≡ Some app → pages_of boot uuid ≡ pages_in app
pages_found boot uuid app found = ap (λ (app : Option Application). option_map_or pages_in app 0) found
