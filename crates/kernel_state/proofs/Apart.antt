-- What it means that no UUID stands twice.
use Rattle.std.proofs.Common.{◌≡◌, ◌≢◌, ℕ, ◌+◌, ◌<◌, ◌≤◌, List, [], ◌∷◌, ◌++◌, length, Bool, true, false, get_or, drop, Option, Some, None, refl, sym, ◌∙◌, ap, ap₂, subst, arith, add-one, suc}
use Rattle.std.specs.Prelude.{not, ◌||◌, map, All, AllPairs, IsTrue, IfNone, if◌then◌else◌}
use Rattle.std.specs.List.{list_any}
use Rattle.std.specs.Str.{bytes_eq}
use Rattle.std.proofs.Math.ListN.{get_or-map}
use Rattle.std.proofs.Math.Seq.{drop-cons}
use Rattle.std.proofs.lemmas.List.{length-map}
use Rattle.std.proofs.lemmas.List.Elements.{All-cons, All-nil}
use Rattle.std.proofs.lemmas.List.Folds.{list_any-append, list_any_none, list_any_at}
use Rattle.std.proofs.lemmas.List.Kept.{AllPairs-cons}
use Rattle.std.proofs.lemmas.Slice.Eq.{bytes_eq-Decides}
use Rattle.kernel_model.specs.Application.{AreNatives, Native}
use Rattle.kernel_state.specs.Booting.{IsWithinLimits, first_repeated, has_uuid}
use Rattle.ta_isa.specs.Boots.{IsBoot}
use Rattle.ta_isa.specs.declared.boot.App.{App}
use Rattle.ta_isa.specs.declared.boot.Boot.{Boot}

-- ---- the search

front : (apps : List App) (i : ℕ) (app : App) → i < length apps → app ≡ get_or apps i app → drop i apps ≡ app ∷ drop (i + 1) apps
front apps i app below is =
    drop-cons apps i app below ∙ ap (λ one. one ∷ drop (suc i) apps) (sym is) ∙ ap (λ k. app ∷ drop k apps) (sym (add-one i))

-- from an application on that one before it, or an earlier one, is
pub found_at : (seen : List (List ℕ)) (apps : List App) (i : ℕ) (app : App) → i < length apps → app ≡ get_or apps i app →
    has_uuid seen app.uuid ≡ true → first_repeated seen (map (λ (app : App). app.uuid) (drop i apps)) ≡ Some app.uuid
found_at seen apps i app below is found =
    let uuid : App → List ℕ = λ app. app.uuid in
    ap (λ rest. first_repeated seen (map uuid rest)) (front apps i app below is)
    ∙ ap (λ (test : Bool). if test then Some app.uuid else first_repeated (seen ++ app.uuid ∷ []) (map uuid (drop (i + 1) apps))) found

-- from one on that isn't
pub passed_at : (seen : List (List ℕ)) (apps : List App) (i : ℕ) (app : App) → i < length apps → app ≡ get_or apps i app →
    has_uuid seen app.uuid ≡ false →
    first_repeated seen (map (λ (app : App). app.uuid) (drop i apps))
    ≡ first_repeated (seen ++ app.uuid ∷ []) (map (λ (app : App). app.uuid) (drop (i + 1) apps))
passed_at seen apps i app below is new =
    let uuid : App → List ℕ = λ app. app.uuid in
    ap (λ rest. first_repeated seen (map uuid rest)) (front apps i app below is)
    ∙ ap (λ (test : Bool). if test then Some app.uuid else first_repeated (seen ++ app.uuid ∷ []) (map uuid (drop (i + 1) apps))) new

-- ---- what it means that none is found

not_found : (found : Bool) (uuid : List ℕ) (rest : Option (List ℕ)) → (if found then Some uuid else rest) ≡ None → IsTrue (not found) × (rest ≡ None)
not_found true uuid rest is = cc
not_found false uuid rest is = (refl, is)

neither : (one other : Bool) → IsTrue (not (one || (other || false))) → IsTrue (not one) × IsTrue (not other)
neither false false is = (refl, refl)
neither false true is = cc
neither true other is = cc

-- the UUID of the application is another one
abbrev IsOther : App → App → Type 0
IsOther one other = IsTrue (not (bytes_eq one.uuid other.uuid))

-- it isn't among these
abbrev IsNew : List (List ℕ) → App → Type 0
IsNew uuids app = IsTrue (not (has_uuid uuids app.uuid))

new_both : (earlier : List (List ℕ)) (app other : App) → IsNew (earlier ++ app.uuid ∷ []) other → IsNew earlier other × IsOther app other
new_both earlier app other is =
    neither (has_uuid earlier other.uuid) (bytes_eq app.uuid other.uuid)
    (subst (λ found. IsTrue (not found)) (list_any-append (λ uuid. bytes_eq uuid other.uuid) earlier (app.uuid ∷ [])) is)

-- no two of the applications have one UUID, and none has one of the earlier ones
apart_from : (earlier : List (List ℕ)) (apps : List App) → first_repeated earlier (map (λ (app : App). app.uuid) apps) ≡ None →
    AllPairs IsOther apps × All (IsNew earlier) apps
apart_from earlier [] none = (λ i j d below within. absurd (omega arith), All-nil _)
apart_from earlier (app ∷ apps) none =
    let head = not_found (has_uuid earlier app.uuid) app.uuid (first_repeated (earlier ++ app.uuid ∷ []) (map (λ (app : App). app.uuid) apps)) none in
    let rest : AllPairs IsOther apps × All (IsNew (earlier ++ app.uuid ∷ [])) apps = apart_from (earlier ++ app.uuid ∷ []) apps head.1 in (
      AllPairs-cons IsOther app apps (λ k d below. (new_both earlier app (get_or apps k d) (rest.1 k d below)).1) rest.0,
      All-cons (IsNew earlier) app apps head.0 (λ k d below. (new_both earlier app (get_or apps k d) (rest.1 k d below)).0),
    )

-- ---- built-in applications

same_true : (one other : List ℕ) → one ≡ other → bytes_eq one other ≡ true
same_true one other is = grind (arith, bytes_eq-Decides)

true_same : (one other : List ℕ) → bytes_eq one other ≡ true → one ≡ other
true_same one other is = grind (arith, bytes_eq-Decides)

other_false : (one other : List ℕ) → (one ≡ other → ⊥) → bytes_eq one other ≡ false
other_false one other differs = by_test (bytes_eq one other) refl
  where
    by_test : (found : Bool) → bytes_eq one other ≡ found → bytes_eq one other ≡ false
    by_test false is = is
    by_test true is = absurd (differs (true_same one other is))

is_not : (b : Bool) → b ≡ false → IsTrue (not b)
is_not true is = cc
is_not false is = refl

not_both : (b : Bool) → b ≡ true → IsTrue (not b) → ⊥
not_both true is not = cc
not_both false is not = cc

-- a UUID that none of the applications has, since they are new beside it
none_has : (uuids : List (List ℕ)) (apps : List App) (k : ℕ) (d : List ℕ) → k < length uuids → All (IsNew uuids) apps →
    IsTrue (not (list_any (λ (app : App). bytes_eq app.uuid (get_or uuids k d)) apps))
none_has uuids apps k d below new =
    is_not (list_any (λ (app : App). bytes_eq app.uuid (get_or uuids k d)) apps) (list_any_none (λ (app : App). bytes_eq app.uuid (get_or uuids k d)) apps (λ i e within.
    other_false (get_or apps i e).uuid (get_or uuids k d) (λ same. not_both (has_uuid uuids (get_or apps i e).uuid)
    (list_any_at (λ uuid. bytes_eq uuid (get_or apps i e).uuid) uuids k d below (same_true (get_or uuids k d) (get_or apps i e).uuid (sym same)))
    (new i e within))))

abbrev pub uuids_of : List Native → List (List ℕ)
uuids_of natives = map (λ (native : Native). native.0) natives

natives_apart : (natives : List Native) → AllPairs (λ earlier later. earlier ≢ later) (uuids_of natives) →
    AllPairs (λ (earlier : Native) (later : Native). IsTrue (not (bytes_eq earlier.0 later.0))) natives
natives_apart natives apart i j d below within =
    let uuid : Native → List ℕ = λ native. native.0 in
    let differ : get_or (uuids_of natives) i d.0 ≢ get_or (uuids_of natives) j d.0 = apart i j d.0 below (rw (length-map natives uuid) within) in
    is_not (bytes_eq (get_or natives i d).0 (get_or natives j d).0) (other_false (get_or natives i d).0 (get_or natives j d).0 (λ same. differ (get_or-map uuid natives i d ∙ same ∙ sym (get_or-map uuid natives j d))))

natives_others : (natives : List Native) (apps : List App) → All (IsNew (uuids_of natives)) apps →
    All (λ (native : Native). IsTrue (not (list_any (λ (app : App). bytes_eq app.uuid native.0) apps))) natives
natives_others natives apps new k d below =
    let uuid : Native → List ℕ = λ native. native.0 in
    subst (λ (u : List ℕ). IsTrue (not (list_any (λ (app : App). bytes_eq app.uuid u) apps))) (get_or-map uuid natives k d)
    (none_has (uuids_of natives) apps k d.0 (rw (length-map natives uuid) below) new)

-- ---- the boot

-- within the limits, and where no UUID is found twice, it is a boot beside these built-in applications
pub boot_if_none : (found : Option (List ℕ)) (boot : Boot) (uuids : List (List ℕ)) (apps : List App) →
    found ≡ first_repeated uuids (map (λ (app : App). app.uuid) apps) → apps ≡ boot.apps → IsWithinLimits boot →
    IfNone found (IsBoot boot)
boot_if_none (Some uuid) boot uuids apps first is_apps limits = tt
boot_if_none None boot uuids apps first is_apps limits = record {
  some_processor = limits.some_processor;
  few_processors = limits.few_processors;
  some_thread = limits.some_thread;
  few_threads = limits.few_threads;
  some_frame = limits.some_frame;
  few_frames = limits.few_frames;
  few_apps = limits.few_apps;
  valid = limits.valid;
  apart = subst (AllPairs IsOther) is_apps (apart_from uuids apps (sym first)).0;
}

pub natives_if_none : (found : Option (List ℕ)) (boot : Boot) (natives : List Native) (uuids : List (List ℕ)) (apps : List App) →
    found ≡ first_repeated uuids (map (λ (app : App). app.uuid) apps) → uuids ≡ uuids_of natives → apps ≡ boot.apps →
    length uuids ≤ 16 → AllPairs (λ earlier later. earlier ≢ later) uuids → IfNone found (AreNatives boot natives)
natives_if_none (Some uuid) boot natives uuids apps first is_uuids is_apps few apart = tt
natives_if_none None boot natives uuids apps first is_uuids is_apps few apart =
    let none : first_repeated (uuids_of natives) (map (λ (app : App). app.uuid) boot.apps) ≡ None = ap₂ (λ (uuids : List (List ℕ)) (apps : List App). first_repeated uuids (map (λ (app : App). app.uuid) apps)) (sym is_uuids) (sym is_apps) ∙ sym first in
    record {
      few = subst (λ n. n ≤ 16) (ap length is_uuids ∙ length-map natives (λ (native : Native). native.0)) few;
      apart = natives_apart natives (subst (AllPairs (λ earlier later. earlier ≢ later)) is_uuids apart);
      others = natives_others natives boot.apps (apart_from (uuids_of natives) boot.apps none).1;
    }
