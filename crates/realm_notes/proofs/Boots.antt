-- A boot with which a core can be booted keeps the limits, and no UUID stands twice in it and among what is built in.
use Rattle.std.proofs.Common.{◌≡◌, ℕ, suc, ◌<◌, Bool, true, false, List, [], ◌∷◌, ◌++◌, length, map, get_or, refl, ap, sym, subst, ◌∙◌, arith}
use Rattle.std.proofs.lemmas.List.Folds.{list_any_at}
use Rattle.std.proofs.lemmas.Slice.Eq.{bytes_eq-Decides}
use Rattle.std.specs.Prelude.{IsTrue, not, ◌||◌}
use Rattle.std.specs.List.{list_any}
use Rattle.std.specs.Str.{bytes_eq}
use Rattle.journal_notes.proofs.Apart as limits
use Rattle.journal_notes.specs.Booting.{IsApart}
use Rattle.kernel_model.specs.Application.{AreNatives, Booted, BuiltIn, IsBooted, Native, OfImage, booted}
use Rattle.kernel_state.specs.Booting.{IsWithinLimits, has_uuid}
use Rattle.ta_isa.specs.Boots.{IsBoot}
use Rattle.ta_isa.specs.declared.boot.App.{App}
use Rattle.ta_isa.specs.declared.boot.Boot.{Boot}

-- ---- what a core was booted with tells its boot and what is built in

same_natives : (natives more : List Native)
    → map (λ (native : Native). BuiltIn native.0 native.1) natives ≡ map (λ (native : Native). BuiltIn native.0 native.1) more
    → natives ≡ more
same_natives [] [] e = refl
same_natives [] (other ∷ more) e = absurd cc
same_natives (native ∷ natives) [] e = absurd cc
same_natives ((uuid, relation) ∷ natives) ((other, is) ∷ more) e =
    let one : uuid ≡ other = cc in
    let two : relation ≡ is = cc in
    let rest : natives ≡ more = same_natives natives more cc in
    cc

-- the applications are those of the boot, and those that are built in
same_apps : (apps others : List App) (natives more : List Native)
    → map (λ app. OfImage app) apps ++ map (λ (native : Native). BuiltIn native.0 native.1) natives
    ≡ map (λ app. OfImage app) others ++ map (λ (native : Native). BuiltIn native.0 native.1) more
    → (apps ≡ others) × (natives ≡ more)
same_apps [] [] natives more e = (refl, same_natives natives more e)
same_apps [] (other ∷ others) [] more e = absurd cc
same_apps [] (other ∷ others) (native ∷ natives) more e = absurd cc
same_apps (app ∷ apps) [] natives [] e = absurd cc
same_apps (app ∷ apps) [] natives (native ∷ more) e = absurd cc
same_apps (app ∷ apps) (other ∷ others) natives more e =
    let first : app ≡ other = cc in
    let rest = same_apps apps others natives more cc in
    (ap (λ (a : App). a ∷ apps) first ∙ ap (λ (items : List App). other ∷ items) rest.0, rest.1)

-- a core can be booted with just these
record Boots (boot : Boot) (natives : List Native) : Type 0 where
  is_boot : IsBoot boot
  are_natives : AreNatives boot natives

-- a boot is known by its fields
same_boot : (one other : Boot) → one.cpus ≡ other.cpus → one.threads ≡ other.threads → one.frames ≡ other.frames → one.apps ≡ other.apps
    → one.key ≡ other.key → one ≡ other
same_boot one other cpus threads frames apps key =
    ap (λ (n : ℕ). let b : Boot = record { cpus = n; threads = one.threads; frames = one.frames; apps = one.apps; key = one.key } in b) cpus
    ∙ ap (λ (n : ℕ). let b : Boot = record { cpus = other.cpus; threads = n; frames = one.frames; apps = one.apps; key = one.key } in b) threads
    ∙ ap (λ (n : ℕ). let b : Boot = record { cpus = other.cpus; threads = other.threads; frames = n; apps = one.apps; key = one.key } in b) frames
    ∙ ap (λ (items : List App). let b : Boot = record { cpus = other.cpus; threads = other.threads; frames = other.frames; apps = items; key = one.key } in b) apps
    ∙ ap (λ (ns : List ℕ). let b : Boot = record { cpus = other.cpus; threads = other.threads; frames = other.frames; apps = other.apps; key = ns } in b) key

boots_with : (boot : Boot) (natives : List Native) → IsBooted (booted boot natives) → Boots boot natives
boots_with boot natives boots =
    let both = same_apps boot.apps boots.boot.apps natives boots.natives (ap (λ (b : Booted). b.apps) boots.same) in
    let same : boots.boot ≡ boot =
    same_boot boots.boot boot (sym (ap (λ (b : Booted). b.cpus) boots.same)) (sym (ap (λ (b : Booted). b.threads) boots.same))
    (sym (ap (λ (b : Booted). b.frames) boots.same)) (sym both.0) (sym (ap (λ (b : Booted). b.key) boots.same)) in
    record {
      is_boot = subst IsBoot same boots.is_boot;
      are_natives = subst (AreNatives boot) (sym both.1) (subst (λ (b : Boot). AreNatives b boots.natives) same boots.are_natives);
    }

-- ---- its limits

pub within_limits : (boot : Boot) (natives : List Native) → IsBooted (booted boot natives) → IsWithinLimits boot
within_limits boot natives boots = limits.within_limits boot (boots_with boot natives boots).is_boot

-- ---- and no UUID stands twice

not_both : (b : Bool) → b ≡ true → IsTrue (not b) → ⊥
not_both true is none = cc
not_both false is none = cc

-- where no application has the UUID, this one hasn't
not_this : (apps : List App) (k : ℕ) (app : App) (uuid : List ℕ) → k < length apps
    → IsTrue (not (list_any (λ (a : App). bytes_eq a.uuid uuid) apps)) → IsTrue (not (bytes_eq uuid (get_or apps k app).uuid))
not_this apps k app uuid below none = by (bytes_eq uuid (get_or apps k app).uuid) refl
  where
    by : (found : Bool) → bytes_eq uuid (get_or apps k app).uuid ≡ found → IsTrue (not found)
    by false is = refl
    by true is =
        let same : uuid ≡ (get_or apps k app).uuid = (bytes_eq-Decides uuid (get_or apps k app).uuid).0 is in
        let back : bytes_eq (get_or apps k app).uuid uuid ≡ true = (bytes_eq-Decides (get_or apps k app).uuid uuid).1 (sym same) in
        absurd (not_both (list_any (λ (a : App). bytes_eq a.uuid uuid) apps)
        (list_any_at (λ (a : App). bytes_eq a.uuid uuid) apps k app below back) none)

both_not : (one other : Bool) → IsTrue (not one) → IsTrue (not other) → IsTrue (not (one || other))
both_not false other here there = there
both_not true other here there = cc

-- none of what is built in has the application's UUID
new_app : (natives : List Native) (app : App) → ((k : ℕ) (d : Native) → k < length natives → IsTrue (not (bytes_eq (get_or natives k d).0 app.uuid)))
    → IsTrue (not (has_uuid (map (λ (native : Native). native.0) natives) app.uuid))
new_app [] app each = refl
new_app (native ∷ natives) app each =
    both_not (bytes_eq native.0 app.uuid) (has_uuid (map (λ (other : Native). other.0) natives) app.uuid) (each 0 native (omega arith))
    (new_app natives app (λ k d within. each (suc k) d (omega (arith, within))))

pub apart_booted : (boot : Boot) (natives : List Native) → IsBooted (booted boot natives) → IsApart boot natives
apart_booted boot natives boots =
    let with = boots_with boot natives boots in
    limits.none_repeated (map (λ (native : Native). native.0) natives) boot with.is_boot
    (λ k d below. new_app natives (get_or boot.apps k d)
    (λ i e within. not_this boot.apps k d (get_or natives i e).0 below (with.are_natives.others i e within)))
