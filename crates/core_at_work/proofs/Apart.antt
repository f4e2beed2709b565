-- Where no two applications of a boot have one UUID, none is found to repeat.
use Rattle.std.proofs.Common.{◌≡◌, ℕ, suc, Bool, true, false, List, [], ◌∷◌, ◌++◌, map, get_or, Option, Some, None, refl, sym, subst, ◌∙◌, arith}
use Rattle.std.specs.Prelude.{not, ◌||◌, if◌then◌else◌, IsTrue, All, AllPairs}
use Rattle.std.specs.Str.{bytes_eq}
use Rattle.std.proofs.lemmas.List.Folds.{list_any-append}
use Rattle.kernel_state.specs.Booting.{IsWithinLimits, first_repeated, has_uuid}
use Rattle.ta_isa.specs.Boots.{IsBoot}
use Rattle.ta_isa.specs.declared.boot.App.{App}
use Rattle.ta_isa.specs.declared.boot.Boot.{Boot}

abbrev IsOther : App → App → Type 0
IsOther one other = IsTrue (not (bytes_eq one.uuid other.uuid))

abbrev pub IsNew : List (List ℕ) → App → Type 0
IsNew uuids app = IsTrue (not (has_uuid uuids app.uuid))

not_there : (found : Bool) (uuid : List ℕ) (rest : Option (List ℕ)) → IsTrue (not found)
    → (if found then Some uuid else rest) ≡ rest
not_there true uuid rest is = cc
not_there false uuid rest is = refl

neither : (one other : Bool) → IsTrue (not one) → IsTrue (not other) → IsTrue (not (one || (other || false)))
neither false false here there = refl
neither false true here there = cc
neither true other here there = cc

new_more : (earlier : List (List ℕ)) (app other : App) → IsNew earlier other → IsOther app other
    → IsNew (earlier ++ app.uuid ∷ []) other
new_more earlier app other new apart =
    subst (λ (found : Bool). IsTrue (not found))
    (sym (list_any-append (λ (uuid : List ℕ). bytes_eq uuid other.uuid) earlier (app.uuid ∷ [])))
    (neither (has_uuid earlier other.uuid) (bytes_eq app.uuid other.uuid) new apart)

none_repeats : (earlier : List (List ℕ)) (apps : List App) → AllPairs IsOther apps → All (IsNew earlier) apps
    → first_repeated earlier (map (λ (app : App). app.uuid) apps) ≡ None
none_repeats earlier [] apart new = refl
none_repeats earlier (app ∷ apps) apart new =
    not_there (has_uuid earlier app.uuid) app.uuid
    (first_repeated (earlier ++ app.uuid ∷ []) (map (λ (other : App). other.uuid) apps)) (new 0 app (omega arith))
    ∙ none_repeats (earlier ++ app.uuid ∷ []) apps
    (λ i j d below within. apart (suc i) (suc j) d (omega (arith, below)) (omega (arith, within)))
    (λ k d within. new_more earlier app (get_or apps k d) (new (suc k) d (omega (arith, within)))
    (apart 0 (suc k) d (omega arith) (omega (arith, within))))

-- the applications of a boot, of which none has one of these UUIDs
pub none_repeated : (uuids : List (List ℕ)) (boot : Boot) → IsBoot boot → All (IsNew uuids) boot.apps
    → first_repeated uuids (map (λ (app : App). app.uuid) boot.apps) ≡ None
none_repeated uuids boot boots new = none_repeats uuids boot.apps boots.apart new

-- and it is within the limits
pub within_limits : (boot : Boot) → IsBoot boot → IsWithinLimits boot
within_limits boot boots = record {
  some_processor = boots.some_processor;
  few_processors = boots.few_processors;
  some_thread = boots.some_thread;
  few_threads = boots.few_threads;
  some_frame = boots.some_frame;
  few_frames = boots.few_frames;
  few_apps = boots.few_apps;
  valid = boots.valid;
}
