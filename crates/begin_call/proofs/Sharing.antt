-- The instance that an open shares is the one of the least number.
use Rattle.std.proofs.Common.{◌≡◌, ℕ, Bool, true, false, cond, List, [], ◌∷◌, map, min, Option, Some, None, refl, sym, ap, ◌∙◌, subst}
use Rattle.std.specs.Prelude.{if◌then◌else◌}
use Rattle.std.specs.List.{filter, find, reduce}
use Rattle.std.specs.Option.{option_map}
use Rattle.std.specs.Str.{bytes_eq}
use Rattle.base.specs.NumberMap.{NumberMap, IsRising, get}
use Rattle.kernel_model.specs.Application.{Application, uuid_of}
use Rattle.kernel_model.specs.Instances.{is_single, shared_instance}
use Rattle.kernel_model.specs.Kernel.{Instance}
use Rattle.ta_instances.proofs.LeastNumber.{least_is_first}
use Rattle.ta_instances.specs.Instances.{least_with}
use Rattle.ta_instances.specs.declared.instance.Instance.{Instance as CodeInstance}
use Rattle.kernel_state.specs.Tables.{instance_of}
use Rattle.begin_call.proofs.HeldInstances.{kept_as}
use Rattle.begin_call.proofs.Maps.{find_seen, found_there, get_seen}

-- it is of the UUID's application
abbrev has_uuid : List ℕ → ℕ × CodeInstance → Bool
has_uuid uuid kept = bytes_eq kept.1.uuid uuid

abbrev seen_entry : ℕ × CodeInstance → ℕ × Instance
seen_entry kept = (kept.0, instance_of kept.1)

abbrev entry_at : ℕ → CodeInstance → Option (ℕ × CodeInstance)
entry_at number instance = Some (number, instance)

abbrev seen_at : ℕ → Instance → Option (ℕ × Instance)
seen_at number instance = Some (number, instance)

-- the first of the application, as the kernel sees it
first_seen : (m : NumberMap CodeInstance) (uuid : List ℕ) →
    find (λ (kept : ℕ × Instance). bytes_eq kept.1.uuid uuid) (kept_as m) ≡ option_map seen_entry (find (has_uuid uuid) m)
first_seen m uuid = find_seen instance_of (λ (instance : Instance). bytes_eq instance.uuid uuid) m

-- ---- none is kept

none_least : (m : NumberMap CodeInstance) (uuid : List ℕ) → least_with m uuid ≡ None → find (has_uuid uuid) m ≡ None
none_least [] uuid none = refl
none_least (e ∷ es) uuid none = by_test (has_uuid uuid e) none (none_least es uuid)
  where
    by_test : (b : Bool) → reduce min (map (λ (entry : ℕ × CodeInstance). entry.0) (cond b (e ∷ filter (has_uuid uuid) es) (filter (has_uuid uuid) es))) ≡ None →
        (least_with es uuid ≡ None → find (has_uuid uuid) es ≡ None) → cond b (Some e) (find (has_uuid uuid) es) ≡ None
    by_test true none rest = absurd (cc)
    by_test false none rest = rest none

none_if : (b : Bool) (found : Option (ℕ × Instance)) → found ≡ None → (if b then found else None) ≡ None
none_if true found none = none
none_if false found none = refl

pub shares_none : (m : NumberMap CodeInstance) (app : Application) → least_with m (uuid_of app) ≡ None → shared_instance (kept_as m) app ≡ None
shares_none m app none =
    none_if (is_single app) (find (λ (kept : ℕ × Instance). bytes_eq kept.1.uuid (uuid_of app)) (kept_as m))
    (first_seen m (uuid_of app) ∙ ap (option_map seen_entry) (none_least m (uuid_of app) none))

-- ---- one is

least_found : (m : NumberMap CodeInstance) (uuid : List ℕ) (number : ℕ) (o : Option (ℕ × CodeInstance)) → IsRising m → find (has_uuid uuid) m ≡ o →
    option_map (λ (entry : ℕ × CodeInstance). entry.0) o ≡ Some number → (found : CodeInstance) × (get m number ≡ Some found) × (o ≡ Some (number, found))
least_found m uuid number None rising is least = absurd (cc)
least_found m uuid number (Some entry) rising is least =
    let same : entry.0 ≡ number = cc in
    let there : get m entry.0 ≡ Some entry.1 = found_there (has_uuid uuid) m entry rising is in
    (entry.1, subst (λ (n : ℕ). get m n ≡ Some entry.1) same there, ap (λ (n : ℕ). entry_at n entry.1) same)

the_least : (m : NumberMap CodeInstance) (uuid : List ℕ) (number : ℕ) → IsRising m → least_with m uuid ≡ Some number →
    (found : CodeInstance) × (get m number ≡ Some found) × (find (has_uuid uuid) m ≡ Some (number, found))
the_least m uuid number rising least =
    least_found m uuid number (find (has_uuid uuid) m) rising refl (sym (least_is_first (has_uuid uuid) m rising) ∙ least)

-- it is kept
pub shared_is_kept : (m : NumberMap CodeInstance) (uuid : List ℕ) (number : ℕ) → IsRising m → least_with m uuid ≡ Some number → get m number ≡ None → ⊥
shared_is_kept m uuid number rising least none = let there = (the_least m uuid number rising least).1 in cc

-- and this is what the kernel shares
pub shares_least : (m : NumberMap CodeInstance) (app : Application) (number : ℕ) (instance : CodeInstance) → IsRising m → is_single app ≡ true →
    least_with m (uuid_of app) ≡ Some number → get m number ≡ Some instance → shared_instance (kept_as m) app ≡ Some (number, instance_of instance)
shares_least m app number instance rising single least is =
    let there = the_least m (uuid_of app) number rising least in
    let kept : get m number ≡ Some there.0 = there.1 in
    let same : there.0 ≡ instance = cc in
    let whole : shared_instance (kept_as m) app ≡ find (λ (kept : ℕ × Instance). bytes_eq kept.1.uuid (uuid_of app)) (kept_as m) = rw single refl in
    whole ∙ first_seen m (uuid_of app) ∙ ap (option_map seen_entry) there.2 ∙ ap (λ (one : CodeInstance). seen_at number (instance_of one)) same

pub shared_there : (m : NumberMap CodeInstance) (app : Application) (number : ℕ) (instance : CodeInstance) → IsRising m → is_single app ≡ true →
    least_with m (uuid_of app) ≡ Some number → get m number ≡ Some instance →
    (n : ℕ) (kept : Instance) → shared_instance (kept_as m) app ≡ Some (n, kept) → get (kept_as m) n ≡ Some kept
shared_there m app number instance rising single least is n kept shared =
    let this : shared_instance (kept_as m) app ≡ Some (number, instance_of instance) = shares_least m app number instance rising single least is in
    let one : seen_at number (instance_of instance) ≡ seen_at n kept = sym this ∙ shared in
    let pair : (number, instance_of instance) ≡ (n, kept) = cc in
    subst (λ (p : ℕ × Instance). get (kept_as m) p.0 ≡ Some p.1) pair (get_seen instance_of m number ∙ ap (option_map instance_of) is)

-- ---- as it is asked

never : {X : Type 0} (o : Option X) (x : X) → o ≡ None → o ≡ Some x → ⊥
never o x none some = cc

pub asked_none : (m : NumberMap CodeInstance) (app : Application) (uuid : List ℕ) → uuid ≡ uuid_of app → least_with m uuid ≡ None →
    shared_instance (kept_as m) app ≡ None
asked_none m app uuid same none = shares_none m app (subst (λ (uuid : List ℕ). least_with m uuid ≡ None) same none)

pub asked_never : (m : NumberMap CodeInstance) (app : Application) (n : ℕ) (kept : Instance) → shared_instance (kept_as m) app ≡ None →
    shared_instance (kept_as m) app ≡ Some (n, kept) → get (kept_as m) n ≡ Some kept
asked_never m app n kept none shared = absurd (never (shared_instance (kept_as m) app) (n, kept) none shared)

pub asked_least : (m : NumberMap CodeInstance) (app : Application) (uuid : List ℕ) (number : ℕ) (instance : CodeInstance) → uuid ≡ uuid_of app → IsRising m →
    is_single app ≡ true → least_with m uuid ≡ Some number → get m number ≡ Some instance → shared_instance (kept_as m) app ≡ Some (number, instance_of instance)
asked_least m app uuid number instance same rising single least is =
    shares_least m app number instance rising single (subst (λ (uuid : List ℕ). least_with m uuid ≡ Some number) same least) is

pub asked_there : (m : NumberMap CodeInstance) (app : Application) (uuid : List ℕ) (number : ℕ) (instance : CodeInstance) → uuid ≡ uuid_of app → IsRising m →
    is_single app ≡ true → least_with m uuid ≡ Some number → get m number ≡ Some instance →
    (n : ℕ) (kept : Instance) → shared_instance (kept_as m) app ≡ Some (n, kept) → get (kept_as m) n ≡ Some kept
asked_there m app uuid number instance same rising single least is =
    shared_there m app number instance rising single (subst (λ (uuid : List ℕ). least_with m uuid ≡ Some number) same least) is
