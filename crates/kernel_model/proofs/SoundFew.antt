-- How many instances are kept, after each event of a legal history: one for each session at most, and those that are kept alive.
use Rattle.std.proofs.Common.{◌≡◌, ℕ, ◌+◌, ◌≤◌, Bool, true, false, cond, List, [], ◌∷◌, ◌++◌, Option, Some, None, ◌⊎◌, inl, inr, length, map, refl, ap, subst, sym, ◌∙◌, arith}
use Rattle.std.specs.Prelude.{◌&&◌, bytes_eq, find, sum_by}
use Rattle.std.specs.Option.{option_map_or}
use Rattle.std.specs.Ordering.{eq_by_cmp, nat_cmp}
use Rattle.std.proofs.lemmas.Bool.Decides.{nat_tests}
use Rattle.std.proofs.lemmas.List.Sums.{sum_by-cons}
use Rattle.std.proofs.lemmas.Slice.Eq.{bytes_eq-Decides}
use Rattle.base.specs.NumberMap.{NumberMap, IsRising, IsRising-remove, get, remove}
use Rattle.job_model.specs.Job.{Job}
use Rattle.job_model.specs.declared.call_kind.CallKind.{CallKind}
use Rattle.job_model.specs.declared.call_kind.CallKind.TheVariants as kind
use Rattle.session_table.specs.declared.session.Session.{Session}
use Rattle.ta_isa.specs.declared.boot.App.{App}
use Rattle.kernel_model.specs.Application.{Application, Booted, BuiltIn, IsBooted, Native, OfImage, uuid_of}
use Rattle.kernel_model.specs.Instances.{app_of, is_single, keeps_alive}
use Rattle.kernel_model.specs.Kernel.{CallPhase, Runs, Asks, Waits, Ends, Instance, PendingCall, Tables}
use Rattle.kernel_model.specs.Sound.{Always, Calls, unmarked_at}
use Rattle.kernel_model.specs.SoundCalls.{AreJoined, is_in_session, is_over, is_told, job_in}
use Rattle.kernel_model.specs.SoundInstances.{AreFew}
use Rattle.kernel_model.specs.SoundNumbers.{is_on_instance}
use Rattle.kernel_model.specs.SoundOrder.{AreInOrder}
use Rattle.kernel_model.proofs.SoundCallsJoined.{all_joined}
use Rattle.kernel_model.proofs.SoundJoined.{never_both, never_none, some_same}
use Rattle.kernel_model.proofs.SoundMaps.{get-remove-other, get-removed}
use Rattle.kernel_model.proofs.SoundNewJoined.{no_job}
use Rattle.kernel_model.proofs.SoundOrder.{in_order}
use Rattle.kernel_model.proofs.SoundReasons.{AreReasoned, HasReason, IsKeptAlive}
use Rattle.kernel_model.proofs.SoundReasonsKept.{all_reasoned}
use Rattle.kernel_model.proofs.SoundRising.{found_there, none_passes}
use Rattle.kernel_model.proofs.SoundClaims.{IsSingle}
use Rattle.kernel_model.proofs.SoundSingles.{OneEach, all_single}
use Rattle.kernel_model.proofs.SoundSums.{sum_remove}

-- ---- a map with one less

sum_ones : {X : Type 0} (m : NumberMap X) → sum_by (λ (e : ℕ × X). 1) m ≡ length m
sum_ones [] = refl
sum_ones {X} (e ∷ es) = omega (arith, sum_by-cons (λ (k : ℕ × X). 1) e es, sum_ones es)

length_less : {X : Type 0} (m : NumberMap X) (k : ℕ) (v : X) → IsRising m → get m k ≡ Some v → length (remove m k) + 1 ≡ length m
length_less {X} m k v rising there =
    omega (arith, sum_remove (λ (e : ℕ × X). 1) m k v rising there, sum_ones m, sum_ones (remove m k))

-- the map without what it has at a number, if it has something
abbrev less_one : {X : Type 0} → NumberMap X → ℕ → NumberMap X
less_one m k = option_map_or (λ v. remove m k) (get m k) m

record IsLess {X : Type 0} (m : NumberMap X) (k : ℕ) (less : NumberMap X) : Type 0 where
  rising : IsRising less
  many : length m ≤ length less + 1
  got : (q : ℕ) (v : X) → get less q ≡ Some v → (k ≡ q → ⊥) × (get m q ≡ Some v)

is_less : {X : Type 0} (m : NumberMap X) (k : ℕ) → IsRising m → IsLess m k (less_one m k)
is_less {X} m k rising = by (get m k) refl
  where
    by : (o : Option X) → get m k ≡ o → IsLess m k (option_map_or (λ (v : X). remove m k) o m)
    by None is = record {
      rising = rising;
      many = omega arith;
      got = λ q v there. (λ same. never_none (get m k) v is (ap (λ (n : ℕ). get m n) same ∙ there), there);
    }
    by (Some v) is = record {
      rising = IsRising-remove m k rising;
      many = omega (arith, length_less m k v rising is);
      got = λ q w there. get-removed m k q w there;
    }

-- ---- without those of sessions

-- a session of the number is there
abbrev HasOne : NumberMap Session → ℕ → Type 0
HasOne sessions number = (at : ℕ) × (session : Session) × (get sessions at ≡ Some session) × (session.instance ≡ number)

abbrev AreApart : NumberMap Session → ℕ → Type 0
AreApart [] number = Unit {0}
AreApart (first ∷ sessions) number = (first.1.instance ≡ number → ⊥) × AreApart sessions number

none_apart : (sessions : NumberMap Session) (number at : ℕ) (session : Session) → get sessions at ≡ Some session → session.instance ≡ number → AreApart sessions number → ⊥
none_apart [] number at session there its apart = absurd cc
none_apart (first ∷ sessions) number at session there its apart =
    by_test (eq_by_cmp nat_cmp at first.0) there (λ found. none_apart sessions number at session found its apart.1)
  where
    by_test : (b : Bool) → cond b (Some first.1) (get sessions at) ≡ Some session → (get sessions at ≡ Some session → ⊥) → ⊥
    by_test true found rest = apart.0 (ap (λ (s : Session). s.instance) (some_same first.1 session found) ∙ its)
    by_test false found rest = rest found

abbrev without_all : NumberMap Session → NumberMap Instance → NumberMap Instance
without_all [] m = m
without_all (first ∷ sessions) m = without_all sessions (less_one m first.1.instance)

record IsWithout (sessions : NumberMap Session) (m left : NumberMap Instance) : Type 0 where
  rising : IsRising left
  many : length m ≤ length sessions + length left
  got : (q : ℕ) (v : Instance) → get left q ≡ Some v → AreApart sessions q × (get m q ≡ Some v)

is_without : (sessions : NumberMap Session) (m : NumberMap Instance) → IsRising m → IsWithout sessions m (without_all sessions m)
is_without [] m rising = record { rising = rising; many = omega arith; got = λ q v there. (tt, there) }
is_without (first ∷ sessions) m rising =
    let one = is_less m first.1.instance rising in
    let rest = is_without sessions (less_one m first.1.instance) one.rising in
    record {
      rising = rest.rising;
      many = omega (arith, one.many, rest.many);
      got = λ q v there.
          let later = rest.got q v there in
          let here = one.got q v later.1 in
          ((here.0, later.0), here.1);
    }

-- ---- without those of applications

abbrev test_of : List ℕ → ℕ × Instance → Bool
test_of uuid kept = bytes_eq kept.1.uuid uuid

abbrev without_one : NumberMap Instance → List ℕ → NumberMap Instance
without_one m uuid = option_map_or (λ (kept : ℕ × Instance). less_one m kept.0) (find (test_of uuid) m) m

-- no two of an application that shares its instance
abbrev AreSingle : Booted → NumberMap Instance → Type 0
AreSingle boot m = (one other : ℕ) (v w : Instance) → IsSingle boot v.uuid → get m one ≡ Some v → get m other ≡ Some w → v.uuid ≡ w.uuid → one ≡ other

record IsWithoutOne (boot : Booted) (uuid : List ℕ) (m left : NumberMap Instance) : Type 0 where
  rising : IsRising left
  many : length m ≤ length left + 1
  got : (q : ℕ) (v : Instance) → get left q ≡ Some v → (get m q ≡ Some v) × (IsSingle boot v.uuid → v.uuid ≡ uuid → ⊥)

is_without_one : (boot : Booted) (uuid : List ℕ) (m : NumberMap Instance) → IsRising m → AreSingle boot m → IsWithoutOne boot uuid m (without_one m uuid)
is_without_one boot uuid m rising single = by (find (test_of uuid) m) refl
  where
    by : (o : Option (ℕ × Instance)) → find (test_of uuid) m ≡ o → IsWithoutOne boot uuid m (option_map_or (λ (kept : ℕ × Instance). less_one m kept.0) o m)
    by None is = record {
      rising = rising;
      many = omega arith;
      got = λ q v there. (there, λ shares same. never_both (sym ((bytes_eq-Decides v.uuid uuid).1 same) ∙ none_passes m (test_of uuid) q v is there));
    }
    by (Some kept) is =
        let less = is_less m kept.0 rising in
        let found = found_there m (test_of uuid) kept rising is in
        let its : kept.1.uuid ≡ uuid = (bytes_eq-Decides kept.1.uuid uuid).0 found.1 in
        record {
          rising = less.rising;
          many = less.many;
          got = λ q v there.
              let was = less.got q v there in
              (was.1, λ shares same. was.0 (sym (single q kept.0 v kept.1 shares was.1 found.0 (same ∙ sym its))));
        }

abbrev NoneOf : Booted → List App → List ℕ → Type 0
NoneOf boot [] uuid = Unit {0}
NoneOf boot (app ∷ apps) uuid = (IsSingle boot uuid → uuid ≡ app.uuid → ⊥) × NoneOf boot apps uuid

abbrev without_apps : List App → NumberMap Instance → NumberMap Instance
without_apps [] m = m
without_apps (app ∷ apps) m = without_apps apps (without_one m app.uuid)

record IsWithoutApps (boot : Booted) (apps : List App) (m left : NumberMap Instance) : Type 0 where
  rising : IsRising left
  many : length m ≤ length apps + length left
  got : (q : ℕ) (v : Instance) → get left q ≡ Some v → (get m q ≡ Some v) × NoneOf boot apps v.uuid

is_without_apps : (boot : Booted) (apps : List App) (m : NumberMap Instance) → IsRising m → AreSingle boot m → IsWithoutApps boot apps m (without_apps apps m)
is_without_apps boot [] m rising single = record { rising = rising; many = omega arith; got = λ q v there. (there, tt) }
is_without_apps boot (app ∷ apps) m rising single =
    let one = is_without_one boot app.uuid m rising single in
    let rest = is_without_apps boot apps (without_one m app.uuid) one.rising
    (λ a b v w shares first second same. single a b v w shares (one.got a v first).0 (one.got b w second).0 same) in
    record {
      rising = rest.rising;
      many = omega (arith, one.many, rest.many);
      got = λ q v there.
          let later = rest.got q v there in
          let here = one.got q v later.0 in
          (here.0, (here.1, later.1));
    }

-- an application that keeps its instance alive is one of the boot's
alive_among : (boot : Booted) (apps : List App) (natives : List Native) (uuid : List ℕ) (app : Application)
    → find (λ (a : Application). bytes_eq (uuid_of a) uuid) (map (λ (a : App). OfImage a) apps ++ map (λ (n : Native). BuiltIn n.0 n.1) natives) ≡ Some app
    → keeps_alive app ≡ true → IsSingle boot uuid → NoneOf boot apps uuid → ⊥
alive_among boot [] [] uuid app found alive shares none = absurd cc
alive_among boot [] (native ∷ natives) uuid app found alive shares none =
    by_test (bytes_eq native.0 uuid) found (λ later. alive_among boot [] natives uuid app later alive shares none)
  where
    by_test : (b : Bool) → cond b (Some (BuiltIn native.0 native.1)) (find (λ (a : Application). bytes_eq (uuid_of a) uuid) (map (λ (n : Native). BuiltIn n.0 n.1) natives)) ≡ Some app
        → (find (λ (a : Application). bytes_eq (uuid_of a) uuid) (map (λ (n : Native). BuiltIn n.0 n.1) natives) ≡ Some app → ⊥) → ⊥
    by_test true is rest = never_both (sym alive ∙ ap keeps_alive (sym (some_same (BuiltIn native.0 native.1) app is)))
    by_test false is rest = rest is
alive_among boot (first ∷ apps) natives uuid app found alive shares none =
    by_test (bytes_eq first.uuid uuid) refl found (λ later. alive_among boot apps natives uuid app later alive shares none.1)
  where
    by_test : (b : Bool) → bytes_eq first.uuid uuid ≡ b
        → cond b (Some (OfImage first)) (find (λ (a : Application). bytes_eq (uuid_of a) uuid) (map (λ (a : App). OfImage a) apps ++ map (λ (n : Native). BuiltIn n.0 n.1) natives)) ≡ Some app
        → (find (λ (a : Application). bytes_eq (uuid_of a) uuid) (map (λ (a : App). OfImage a) apps ++ map (λ (n : Native). BuiltIn n.0 n.1) natives) ≡ Some app → ⊥) → ⊥
    by_test true same is rest = none.0 shares (sym ((bytes_eq-Decides first.uuid uuid).0 same))
    by_test false same is rest = rest is

shares_too : (app : Application) → keeps_alive app ≡ true → is_single app ≡ true
shares_too app alive = first (is_single app) _ alive
  where
    first : (one other : Bool) → (one && other) ≡ true → one ≡ true
    first true other e = refl
    first false other e = absurd cc

not_alive : (boot : Booted) (booted : IsBooted boot) (uuid : List ℕ) → IsKeptAlive boot uuid → NoneOf boot booted.boot.apps uuid → ⊥
not_alive boot booted uuid alive none = by (app_of boot uuid) refl alive
  where
    by : (o : Option Application) → app_of boot uuid ≡ o → option_map_or keeps_alive o false ≡ true → ⊥
    by None is e = never_both (sym e)
    by (Some app) is e =
        alive_among boot booted.boot.apps booted.natives uuid app (sym (ap (λ (b : Booted). app_of b uuid) booted.same) ∙ is) e
        (ap (λ (o : Option Application). option_map_or is_single o false) is ∙ shares_too app e) none

-- ---- the count

nothing_left : {X : Type 0} (m : NumberMap X) → ((q : ℕ) (v : X) → get m q ≡ Some v → ⊥) → length m ≡ 0
nothing_left [] none = refl
nothing_left {X} (e ∷ es) none = absurd (none e.0 e.1 (ap (λ b. cond b (Some e.1) (get es e.0)) (its_own e.0)))
  where
    its_own : (a : ℕ) → eq_by_cmp nat_cmp a a ≡ true
    its_own a = grind (arith, nat_tests)

-- where each instance has one of these sessions, or is kept alive
counted : (boot : Booted) (booted : IsBooted boot) (sessions : NumberMap Session) (instances : NumberMap Instance) → IsRising instances → AreSingle boot instances
    → ((number : ℕ) (instance : Instance) → get instances number ≡ Some instance → HasOne sessions number ⊎ IsKeptAlive boot instance.uuid)
    → length instances ≤ length sessions + 16
counted boot booted sessions instances rising single reason =
    let first = is_without sessions instances rising in
    let second = is_without_apps boot booted.boot.apps (without_all sessions instances) first.rising
    (λ a b v w shares one other same. single a b v w shares (first.got a v one).1 (first.got b w other).1 same) in
    let none = nothing_left (without_apps booted.boot.apps (without_all sessions instances))
    (λ q v there.
    let after_apps = second.got q v there in
    let after_sessions = first.got q v after_apps.0 in
    no_reason q v after_apps.1 after_sessions.0 (reason q v after_sessions.1)) in
    omega (arith, first.many, second.many, none, booted.is_boot.few_apps)
  where
    no_reason : (q : ℕ) (v : Instance) → NoneOf boot booted.boot.apps v.uuid → AreApart sessions q → HasOne sessions q ⊎ IsKeptAlive boot v.uuid → ⊥
    no_reason q v none apart (inl one) = none_apart sessions q one.0 one.1 one.2 one.3 apart
    no_reason q v none apart (inr alive) = not_alive boot booted v.uuid alive none

-- ---- each instance has a reason

untold : (phase : CallPhase) (job : Job) → job_in phase ≡ Some job → (is_told phase ≡ false) × (is_over phase ≡ false)
untold (Runs job) other is = (refl, refl)
untold (Asks job wanted payload) other is = (refl, refl)
untold (Waits params) other is = no_job other is
untold (Ends result params told wakes) other is = no_job other is

module _ (boot : Booted) (calls : Calls) (tables : Tables) (joined : AreJoined calls tables) (reasons : AreReasoned boot calls tables) where
  of_call : (k : CallKind) (slot : ℕ) (call : PendingCall) (job : Job) → call.kind ≡ k → calls slot ≡ Some call → job_in call.phase ≡ Some job
      → HasOne tables.sessions call.instance
  of_call kind.Open slot call job is there works =
      let has = (joined.each slot call there).session.opening is (untold call.phase job works).0 in
      (call.session, has.session, has.kept, has.instance)
  of_call (kind.Invoke func) slot call job is there works =
      let has = (joined.each slot call there).session.working job works (ap is_in_session is) in
      (call.session, has.session, has.kept, has.instance)
  of_call kind.Close slot call job is there works =
      let has = (joined.each slot call there).session.working job works (ap is_in_session is) in
      (call.session, has.session, has.kept, has.instance)
  of_call kind.Settled slot call job is there works =
      never_both (sym ((joined.each slot call there).instance.settled (untold call.phase job works).1) ∙ ap is_on_instance is)

  reason_of : (number : ℕ) (instance : Instance) (holder : Option ℕ) → get tables.instances number ≡ Some instance → instance.holder ≡ holder
      → HasOne tables.sessions number ⊎ IsKeptAlive boot instance.uuid
  reason_of number instance (Some slot) kept holder =
      let its = joined.holders number slot instance kept holder in
      inl (subst (HasOne tables.sessions) its.on_instance (of_call its.call.kind slot its.call its.job refl its.in_slot its.works))
  reason_of number instance None kept holder = by (reasons.free number instance kept holder)
    where
      by : HasReason boot tables.sessions number instance → HasOne tables.sessions number ⊎ IsKeptAlive boot instance.uuid
      by (inl one) = inl (one.at, one.session, one.kept, one.instance)
      by (inr alive) = inr alive

  few : IsBooted boot → AreInOrder tables → OneEach boot calls tables.instances → AreFew tables
  few booted order one_each = record {
    most = counted boot booted tables.sessions tables.instances order.instances single (λ number instance kept. reason_of number instance instance.holder kept refl);
    room = λ number session kept gone.
        let less = counted boot booted (remove tables.sessions number) tables.instances order.instances single
        (λ at instance there. still number session kept gone at instance there (reason_of at instance instance.holder there refl)) in
        omega (arith, less, length_less tables.sessions number session order.sessions.rising kept);
  }
    where
      single : AreSingle boot tables.instances
      single one other v w shares first second same = one_each v.uuid one other shares (inl (v, first, refl)) (inl (w, second, sym same))

      still : (number : ℕ) (session : Session) → get tables.sessions number ≡ Some session → get tables.instances session.instance ≡ None → (at : ℕ) (instance : Instance)
          → get tables.instances at ≡ Some instance → HasOne tables.sessions at ⊎ IsKeptAlive boot instance.uuid
          → HasOne (remove tables.sessions number) at ⊎ IsKeptAlive boot instance.uuid
      still number session kept gone at instance there (inr alive) = inr alive
      still number session kept gone at instance there (inl one) = inl (one.0, one.1, get-remove-other tables.sessions number one.0 apart ∙ one.2, one.3)
        where
          apart : number ≡ one.0 → ⊥
          apart same =
              let its = some_same session one.1 (sym kept ∙ ap (λ (n : ℕ). get tables.sessions n) same ∙ one.2) in
              never_none (get tables.instances session.instance) instance gone
              (ap (λ (n : ℕ). get tables.instances n) (ap (λ (s : Session). s.instance) its ∙ one.3) ∙ there)

pub kernels_few : Always (λ boot kernel. AreFew kernel.tables)
kernels_few boot history kernel booted e =
    few boot (unmarked_at kernel.slots) kernel.tables (all_joined boot history kernel e) (all_reasoned boot history kernel e) booted (in_order boot history kernel e)
    (all_single boot history kernel e)

sum_few : (instances sessions : ℕ) → instances ≤ sessions + 16 → sessions ≤ 64 → instances ≤ 80
sum_few instances sessions few most = omega arith

pub at_most_80 : Always (λ boot kernel. length kernel.tables.instances ≤ 80)
at_most_80 boot history kernel booted e =
    sum_few (length kernel.tables.instances) (length kernel.tables.sessions) (kernels_few boot history kernel booted e).most
    (in_order boot history kernel e).sessions.few
