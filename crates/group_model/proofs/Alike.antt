-- What a test of sessions comes to in a kernel it comes to in the machine of a group: the group's sessions are alike, and
-- all others are on instances of others.
use Rattle.std.proofs.Common.{◌≡◌, ℕ, Bool, true, false, List, [], ◌∷◌, Option, Some, None, refl, ap, subst, sym, ◌∙◌}
use Rattle.std.specs.Prelude.{All, ◌==◌, ◌&&◌, ◌||◌, is_some}
use Rattle.std.specs.List.{list_any}
use Rattle.std.specs.Option.{option_map}
use Rattle.std.proofs.lemmas.Bool.Decides.{Decides-eqb}
use Rattle.std.proofs.lemmas.List.Elements.{All-cons, All-head, All-nil, All-tail}
use Rattle.base.specs.NumberMap.{NumberMap, IsRising, IsRising-remove, get, remove}
use Rattle.base.proofs.MapLemmas.{All-get}
use Rattle.session_table.specs.declared.session.Session.{Session}
use Rattle.kernel_model.specs.Kernel.{Instance}
use Rattle.kernel_model.specs.Sessions as kept_sessions
use Rattle.kernel_model.proofs.SoundRising.{all_got}
use Rattle.own_model.proofs.Maps.{get-remove-other, get-remove-same, get-removed}
use Rattle.own_model.specs.Tied.{FoundAlike, HoldersAlike, InstancesAlike}
use Rattle.group_model.specs.Group.{GroupSession}
use Rattle.group_model.specs.Group as machine
use Rattle.group_model.specs.Tied.{AreTiedSessions, SessionsAlike, SessionsFoundAlike}

-- ---- what is found on one side is on the other

pub map_none : {A B : Type 0} (f : A → B) (o : Option A) → option_map f o ≡ None → o ≡ None
map_none f None e = refl
map_none f (Some a) e = absurd cc

pub own_for : (instances : NumberMap ℕ) (kept : Session) (found : Option GroupSession)
    → SessionsFoundAlike instances (Some kept) found
    → (own : GroupSession) × (found ≡ Some own) × SessionsAlike instances kept own
own_for instances kept None alike = absurd alike
own_for instances kept (Some own) alike = (own, refl, alike)

pub kept_for : (instances : NumberMap ℕ) (found : Option Session) (own : GroupSession)
    → SessionsFoundAlike instances found (Some own)
    → (kept : Session) × (found ≡ Some kept) × SessionsAlike instances kept own
kept_for instances None own alike = absurd alike
kept_for instances (Some kept) own alike = (kept, refl, alike)

pub own_instance : (in_slots : NumberMap ℕ) (kept : Instance) (found : Option Instance)
    → FoundAlike in_slots (Some kept) found
    → (own : Instance) × (found ≡ Some own) × InstancesAlike in_slots kept own
own_instance in_slots kept None alike = absurd alike
own_instance in_slots kept (Some own) alike = (own, refl, alike)

pub kept_instance : (in_slots : NumberMap ℕ) (found : Option Instance) (own : Instance)
    → FoundAlike in_slots found (Some own)
    → (kept : Instance) × (found ≡ Some kept) × InstancesAlike in_slots kept own
kept_instance in_slots None own alike = absurd alike
kept_instance in_slots (Some kept) own alike = (kept, refl, alike)

pub held_alike : (in_slots : NumberMap ℕ) (kept own : Option ℕ) → HoldersAlike in_slots kept own
    → is_some own ≡ is_some kept
held_alike in_slots None None alike = refl
held_alike in_slots (Some slot) (Some number) alike = refl
held_alike in_slots None (Some number) alike = absurd alike
held_alike in_slots (Some slot) None alike = absurd alike

-- ---- tests

-- one of these passes a test or none does
pub none_any : {X : Type 0} (test : X → Bool) (xs : List X) → list_any test xs ≡ false → All (λ x. test x ≡ false) xs
none_any {X} test [] e = All-nil (λ (x : X). test x ≡ false)
none_any {X} test (first ∷ xs) e =
    let parts = neither (test first) (list_any test xs) e in
    All-cons (λ (x : X). test x ≡ false) first xs parts.0 (none_any test xs parts.1)
  where
    neither : (a b : Bool) → (a || b) ≡ false → (a ≡ false) × (b ≡ false)
    neither true b failed = absurd cc
    neither false b failed = (refl, failed)

pub any_none : {X : Type 0} (test : X → Bool) (xs : List X) → All (λ x. test x ≡ false) xs → list_any test xs ≡ false
any_none {X} test [] all = refl
any_none {X} test (first ∷ xs) all =
    ap (λ b. b || list_any test xs) (All-head (λ (x : X). test x ≡ false) first xs all)
    ∙ any_none test xs (All-tail (λ (x : X). test x ≡ false) first xs all)

-- two tests of which neither passes where the other fails
same_tests : (a b : Bool) → (a ≡ false → b ≡ false) → (b ≡ false → a ≡ false) → a ≡ b
same_tests true true there back = refl
same_tests false false there back = refl
same_tests true false there back = back refl
same_tests false true there back = sym (there refl)

fails : (a b c d : ℕ) → (c ≡ d → a ≡ b) → (a == b) ≡ false → (test : Bool) → (c == d) ≡ test → test ≡ false
fails a b c d back failed false is = refl
fails a b c d back failed true is =
    let clash : true ≡ false = sym ((Decides-eqb a b).1 (back ((Decides-eqb c d).0 is))) ∙ failed in absurd cc

same_equal : (a b c d : ℕ) → (a ≡ b → c ≡ d) → (c ≡ d → a ≡ b) → (a == b) ≡ (c == d)
same_equal a b c d there back =
    same_tests (a == b) (c == d) (λ failed. fails a b c d back failed (c == d) refl)
    (λ failed. fails c d a b there failed (a == b) refl)

-- ---- sessions

-- a test of sessions that comes to the same of two that are alike, and fails of those on instances of others
pub any_same : (names instances : NumberMap ℕ) (kept : NumberMap Session) (own : NumberMap GroupSession)
    (test : Session → Bool) (own_test : GroupSession → Bool) → IsRising kept → AreTiedSessions names instances kept own
    → ((session : Session) (other : GroupSession) → SessionsAlike instances session other → test session ≡ own_test other)
    → ((session : Session) → get instances session.instance ≡ None → test session ≡ false)
    → list_any (λ (one : ℕ × Session). test one.1) kept ≡ list_any (λ (one : ℕ × GroupSession). own_test one.1) own
any_same names instances kept own test own_test rising tied same apart =
    same_tests (list_any (λ (one : ℕ × Session). test one.1) kept)
    (list_any (λ (one : ℕ × GroupSession). own_test one.1) own) machine_none kernel_none
  where
    machine_none : list_any (λ (one : ℕ × Session). test one.1) kept ≡ false
        → list_any (λ (one : ℕ × GroupSession). own_test one.1) own ≡ false
    machine_none none =
        any_none (λ (one : ℕ × GroupSession). own_test one.1) own
        (all_got (λ (one : ℕ × GroupSession). own_test one.1 ≡ false) own tied.rising
        (λ at session there.
        let named = tied.all at session there in
        let its = kept_for instances (get kept named.0) session
        (subst (λ (o : Option GroupSession). SessionsFoundAlike instances (get kept named.0) o) there
        (tied.alike named.0 at named.1)) in
        sym (same its.0 session its.2)
        ∙ All-get (λ (one : ℕ × Session). test one.1 ≡ false) kept named.0 its.0
        (none_any (λ (one : ℕ × Session). test one.1) kept none) its.1))

    kernel_none : list_any (λ (one : ℕ × GroupSession). own_test one.1) own ≡ false
        → list_any (λ (one : ℕ × Session). test one.1) kept ≡ false
    kernel_none none =
        any_none (λ (one : ℕ × Session). test one.1) kept
        (all_got (λ (one : ℕ × Session). test one.1 ≡ false) kept rising
        (λ number session there. by_name number session there (get names number) refl))
      where
        by_name : (number : ℕ) (session : Session) → get kept number ≡ Some session → (found : Option ℕ)
            → get names number ≡ found → test session ≡ false
        by_name number session there None is = apart session (tied.others number session there is)
        by_name number session there (Some at) is =
            let its = own_for instances session (get own at)
            (subst (λ (o : Option Session). SessionsFoundAlike instances o (get own at)) there
            (tied.alike number at is)) in
            same session its.0 its.2
            ∙ All-get (λ (one : ℕ × GroupSession). own_test one.1 ≡ false) own at its.0
            (none_any (λ (one : ℕ × GroupSession). own_test one.1) own none) its.1

-- no two of the kernel's numbers are named alike
abbrev pub AreApart : NumberMap ℕ → Type 0
AreApart names = (first second own : ℕ) → get names first ≡ Some own → get names second ≡ Some own → first ≡ second

on_it : (instances : NumberMap ℕ) (instance number : ℕ) (session : Session) (own : GroupSession) → AreApart instances
    → get instances instance ≡ Some number → SessionsAlike instances session own
    → (session.instance == instance) ≡ (own.instance == number)
on_it instances instance number session own apart on alike =
    same_equal session.instance instance own.instance number
    (λ same. same_name own.instance number (sym alike.instance ∙ ap (λ (n : ℕ). get instances n) same ∙ on))
    (λ same. apart session.instance instance number (alike.instance ∙ ap (λ (n : ℕ). Some n) same) on)
  where
    same_name : (a b : ℕ) → Some a ≡ Some b → a ≡ b
    same_name a b e = cc

not_on_it : (instances : NumberMap ℕ) (instance number : ℕ) (session : Session)
    → get instances instance ≡ Some number → get instances session.instance ≡ None → (test : Bool)
    → (session.instance == instance) ≡ test → test ≡ false
not_on_it instances instance number session on none false is = refl
not_on_it instances instance number session on none true is =
    let no : Some number ≡ None =
    sym on ∙ ap (λ (n : ℕ). get instances n) (sym ((Decides-eqb session.instance instance).0 is)) ∙ none in absurd cc

-- the kernel has a session on one of the group's instances exactly where the machine has
pub session_same : (names instances : NumberMap ℕ) (kept : NumberMap Session) (own : NumberMap GroupSession)
    (instance number : ℕ) → IsRising kept → AreApart instances → get instances instance ≡ Some number
    → AreTiedSessions names instances kept own
    → kept_sessions.has_session kept instance ≡ machine.has_session own number
session_same names instances kept own instance number rising apart on tied =
    any_same names instances kept own (λ (s : Session). s.instance == instance)
    (λ (s : GroupSession). s.instance == number) rising tied
    (λ session other alike. on_it instances instance number session other apart on alike)
    (λ session none. not_on_it instances instance number session on none (session.instance == instance) refl)

-- and an opened one
pub opened_same : (names instances : NumberMap ℕ) (kept : NumberMap Session) (own : NumberMap GroupSession)
    (instance number : ℕ) → IsRising kept → AreApart instances → get instances instance ≡ Some number
    → AreTiedSessions names instances kept own
    → kept_sessions.has_opened kept instance ≡ machine.has_opened own number
opened_same names instances kept own instance number rising apart on tied =
    any_same names instances kept own (λ (s : Session). (s.instance == instance) && s.opened)
    (λ (s : GroupSession). (s.instance == number) && s.opened) rising tied
    (λ session other alike.
    ap (λ (b : Bool). b && session.opened) (on_it instances instance number session other apart on alike)
    ∙ ap (λ (b : Bool). (other.instance == number) && b) alike.opened)
    (λ session none.
    ap (λ (b : Bool). b && session.opened)
    (not_on_it instances instance number session on none (session.instance == instance) refl))

-- ---- a session is taken away

-- they are the same, or not
pub either : {P : Type 0} (a b : ℕ) → (a ≡ b → P) → ((a ≡ b → ⊥) → P) → (test : Bool) → (a == b) ≡ test → P
either a b same apart true is = same ((Decides-eqb a b).0 is)
either a b same apart false is =
    apart (λ e. let no : true ≡ false = sym ((Decides-eqb a b).1 e) ∙ is in absurd cc)

none_alike : (instances : NumberMap ℕ) (kept : Option Session) (own : Option GroupSession) → kept ≡ None → own ≡ None
    → SessionsFoundAlike instances kept own
none_alike instances kept own first second =
    subst (λ (o : Option Session). SessionsFoundAlike instances o own) (sym first)
    (subst (λ (o : Option GroupSession). SessionsFoundAlike instances None o) (sym second) tt)

-- on both sides
pub sessions_removed : (names instances : NumberMap ℕ) (kept : NumberMap Session) (own : NumberMap GroupSession)
    (session number : ℕ) → AreApart names → get names session ≡ Some number → AreTiedSessions names instances kept own
    → AreTiedSessions names instances (remove kept session) (remove own number)
sessions_removed names instances kept own session number apart named tied = record {
  alike = λ at own_at has.
      either at session
      (λ same.
      let is : own_at ≡ number = same_name own_at number
      (sym has ∙ ap (λ (n : ℕ). get names n) same ∙ named) in
      none_alike instances (get (remove kept session) at) (get (remove own number) own_at)
      (ap (λ (n : ℕ). get (remove kept session) n) same ∙ get-remove-same kept session)
      (ap (λ (n : ℕ). get (remove own number) n) is ∙ get-remove-same own number))
      (λ other.
      subst (λ (o : Option Session). SessionsFoundAlike instances o (get (remove own number) own_at))
      (sym (get-remove-other kept session at (λ same. other (sym same))))
      (subst (λ (o : Option GroupSession). SessionsFoundAlike instances (get kept at) o)
      (sym (get-remove-other own number own_at
      (λ same. other (apart at session number (has ∙ ap (λ (n : ℕ). Some n) (sym same)) named))))
      (tied.alike at own_at has)))
      (at == session) refl;
  all = λ own_at there found. tied.all own_at there (get-removed own number own_at there found);
  others = λ at there found none. tied.others at there (get-removed kept session at there found) none;
  rising = IsRising-remove own number tied.rising;
}
  where
    same_name : (a b : ℕ) → Some a ≡ Some b → a ≡ b
    same_name a b e = cc
