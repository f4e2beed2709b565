-- What a map has after a change; what a search finds; and what the end of a call makes of sessions and instances.
use Rattle.std.proofs.Common.{◌≡◌, ℕ, Bool, true, false, not, cond, List, [], ◌∷◌, Option, Some, None, refl, ap, subst, sym, ◌∙◌, arith}
use Rattle.std.specs.Prelude.{All, ◌==◌, ◌&&◌, find, if◌then◌else◌}
use Rattle.std.specs.Option.{option_map, option_map_or}
use Rattle.std.specs.Ordering.{nat_cmp, eq_by_cmp}
use Rattle.std.proofs.lemmas.Bool.Decides.{Decides-eqb, nat_tests}
use Rattle.std.proofs.lemmas.List.Elements.{All-head, All-tail}
use Rattle.std.proofs.lemmas.Option.{option_and_then_some}
use Rattle.base.specs.NumberMap.{NumberMap, get, insert, remove, get-insert, get-remove}
use Rattle.base.proofs.MapLemmas.{All-get, All-insert, All-remove}
use Rattle.job_model.specs.declared.call_kind.CallKind.{CallKind}
use Rattle.job_model.specs.declared.call_kind.CallKind.TheVariants.{Open, Invoke, Close, Settled}
use Rattle.session_table.specs.declared.session.Session.{Session}
use Rattle.session_table.specs.Session.{opened_with}
use Rattle.session_table.specs.Sessions.{settled}
use Rattle.kernel_model.specs.Application.{Application}
use Rattle.kernel_model.specs.Codes.{success}
use Rattle.kernel_model.specs.Instances.{is_single, shared_instance}
use Rattle.kernel_model.specs.Kernel.{Instance}
use Rattle.kernel_model.specs.NewCall.{NewCall, named_session}
use Rattle.kernel_model.specs.Sessions.{opened_by, sessions_after, sessions_after_panic, sessions_unrun}
use Rattle.kernel_model.proofs.Parts.{if-both, option_map_some}

-- ---- maps

same_number : (a b : ℕ) → eq_by_cmp nat_cmp a b ≡ true → a ≡ b
same_number a b equal = grind (arith, nat_tests)

its_number : (a : ℕ) → eq_by_cmp nat_cmp a a ≡ true
its_number a = grind (arith, nat_tests)

pub get-insert-same : {X : Type 0} (m : NumberMap X) (k : ℕ) (v : X) → get (insert m k v) k ≡ Some v
get-insert-same m k v = get-insert m k v k ∙ ap (λ b. cond b (Some v) (get m k)) (its_number k)

pub get-insert-other : {X : Type 0} (m : NumberMap X) (k : ℕ) (v : X) (q : ℕ) → (k ≡ q → ⊥) → get (insert m k v) q ≡ get m q
get-insert-other m k v q apart =
    get-insert m k v q ∙ ap (λ b. cond b (Some v) (get m q)) (by_test (eq_by_cmp nat_cmp q k) refl)
  where
    by_test : (b : Bool) → eq_by_cmp nat_cmp q k ≡ b → b ≡ false
    by_test true equal = absurd (apart (sym (same_number q k equal)))
    by_test false other = refl

pub get-remove-same : {X : Type 0} (m : NumberMap X) (k : ℕ) → get (remove m k) k ≡ None
get-remove-same m k = get-remove m k k ∙ ap (λ b. cond (not b) (get m k) None) (its_number k)

pub get-remove-other : {X : Type 0} (m : NumberMap X) (k q : ℕ) → (k ≡ q → ⊥) → get (remove m k) q ≡ get m q
get-remove-other m k q apart =
    get-remove m k q ∙ ap (λ b. cond (not b) (get m q) None) (by_test (eq_by_cmp nat_cmp k q) refl)
  where
    by_test : (b : Bool) → eq_by_cmp nat_cmp k q ≡ b → b ≡ false
    by_test true equal = absurd (apart (same_number k q equal))
    by_test false other = refl

-- what is there after a removal was there, under another number
pub get-removed : {X : Type 0} (m : NumberMap X) (k q : ℕ) (v : X) → get (remove m k) q ≡ Some v → (k ≡ q → ⊥) × (get m q ≡ Some v)
get-removed m k q v found = by_test (eq_by_cmp nat_cmp k q) refl (sym (get-remove m k q) ∙ found)
  where
    self : (b : Bool) → eq_by_cmp nat_cmp k q ≡ b → b ≡ false → k ≡ q → ⊥
    self b is not_so e =
        let yes : eq_by_cmp nat_cmp k q ≡ true = grind (arith, nat_tests) in
        let clash : true ≡ false = sym yes ∙ is ∙ not_so in absurd cc

    by_test : (b : Bool) → eq_by_cmp nat_cmp k q ≡ b → cond (not b) (get m q) None ≡ Some v → (k ≡ q → ⊥) × (get m q ≡ Some v)
    by_test true is here = absurd cc
    by_test false is here = (self false is refl, here)

-- what is there after an insertion is what was inserted, or was there
pub get-inserted : {X : Type 0} {P : Type 0} (m : NumberMap X) (k : ℕ) (v : X) (q : ℕ) (x : X) → get (insert m k v) q ≡ Some x
    → (k ≡ q → v ≡ x → P) → ((k ≡ q → ⊥) → get m q ≡ Some x → P) → P
get-inserted {X} {P} m k v q x found here there = by_test (k == q) refl
  where
    some_same : Some v ≡ Some x → v ≡ x
    some_same e = cc

    by_test : (b : Bool) → (k == q) ≡ b → P
    by_test true is =
        let same = (Decides-eqb k q).0 is in
        here same (some_same (sym (subst (λ (n : ℕ). get (insert m k v) n ≡ Some v) same (get-insert-same m k v)) ∙ found))
    by_test false is =
        let apart : k ≡ q → ⊥ = λ same. let yes = (Decides-eqb k q).1 same in absurd cc in
        there apart (sym (get-insert-other m k v q apart) ∙ found)

-- ---- searches

-- an element that passes the test, of which what holds of all holds
pub record Passes {X : Type 0} (P : X → Type 0) (test : X → Bool) (x : X) : Type 0 where
  pub holds : P x
  pub passes : test x ≡ true

found_by : {X : Type 0} (P : X → Type 0) (test : X → Bool) (first : X) (later : Option X) (x : X) (here : Bool) → test first ≡ here → P first
    → (later ≡ Some x → Passes P test x) → cond here (Some first) later ≡ Some x → Passes P test x
found_by P test first later x true is holds rest e =
    let same : first ≡ x = cc in
    subst (Passes P test) same (record { holds = holds; passes = is })
found_by P test first later x false is holds rest e = rest e

pub find-all : {X : Type 0} (P : X → Type 0) (test : X → Bool) (xs : List X) (x : X) → All P xs → find test xs ≡ Some x → Passes P test x
find-all P test [] x all e = absurd cc
find-all P test (first ∷ xs) x all e =
    found_by P test first (find test xs) x (test first) refl (All-head P first xs all) (find-all P test xs x (All-tail P first xs all)) e

pub if_some : {A : Type 0} (test : Bool) (o : Option A) (a : A) → (if test then o else None) ≡ Some a → (test ≡ true) × (o ≡ Some a)
if_some true o a e = (refl, e)
if_some false o a e = absurd cc

-- ---- the named session

-- the session that a call names is kept, opened and the client's, and its instance is kept
pub record IsNamed (c : NewCall) (named : Session × Instance) : Type 0 where
  pub kept : get c.tables.sessions c.head.session ≡ Some named.0
  pub opened : named.0.opened ≡ true
  pub client : named.0.client ≡ c.client
  pub instance : get c.tables.instances named.0.instance ≡ Some named.1

pub named_is : (c : NewCall) (named : Session × Instance) → named_session c ≡ Some named → IsNamed c named
named_is c named e =
    option_and_then_some (λ (session : Session). option_map (λ instance. (session, instance)) (get c.tables.instances session.instance))
    (opened_by c.tables.sessions c.head.session c.client) named e
    (λ session opened beside.
    option_and_then_some (λ (s : Session). if s.opened && (s.client == c.client) then Some s else None) (get c.tables.sessions c.head.session) session opened
    (λ kept there own.
    let paired = option_map_some (λ (instance : Instance). (session, instance)) (get c.tables.instances session.instance) named beside in
    let tests = if_some (kept.opened && (kept.client == c.client)) (Some kept) session own in
    let both = both_true kept.opened (kept.client == c.client) tests.0 in
    let same : kept ≡ session = some_same kept session tests.1 in
    subst (IsNamed c) paired.2 (record {
      kept = there ∙ ap (λ (s : Session). Some s) same;
      opened = ap (λ (s : Session). s.opened) (sym same) ∙ both.0;
      client = ap (λ (s : Session). s.client) (sym same) ∙ (Decides-eqb kept.client c.client).0 both.1;
      instance = paired.1;
    })))
  where
    some_same : (one other : Session) → Some one ≡ Some other → one ≡ other
    some_same one other e = cc

    both_true : (one other : Bool) → (one && other) ≡ true → (one ≡ true) × (other ≡ true)
    both_true true other e = (refl, e)
    both_true false other e = absurd cc

-- the instance that an open shares is kept, and of its application
pub shared_all : (P : ℕ × Instance → Type 0) (instances : NumberMap Instance) (app : Application) (kept : ℕ × Instance) → All P instances
    → shared_instance instances app ≡ Some kept → P kept
shared_all P instances app kept all e = (find-all P _ instances kept all (if_some (is_single app) _ kept e).1).holds

-- ---- what holds of each session after a call

module _ (P : ℕ × Session → Type 0) (opens : (number : ℕ) (session : Session) (context : ℕ) → P (number, session) → P (number, opened_with session context)) where
  settled_all : (sessions : NumberMap Session) (number context : ℕ) (found : Option Session) → All P sessions → get sessions number ≡ found
      → All P (option_map_or (λ session. insert sessions number (opened_with session context)) found sessions)
  settled_all sessions number context None all there = all
  settled_all sessions number context (Some session) all there =
      All-insert P sessions number (opened_with session context) all (opens number session context (All-get P sessions number session all there))

  pub after_all : (kind : CallKind) (sessions : NumberMap Session) (number result context : ℕ) → All P sessions
      → All P (sessions_after kind sessions number result context)
  after_all Open sessions number result context all =
      if-both (All P) (result == success) (settled sessions number context) (remove sessions number)
      (settled_all sessions number context (get sessions number) all refl) (All-remove P sessions number all)
  after_all (Invoke func) sessions number result context all = all
  after_all Close sessions number result context all = All-remove P sessions number all
  after_all Settled sessions number result context all = all

  pub panic_all : (kind : CallKind) (sessions : NumberMap Session) (number : ℕ) → All P sessions → All P (sessions_after_panic kind sessions number)
  panic_all Open sessions number all = All-remove P sessions number all
  panic_all (Invoke func) sessions number all = all
  panic_all Close sessions number all = All-remove P sessions number all
  panic_all Settled sessions number all = all

  pub unrun_all : (kind : CallKind) (sessions : NumberMap Session) (number : ℕ) → All P sessions → All P (sessions_unrun kind sessions number)
  unrun_all Open sessions number all = All-remove P sessions number all
  unrun_all (Invoke func) sessions number all = all
  unrun_all Close sessions number all = all
  unrun_all Settled sessions number all = all
