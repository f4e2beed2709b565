-- What a search finds, and what is in the lowest free slot.
use Rattle.std.proofs.Common.{◌≡◌, ℕ, Bool, true, false, cond, List, [], ◌∷◌, Option, Some, refl, subst}
use Rattle.std.proofs.Common.{arith}
use Rattle.std.specs.Prelude.{◌==◌, All, bytes_eq, find}
use Rattle.std.proofs.lemmas.Bool.Decides.{nat_tests}
use Rattle.std.proofs.lemmas.List.Elements.{All-cons, All-head, All-nil, All-tail}
use Rattle.std.proofs.lemmas.Slice.Eq.{bytes_eq-Decides}
use Rattle.kernel_model.specs.Application.{Application, Booted, uuid_of}
use Rattle.kernel_model.specs.Instances.{app_of}

-- an element that passes the test, of which what holds of all holds
pub record Passes {X : Type 0} (P : X → Type 0) (test : X → Bool) (x : X) : Type 0 where
  pub holds : P x
  pub passes : test x ≡ true

some_same : {X : Type 0} (a b : X) → Some a ≡ Some b → a ≡ b
some_same a b e = cc

found_by : {X : Type 0} (P : X → Type 0) (test : X → Bool) (first : X) (later : Option X) (x : X) (here : Bool)
    → test first ≡ here → P first
    → (later ≡ Some x → Passes P test x) → cond here (Some first) later ≡ Some x → Passes P test x
found_by P test first later x true is holds rest e =
    subst (Passes P test) (some_same first x e) (record { holds = holds; passes = is })
found_by P test first later x false is holds rest e = rest e

pub find-all : {X : Type 0} (P : X → Type 0) (test : X → Bool) (xs : List X) (x : X) → All P xs → find test xs ≡ Some x
    → Passes P test x
find-all P test [] x all e = absurd cc
find-all P test (first ∷ xs) x all e =
    found_by P test first (find test xs) x (test first) refl (All-head P first xs all)
    (find-all P test xs x (All-tail P first xs all)) e

-- ---- applications

all_any : (apps : List Application) → All (λ (any : Application). Unit {0}) apps
all_any [] = All-nil (λ (any : Application). Unit {0})
all_any (app ∷ apps) = All-cons (λ (any : Application). Unit {0}) app apps tt (all_any apps)

-- the application of a UUID has it
pub app_named : (boot : Booted) (uuid : List ℕ) (of : Application) → app_of boot uuid ≡ Some of → uuid_of of ≡ uuid
app_named boot uuid of is =
    let passes = find-all (λ (any : Application). Unit {0}) (λ (any : Application). bytes_eq (uuid_of any) uuid)
    boot.apps of (all_any boot.apps) is in
    (bytes_eq-Decides (uuid_of of) uuid).0 passes.passes

-- ---- those that wait

pub same_number : (a b : ℕ) → a ≡ b → (a == b) ≡ true
same_number a b e = grind (arith, nat_tests)

pub apart_numbers : (a b : ℕ) → (a ≡ b → ⊥) → (test : Bool) → (a == b) ≡ test → test ≡ false
apart_numbers a b apart true e = absurd (apart (same a b e))
  where
    same : (c d : ℕ) → (c == d) ≡ true → c ≡ d
    same c d is = grind (arith, nat_tests)
apart_numbers a b apart false e = refl
