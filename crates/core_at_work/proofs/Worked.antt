-- What is kept of the processors of a core at work.
use Rattle.std.proofs.Common.{◌≡◌, ◌≢◌, ℕ, zero, suc, ◌<◌, get_or, true, false, List, [], ◌∷◌, length, Option, Some, None, refl, ap, sym, subst, ◌∙◌, arith}
use Rattle.std.proofs.lemmas.Option.{slice_get_read}
use Rattle.std.specs.Prelude.{Result, Ok, Err, slice_get, slice_set}
use Rattle.std.specs.Option.{is_some, option_and_then, option_map}
use Rattle.core_at_work.specs.Insides.{IsInside, IsOutside}
use Rattle.core_at_work.specs.Working.{ComesIn, SameOutgoing, outgoing_of}
use Rattle.core_at_work.specs.declared.core_at_work.CoreAtWork.{CoreAtWork}
use Rattle.core_at_work.proofs.Kept.{own_found}
use Rattle.core_at_work.proofs.Stand.{Outgoing, found, inside_below, inside_cpu, outside_cpu}
use Rattle.kernel_entry.specs.Visiting.{coming_of}
use Rattle.kernel_entry.specs.declared.visitor.Visitor.{Visitor}
use Rattle.kernel_model.proofs.Parts.{set_other}
use Rattle.kernel_state.specs.Entering.{Enters}
use Rattle.kernel_state.specs.Leaving.{CanLeave}
use Rattle.kernel_state.specs.Meaning.{booted_of}
use Rattle.kernel_state.specs.declared.enter_refusal.EnterRefusal.{EnterRefusal}
use Rattle.kernel_state.specs.declared.enter_refusal.EnterRefusal.TheVariants.{Full, Memory}
use Rattle.kernel_state.specs.declared.work.Ran.{Ran}

-- a refusal of the core is one of the core at work
pub refused : (old new : CoreAtWork) (visitor : Visitor) (lane : List ℕ) (why : EnterRefusal) →
    Enters old.core new.core (coming_of visitor) lane (Err why) → SameOutgoing old new → ComesIn old new visitor lane (Err why)
refused old new visitor lane (Full copied more) is same = (is.0, is.1, same)
refused old new visitor lane Memory is same = (is, same)

-- ---- what is put

set_at : {X : Type 0} (xs : List X) (i : ℕ) (x : X) → i < length xs → slice_get (slice_set xs i x) i ≡ Some x
set_at [] i x below = absurd (omega (arith, below))
set_at (first ∷ xs) zero x below = refl
set_at (first ∷ xs) (suc i) x below = set_at xs i x (omega (arith, below))

-- it is found at its place
pub put_there : (outgoing : Outgoing) (place cpu : ℕ) (put : Option Ran) → place ≡ cpu → place < length outgoing →
    slice_get (slice_set outgoing place put) cpu ≡ Some put
put_there outgoing place cpu put same below =
    ap (slice_get (slice_set outgoing place put)) (sym same) ∙ set_at outgoing place put below

-- and each other processor goes out with what it had
pub put_beside : (outgoing : Outgoing) (place cpu : ℕ) (put : Option Ran) → place ≡ cpu → (other : ℕ) → other ≢ cpu →
    option_and_then (λ (k : Option Ran). k) (slice_get (slice_set outgoing place put) other)
    ≡ option_and_then (λ (k : Option Ran). k) (slice_get outgoing other)
put_beside outgoing place cpu put same other apart =
    ap (option_and_then (λ (k : Option Ran). k)) (set_other outgoing place other put (λ at. apart (sym at ∙ same)))

-- ---- what is found

-- what is kept of a processor that is inside is its own, and can leave
pub record Kept (at_work : CoreAtWork) (cpu : ℕ) (ran : Ran) : Type 0 where
  pub was : outgoing_of at_work cpu ≡ Some ran
  pub its_own : ran.cpu ≡ cpu
  pub can : CanLeave at_work.core ran

module _ (at_work : CoreAtWork) (cpu place : ℕ) (kept : Option Ran) (same : place ≡ cpu)
    (is : kept ≡ get_or at_work.outgoing.items place kept) (inside : IsInside at_work.core cpu) where
  kept_at : slice_get at_work.outgoing.items cpu ≡ Some kept
  kept_at =
      let items = at_work.outgoing.items in
      let below : place < length items = subst (λ (n : ℕ). n < length items) (sym same)
      (inside_below at_work.core items at_work.own cpu inside) in
      ap (slice_get items) (sym same) ∙ slice_get_read items (length items) place kept refl below is

  pub kept_as : (ran : Ran) → kept ≡ Some ran → Kept at_work cpu ran
  kept_as ran some =
      let there : slice_get at_work.outgoing.items cpu ≡ Some (Some ran) = kept_at ∙ ap (λ (k : Option Ran). Some k) some in
      let own = own_found at_work.core at_work.outgoing.items cpu ran at_work.own there in
      record { was = ap (option_and_then (λ (k : Option Ran). k)) there; its_own = own.0; can = own.1 }

  pub never_none : kept ≡ None → ⊥
  never_none none =
      let found_none : Some false ≡ Some true =
      sym (ap (option_map is_some) (kept_at ∙ ap (λ (k : Option Ran). Some k) none))
      ∙ found at_work.core at_work.outgoing.items at_work.own cpu inside in
      absurd cc

-- and there is something
some_kept : (kept : Option (Option Ran)) → option_map is_some kept ≡ Some true → (ran : Ran) × (kept ≡ Some (Some ran))
some_kept None e = absurd cc
some_kept (Some None) e = absurd cc
some_kept (Some (Some ran)) e = (ran, refl)

pub kept_in : (at_work : CoreAtWork) (cpu : ℕ) → IsInside at_work.core cpu → (ran : Ran) × Kept at_work cpu ran
kept_in at_work cpu inside =
    let items = at_work.outgoing.items in
    let some = some_kept (slice_get items cpu) (found at_work.core items at_work.own cpu inside) in
    let own = own_found at_work.core items cpu some.0 at_work.own some.1 in
    let kept : Kept at_work cpu some.0 =
    record { was = ap (option_and_then (λ (k : Option Ran). k)) some.1; its_own = own.0; can = own.1 } in
    (some.0, kept)

pub kept_below : (at_work : CoreAtWork) (cpu place : ℕ) → place ≡ cpu → IsInside at_work.core cpu →
    place < length at_work.outgoing.items
kept_below at_work cpu place same inside =
    subst (λ (n : ℕ). n < length at_work.outgoing.items) (sym same)
    (inside_below at_work.core at_work.outgoing.items at_work.own cpu inside)

-- ---- what holds of each core at work

-- a processor that can come in or go out is there
pub outside_there : (at_work : CoreAtWork) (cpu : ℕ) → IsOutside at_work.core cpu → cpu < (booted_of at_work.core).cpus
outside_there at_work cpu outside = outside_cpu at_work.core at_work.outgoing.items at_work.own cpu outside

pub inside_there : (at_work : CoreAtWork) (cpu : ℕ) → IsInside at_work.core cpu → cpu < (booted_of at_work.core).cpus
inside_there at_work cpu inside = inside_cpu at_work.core at_work.outgoing.items at_work.own cpu inside

-- whatever the answer of an entry, nothing else was booted
pub came_boot : (old new : CoreAtWork) (visitor : Visitor) (lane : List ℕ) (result : Result (Unit {0}) EnterRefusal) →
    ComesIn old new visitor lane result → booted_of new.core ≡ booted_of old.core
came_boot old new visitor lane (Ok done) come = come.entered.boot
came_boot old new visitor lane (Err (Full copied more)) come = come.0.boot
came_boot old new visitor lane (Err Memory) come = come.0.boot
