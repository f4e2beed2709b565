-- Who is inside, by the processors of a core's kernel and by what they go out with.
use Rattle.std.proofs.Common.{◌≡◌, ◌↔◌, ℕ, zero, suc, ◌<◌, Bool, true, false, List, [], ◌∷◌, length, arith, Option, Some, None, refl, ap, sym, subst, ◌∙◌}
use Rattle.std.proofs.Math.Logic.{∥∥₁_elim}
use Rattle.std.proofs.Props.{props}
use Rattle.std.proofs.lemmas.List.{length-map}
use Rattle.std.proofs.lemmas.Option.{slice_get-map, slice_get_within}
use Rattle.std.specs.Prelude.{IsSomeAnd, IsTrue, map, not, slice_get}
use Rattle.std.specs.Option.{is_some, option_map, option_map_or}
use Rattle.core_at_work.specs.Insides.{IsInside, IsOutside, insides}
use Rattle.core_at_work.specs.Outgoing.{HaveTheirOwn}
use Rattle.kernel_model.specs.History.{is_outside}
use Rattle.kernel_model.specs.Kernel.{Inside, Kernel, Outside, Processor}
use Rattle.kernel_model.proofs.Parts.{option_map_some}
use Rattle.kernel_state.specs.Meaning.{booted_of, is_inside, kernel_of}
use Rattle.kernel_state.specs.declared.kernel_core.Core.{Core}
use Rattle.kernel_state.specs.declared.work.Ran.{Ran}
use Rattle.kernel_state.proofs.CoreEvents.{some_kernel}

abbrev pub Outgoing : Type 0
Outgoing = List (Option Ran)

abbrev pub is_in : Processor → Bool
is_in processor = not (is_outside processor)

-- ---- one processor of a kernel

inside_found : (state : Option Processor) → option_map_or is_in state false ≡ true → option_map is_in state ≡ Some true
inside_found (Some Outside) is = absurd cc
inside_found (Some (Inside regs steps errand)) is = refl
inside_found None is = absurd cc

-- one that is inside is so in the list
pub inside_listed : (kernel : Kernel) (cpu : ℕ) → is_inside cpu kernel ≡ true → slice_get (insides kernel) cpu ≡ Some true
inside_listed kernel cpu is =
    slice_get-map is_in kernel.processors cpu ∙ inside_found (slice_get kernel.processors cpu) is

listed_found : (state : Option Processor) → option_map is_in state ≡ Some true → option_map_or is_in state false ≡ true
listed_found (Some Outside) is = absurd cc
listed_found (Some (Inside regs steps errand)) is = refl
listed_found None is = absurd cc

pub listed_inside : (kernel : Kernel) (cpu : ℕ) → slice_get (insides kernel) cpu ≡ Some true → is_inside cpu kernel ≡ true
listed_inside kernel cpu is =
    listed_found (slice_get kernel.processors cpu) (sym (slice_get-map is_in kernel.processors cpu) ∙ is)

pub outside_listed : (kernel : Kernel) (cpu : ℕ) → slice_get kernel.processors cpu ≡ Some Outside →
    slice_get (insides kernel) cpu ≡ Some false
outside_listed kernel cpu is = slice_get-map is_in kernel.processors cpu ∙ ap (option_map is_in) is

pub listed_outside : (kernel : Kernel) (cpu : ℕ) → slice_get (insides kernel) cpu ≡ Some false →
    slice_get kernel.processors cpu ≡ Some Outside
listed_outside kernel cpu is =
    let found = option_map_some is_in (slice_get kernel.processors cpu) false
    (sym (slice_get-map is_in kernel.processors cpu) ∙ is) in
    by found.0 found.1 found.2
  where
    by : (one : Processor) → slice_get kernel.processors cpu ≡ Some one → is_in one ≡ false →
        slice_get kernel.processors cpu ≡ Some Outside
    by Outside there is = there
    by (Inside regs steps errand) there is = absurd cc

-- ---- the kernel of a core

pub kernel_has : (core : Core) (P : Kernel → Type 0) → IsSomeAnd (kernel_of core) P → P (some_kernel core).0
kernel_has core P has = subst (λ (o : Option Kernel). IsSomeAnd o P) (some_kernel core).1 has

pub has_kernel : (core : Core) (P : Kernel → Type 0) → P (some_kernel core).0 → IsSomeAnd (kernel_of core) P
has_kernel core P holds = subst (λ (o : Option Kernel). IsSomeAnd o P) (sym (some_kernel core).1) holds

-- ---- what they go out with

pub insides_of : (core : Core) (outgoing : Outgoing) (kernel : Kernel) → HaveTheirOwn core outgoing →
    kernel_of core ≡ Some kernel → insides kernel ≡ map is_some outgoing
insides_of core outgoing kernel have e =
    let same : Some (insides kernel) ≡ Some (map is_some outgoing) = sym (ap (option_map insides) e) ∙ have.inside in cc

past : (cpu : ℕ) (all : List Bool) → cpu < length all → slice_get all cpu ≡ None → ⊥
past cpu [] below none = absurd (omega (arith, below))
past zero (first ∷ all) below none = cc
past (suc cpu) (first ∷ all) below none = past cpu all (omega (arith, below)) none

module _ (core : Core) (outgoing : Outgoing) (have : ∥ HaveTheirOwn core outgoing ∥₁) where
  pub told : option_map insides (kernel_of core) ≡ Some (map is_some outgoing)
  told = ∥∥₁_elim have (Prim.hlevel props) (λ (so : HaveTheirOwn core outgoing). so.inside)

  pub as_many : length outgoing ≡ (booted_of core).cpus
  as_many = ∥∥₁_elim have (Prim.hlevel props) (λ (so : HaveTheirOwn core outgoing). so.each)

  listed : insides (some_kernel core).0 ≡ map is_some outgoing
  listed =
      let same : Some (insides (some_kernel core).0) ≡ Some (map is_some outgoing) =
      sym (ap (option_map insides) (some_kernel core).1) ∙ told in cc

  -- each processor that is inside has it
  pub found : (cpu : ℕ) → IsInside core cpu → option_map is_some (slice_get outgoing cpu) ≡ Some true
  found cpu inside =
      sym (slice_get-map is_some outgoing cpu) ∙ ap (λ (all : List Bool). slice_get all cpu) (sym listed)
      ∙ inside_listed (some_kernel core).0 cpu (kernel_has core (λ kernel. is_inside cpu kernel ≡ true) inside)

  -- and one that has it is inside
  pub has_inside : (cpu : ℕ) → option_map is_some (slice_get outgoing cpu) ≡ Some true → IsInside core cpu
  has_inside cpu e =
      has_kernel core (λ kernel. is_inside cpu kernel ≡ true)
      (listed_inside (some_kernel core).0 cpu (ap (λ (all : List Bool). slice_get all cpu) listed
      ∙ slice_get-map is_some outgoing cpu ∙ e))

  there : (cpu : ℕ) (is : Bool) → slice_get (insides (some_kernel core).0) cpu ≡ Some is → cpu < length outgoing
  there cpu is e =
      subst (λ (n : ℕ). cpu < n) (length-map outgoing is_some)
      (slice_get_within (map is_some outgoing) cpu is (ap (λ (all : List Bool). slice_get all cpu) (sym listed) ∙ e))

  pub inside_below : (cpu : ℕ) → IsInside core cpu → cpu < length outgoing
  inside_below cpu inside =
      there cpu true (inside_listed (some_kernel core).0 cpu
      (kernel_has core (λ kernel. is_inside cpu kernel ≡ true) inside))

  pub outside_below : (cpu : ℕ) → IsOutside core cpu → cpu < length outgoing
  outside_below cpu outside =
      there cpu false (outside_listed (some_kernel core).0 cpu
      (kernel_has core (λ kernel. slice_get kernel.processors cpu ≡ Some Outside) outside))

  -- ---- whether there is one that is outside

  by_state : (cpu : ℕ) (state : Option Processor) → cpu < length (insides (some_kernel core).0) →
      slice_get (some_kernel core).0.processors cpu ≡ state → option_map_or is_in state false ≡ false → state ≡ Some Outside
  by_state cpu (Some Outside) below at not_in = refl
  by_state cpu (Some (Inside regs steps errand)) below at not_in = absurd cc
  by_state cpu None below at not_in = absurd (past cpu (insides (some_kernel core).0) below
      (slice_get-map is_in (some_kernel core).0.processors cpu ∙ ap (option_map is_in) at))

  -- what Core::inside says of the kernel
  pub inside_is : (cpu : ℕ) (answer : Bool) → option_map (is_inside cpu) (kernel_of core) ≡ Some answer →
      is_inside cpu (some_kernel core).0 ≡ answer
  inside_is cpu answer e =
      let same : Some (is_inside cpu (some_kernel core).0) ≡ Some answer =
      sym (ap (option_map (is_inside cpu)) (some_kernel core).1) ∙ e in cc

  pub is_outside_told : (cpu : ℕ) → cpu < (booted_of core).cpus →
      option_map (is_inside cpu) (kernel_of core) ≡ Some false → IsOutside core cpu
  is_outside_told cpu few e =
      has_kernel core (λ kernel. slice_get kernel.processors cpu ≡ Some Outside)
      (by_state cpu (slice_get (some_kernel core).0.processors cpu)
      (subst (λ (n : ℕ). cpu < n) (sym as_many ∙ sym (length-map outgoing is_some) ∙ ap length (sym listed)) few)
      refl (inside_is cpu false e))

  -- one that is outside is below their number, and not inside
  pub outside_cpu : (cpu : ℕ) → IsOutside core cpu → cpu < (booted_of core).cpus
  outside_cpu cpu outside = subst (λ (n : ℕ). cpu < n) as_many (outside_below cpu outside)

  pub inside_cpu : (cpu : ℕ) → IsInside core cpu → cpu < (booted_of core).cpus
  inside_cpu cpu inside = subst (λ (n : ℕ). cpu < n) as_many (inside_below cpu inside)

  pub outside_not_inside : (cpu : ℕ) (answer : Bool) → IsOutside core cpu →
      option_map (is_inside cpu) (kernel_of core) ≡ Some answer → answer ≡ false
  outside_not_inside cpu answer outside e =
      sym (inside_is cpu answer e)
      ∙ ap (λ (state : Option Processor). option_map_or is_in state false)
      (kernel_has core (λ kernel. slice_get kernel.processors cpu ≡ Some Outside) outside)

-- whether one of those that are there is outside
pub outside_iff : (core : Core) (outgoing : Outgoing) → ∥ HaveTheirOwn core outgoing ∥₁ → (cpu : ℕ) →
    cpu < (booted_of core).cpus → (answer : Bool) → option_map (is_inside cpu) (kernel_of core) ≡ Some answer →
    IsTrue (not answer) ↔ IsOutside core cpu
outside_iff core outgoing have cpu few true e = (
  λ is. absurd cc,
  λ outside. let no : true ≡ false = outside_not_inside core outgoing have cpu true outside e in absurd cc,
)
outside_iff core outgoing have cpu few false e = (λ is. is_outside_told core outgoing have cpu few e, λ outside. refl)
