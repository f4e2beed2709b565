-- An entry and an exit of a machine are those of the play.
use Rattle.std.proofs.Common.{◌≡◌, ◌↔◌, ℕ, Bool, true, List, [], ◌∷◌, ◌++◌, Option, Some, None, ap, sym, subst, ◌∙◌}
use Rattle.std.specs.Prelude.{IsSomeAnd, Result, Ok, Err, slice_get, slice_set}
use Rattle.std.specs.Option.{option_map}
use Rattle.core_at_work.specs.Insides.{IsInside, insides}
use Rattle.core_at_work.specs.Working.{ComesIn, GoesOut, HasComeIn}
use Rattle.core_at_work.specs.declared.core_at_work.CoreAtWork.{CoreAtWork}
use Rattle.core_at_work.specs.declared.went_out.WentOut.{WentOut}
use Rattle.core_at_work.proofs.Kept.{kernel_as_before}
use Rattle.core_at_work.proofs.Stand.{has_kernel, inside_listed, kernel_has, listed_inside, listed_outside, outside_listed}
use Rattle.core_machine.specs.Moving.{EntersAt, LeavesAt}
use Rattle.core_machine.specs.Standing.{CanAllCome, CanCome, IsAt}
use Rattle.core_machine.specs.Turns.{ComeInTurn, MayCome}
use Rattle.core_machine.specs.declared.machine.Machine.{Machine}
use Rattle.core_machine.specs.declared.smc.Smc.{Smc}
use Rattle.core_machine.specs.declared.smc.Smc.TheVariants.{Comes, Leaves}
use Rattle.core_machine.proofs.AtPlay.{CoreAt, came_in, entry_at, entry_comes, entry_refused, exit_at, exit_comes}
use Rattle.core_machine.proofs.AtPlay.{gone_out}
use Rattle.core_machine.proofs.Stands.{core_at}
use Rattle.core_at_work.specs.Visiting.{coming_of}
use Rattle.core_at_work.specs.Visitor.{Visitor}
use Rattle.kernel_model.specs.Application.{Booted}
use Rattle.kernel_model.specs.Kernel.{Kernel, Outside}
use Rattle.kernel_state.specs.Entering.{CanEnter, IsAsBefore, visit_of}
use Rattle.kernel_state.specs.Meaning.{is_inside, kernel_of, terms_of}
use Rattle.kernel_state.specs.declared.enter_refusal.EnterRefusal.{EnterRefusal}
use Rattle.kernel_state.specs.declared.enter_refusal.EnterRefusal.TheVariants.{Full, Memory}
use Rattle.kernel_state.specs.declared.terms.Terms.{Terms}
use Rattle.kernel_state.proofs.CoreEvents.{some_kernel}
use Rattle.ns_ram.specs.Writes.{lane_after}
use Rattle.play_model.specs.Line.{Ret}
use Rattle.play_model.specs.Play.{Play, enters, lane_of, leaves}

-- ---- who can come

may_come : (machine : Machine) (smc : Smc) → CanCome machine smc → MayCome (insides (some_kernel machine.at_work.core).0) smc
may_come machine smc can = kernel_has machine.at_work.core (λ (kernel : Kernel). MayCome (insides kernel) smc) can

-- an entry that can come to a machine can come to its core
pub can_enter : (machine : Machine) (visitor : Visitor) → CanCome machine (Comes visitor) →
    CanEnter machine.at_work.core (coming_of visitor)
can_enter machine visitor can =
    let may = may_come machine (Comes visitor) can in
    record {
      outside = has_kernel machine.at_work.core (λ (kernel : Kernel). slice_get kernel.processors visitor.cpu ≡ Some Outside)
          (listed_outside (some_kernel machine.at_work.core).0 visitor.cpu may.0);
      some_steps = may.1;
      few_steps = may.2;
    }

pub enter_can : (machine : Machine) (visitor : Visitor) → CanEnter machine.at_work.core (coming_of visitor) →
    CanCome machine (Comes visitor)
enter_can machine visitor can =
    let core = machine.at_work.core in
    has_kernel core (λ (kernel : Kernel). MayCome (insides kernel) (Comes visitor)) (
      outside_listed (some_kernel core).0 visitor.cpu
          (kernel_has core (λ (kernel : Kernel). slice_get kernel.processors visitor.cpu ≡ Some Outside) can.outside),
      can.some_steps,
      can.few_steps,
    )

-- and so an exit
pub can_leave : (machine : Machine) (cpu : ℕ) → CanCome machine (Leaves cpu) → IsInside machine.at_work.core cpu
can_leave machine cpu can =
    has_kernel machine.at_work.core (λ (kernel : Kernel). is_inside cpu kernel ≡ true)
    (listed_inside (some_kernel machine.at_work.core).0 cpu (may_come machine (Leaves cpu) can))

pub leave_can : (machine : Machine) (cpu : ℕ) → IsInside machine.at_work.core cpu → CanCome machine (Leaves cpu)
leave_can machine cpu inside =
    let core = machine.at_work.core in
    has_kernel core (λ (kernel : Kernel). MayCome (insides kernel) (Leaves cpu))
    (inside_listed (some_kernel core).0 cpu (kernel_has core (λ (kernel : Kernel). is_inside cpu kernel ≡ true) inside))

-- a list can come by which are inside
pub all_come : (machine : Machine) (inside : List Bool) (smcs : List Smc) →
    option_map insides (kernel_of machine.at_work.core) ≡ Some inside → ComeInTurn inside smcs ↔ CanAllCome machine smcs
all_come machine inside smcs told =
    let core = machine.at_work.core in
    let same : Some (insides (some_kernel core).0) ≡ Some inside = sym (ap (option_map insides) (some_kernel core).1) ∙ told in
    let is : insides (some_kernel core).0 ≡ inside = cc in (
      λ come. has_kernel core (λ (kernel : Kernel). ComeInTurn (insides kernel) smcs)
          (subst (λ (all : List Bool). ComeInTurn all smcs) (sym is) come),
      λ can. subst (λ (all : List Bool). ComeInTurn all smcs) is
          (kernel_has core (λ (kernel : Kernel). ComeInTurn (insides kernel) smcs) can),
    )

-- ---- an entry

-- a machine of a core that stands at a play stands there too, over the play's lanes
stands_so : (boot : Booted) (play : Play) (machine : Machine) → CoreAt boot play machine.at_work.core →
    machine.lanes.items ≡ play.lanes → play.refused ≡ None → IsAt boot play machine
stands_so boot play machine at lanes going = record {
  booted = at.booted;
  history = at.history;
  kernel = at.kernel;
  limit = at.limit;
  lanes = lanes;
  goes_on = going;
}

enters_at : (boot : Booted) (play : Play) (old machine : Machine) (visitor : Visitor) (lane : List ℕ) →
    IsAt boot play old → lane_of play visitor.cpu ≡ lane → machine.lanes.items ≡ old.lanes.items →
    HasComeIn old.at_work machine.at_work visitor lane →
    IsSomeAnd (enters boot play (visit_of (coming_of visitor))) (λ next. IsAt boot next machine)
enters_at boot play old machine visitor lane at sees lanes come =
    let coming = coming_of visitor in
    let core = machine.at_work.core in
    let next = some_kernel core in
    let has = come.entered in
    let here = core_at boot play old at in
    subst (λ (o : Option Play). IsSomeAnd o (λ next. IsAt boot next machine))
    (sym (entry_comes boot play old.at_work.core core coming lane come.work here sees has next.0 next.1))
    (stands_so boot (came_in play next.0 coming has.reads) machine
    (entry_at boot play old.at_work.core core coming lane come.work here sees has next.0 next.1) (lanes ∙ at.lanes) at.goes_on)

-- where it has not come in, the machine stands where it stood
still_at : (boot : Booted) (play : Play) (old machine : Machine) → IsAt boot play old → machine.lanes.items ≡ old.lanes.items →
    IsAsBefore old.at_work.core machine.at_work.core → IsAt boot play machine
still_at boot play old machine at lanes same =
    record {
      booted = same.boot ∙ at.booted;
      history = same.events ∙ at.history;
      kernel = kernel_as_before old.at_work.core machine.at_work.core same ∙ at.kernel;
      limit = ap (λ (terms : Terms). terms.most) same.terms ∙ at.limit;
      lanes = lanes ∙ at.lanes;
      goes_on = at.goes_on;
    }

pub enters_so : (boot : Booted) (play : Play) (old machine : Machine) (visitor : Visitor) (lane : List ℕ)
    (result : Result (Unit {0}) EnterRefusal) → IsAt boot play old → lane_of play visitor.cpu ≡ lane →
    machine.lanes.items ≡ old.lanes.items → ComesIn old.at_work machine.at_work visitor lane result →
    EntersAt boot play visitor machine result
enters_so boot play old machine visitor lane (Ok done) at sees lanes come =
    enters_at boot play old machine visitor lane at sees lanes come
enters_so boot play old machine visitor lane (Err (Full copied more)) at sees lanes come = (
  entry_refused boot play old.at_work.core visitor lane copied more (core_at boot play old at) sees come.1,
  still_at boot play old machine at lanes come.0,
)
enters_so boot play old machine visitor lane (Err Memory) at sees lanes come = still_at boot play old machine at lanes come.0

-- whether it has come in or not, the terms stay
pub terms_so : (old new : CoreAtWork) (visitor : Visitor) (lane : List ℕ) (result : Result (Unit {0}) EnterRefusal) →
    ComesIn old new visitor lane result → terms_of new.core ≡ terms_of old.core
terms_so old new visitor lane (Ok done) come = come.entered.terms
terms_so old new visitor lane (Err (Full copied more)) come = come.0.terms
terms_so old new visitor lane (Err Memory) come = come.0.terms

-- ---- an exit

pub leaves_so : (boot : Booted) (play : Play) (old machine : Machine) (cpu : ℕ) (lane now : List ℕ) (out : WentOut) →
    IsAt boot play old → GoesOut old.at_work machine.at_work cpu lane now out → lane ≡ lane_of play cpu →
    machine.lanes.items ≡ slice_set play.lanes cpu now → LeavesAt boot play cpu machine out.regs
leaves_so boot play old machine cpu lane now out at goes sees lanes =
    let core = machine.at_work.core in
    let next = some_kernel core in
    let ran = goes.ran in
    let told = out.regs in
    let has = goes.has_left in
    let same = goes.its_own in
    let was = core_at boot play old at in
    let here = exit_at boot play old.at_work.core core ran lane now told was has next.0 next.1 in
    let comes : leaves boot cpu play ≡ Some (gone_out play ran.cpu has.exited) =
    ap (λ (n : ℕ). leaves boot n play) (sym same) ∙ exit_comes boot play old.at_work.core core ran lane now told was has
    next.0 next.1 in
    let written : machine.lanes.items ≡ slice_set play.lanes ran.cpu
    (lane_after (lane_of play ran.cpu) has.exited.writes) =
    lanes ∙ ap (slice_set play.lanes cpu) (has.writes ∙ ap (λ (l : List ℕ). lane_after l has.exited.writes) sees)
    ∙ ap (λ (n : ℕ). slice_set play.lanes n (lane_after (lane_of play n) has.exited.writes)) (sym same) in
    let line : play.lines ++ Ret ran.cpu has.exited.regs ∷ [] ≡ play.lines ++ Ret cpu told.a ∷ [] =
    ap (λ (n : ℕ). play.lines ++ Ret n has.exited.regs ∷ []) same
    ∙ ap (λ (a : List ℕ). play.lines ++ Ret cpu a ∷ []) (sym has.answer) in
    subst (λ (o : Option Play). IsSomeAnd o (λ next. IsAt boot next machine ×
    (next.lines ≡ play.lines ++ Ret cpu told.a ∷ []))) (sym comes)
    (stands_so boot (gone_out play ran.cpu has.exited) machine here written at.goes_on, line)
