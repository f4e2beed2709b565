-- An entry under a turn.
use Rattle.std.proofs.Common.{◌≡◌, ℕ, ◌^◌, ◌<◌, ◌≤◌, true, false, List, Option, Some, Result, Ok, Err, refl, ap, sym, subst, ◌∙◌}
use Rattle.std.specs.Prelude.{IsSomeAnd, MatchResult, slice_get}
use Rattle.core_lock.specs.Counts.{made_by}
use Rattle.core_lock.specs.Passes.{made, seen}
use Rattle.event_journal.specs.declared.event.Event.{Event}
use Rattle.event_journal.specs.declared.event.Event.TheVariants.{Entry}
use Rattle.kernel_model.specs.Application.{Booted}
use Rattle.kernel_model.specs.Kernel.{Kernel, Outside}
use Rattle.kernel_model.specs.Turns.{cpu_of}
use Rattle.kernel_state.specs.Entering.{CanEnter, Coming, Enters, HasWorkAfter, IsTooMuchAfter}
use Rattle.kernel_state.specs.Meaning.{booted_of, events_of, terms_of}
use Rattle.kernel_state.specs.declared.enter_refusal.EnterRefusal.{EnterRefusal}
use Rattle.kernel_state.specs.declared.enter_refusal.EnterRefusal.TheVariants.{Full, Memory}
use Rattle.kernel_state.specs.declared.kernel_core.Core.{Core}
use Rattle.kernel_state.specs.declared.terms.Terms.{Terms}
use Rattle.kernel_state.specs.declared.work.Work.{Work}
use Rattle.kernel_state.proofs.CoreEvents.{some_kernel}
use Rattle.normal_cpus.specs.Entering.{ComesIn}
use Rattle.normal_cpus.specs.Sharing.{CpuPass, end_inside, is_inside}
use Rattle.normal_cpus.proofs.OwnEvents.{ends_by, outside_by_its_events}
use Rattle.normal_cpus.proofs.Turns.{Adds, IsFound, IsGivenBack, adds_none, adds_one, has_made, only_seen}

-- ---- before it

-- a processor that is outside by its own events can come in
pub can_enter : (core : Core) (coming : Coming) (made : List Event) → coming.cpu < (booted_of core).cpus →
    made_by cpu_of coming.cpu (events_of core) ≡ made → end_inside made ≡ false → 1 ≤ coming.steps → coming.steps ≤ 1000000 →
    CanEnter core coming
can_enter core coming made below own outside some few =
    let kernel = some_kernel core in
    record {
      outside = subst (λ (o : Option Kernel). IsSomeAnd o (λ k. slice_get k.processors coming.cpu ≡ Some Outside)) (sym kernel.1)
          (outside_by_its_events (booted_of core) (events_of core) kernel.0 coming.cpu below kernel.1 (ap end_inside own ∙ outside));
      some_steps = some;
      few_steps = few;
    }

-- ---- behind it

-- what it has added is its processor's
pub entered_adds : (before after : Core) (coming : Coming) (lane : List ℕ) (result : Result Work EnterRefusal) →
    Enters before after coming lane result → Adds coming.cpu (events_of before) (events_of after)
entered_adds before after coming lane (Ok work) has =
    adds_one coming.cpu (events_of before) (events_of after) (Entry coming.cpu coming.regs coming.steps has.reads) refl has.events
entered_adds before after coming lane (Err (Full copied more)) has = adds_none coming.cpu (events_of before) (events_of after) has.0.events
entered_adds before after coming lane (Err Memory) has = adds_none coming.cpu (events_of before) (events_of after) has.events

too_much_at : (boot other : Booted) (most : ℕ) (seen history : List Event) (coming : Coming) (lane : List ℕ) (copied more : ℕ) →
    other ≡ boot → most ≡ 2 ^ 28 → seen ≡ history → IsTooMuchAfter other most history coming lane copied more →
    IsTooMuchAfter boot (2 ^ 28) seen coming lane copied more
too_much_at boot other most seen history coming lane copied more same limit is too_much =
    subst (λ (b : Booted). IsTooMuchAfter b (2 ^ 28) seen coming lane copied more) same
    (subst (λ (n : ℕ). IsTooMuchAfter other n seen coming lane copied more) limit
    (subst (λ (events : List Event). IsTooMuchAfter other most events coming lane copied more) (sym is) too_much))

work_at : (boot other : Booted) (seen history : List Event) (work : Work) → other ≡ boot → seen ≡ history →
    HasWorkAfter other history work → HasWorkAfter boot seen work
work_at boot other seen history work same is has =
    subst (λ (b : Booted). HasWorkAfter b seen work) same
    (subst (λ (events : List Event). HasWorkAfter other events work) (sym is) has)

pub comes_in : (boot : Booted) (old new : CpuPass) (before after : Core) (coming : Coming) (lane : List ℕ)
    (result : Result Work EnterRefusal) → IsFound boot old before → IsGivenBack old new before after →
    Enters before after coming lane result → ComesIn boot old new coming lane result
comes_in boot old new before after coming lane (Ok work) found given has = record {
  reads = has.reads;
  from_lane = has.from_lane;
  before = events_of before;
  makes = has_made boot old new before after (Entry coming.cpu coming.regs coming.steps has.reads) found given has.boot has.terms has.events;
  cpu = has.cpu;
  entry_at = has.entry_at;
  fits = work_at boot (booted_of after) (seen new) (events_of after) work (has.boot ∙ found.booted) given.now_seen has.fits;
}
comes_in boot old new before after coming lane (Err (Full copied more)) found given has = (
  only_seen boot old new before after found given has.0.boot has.0.terms has.0.events,
  too_much_at boot (booted_of before) (terms_of before).most (seen new) (events_of before) coming lane copied more found.booted
      (ap (λ (terms : Terms). terms.most) found.terms) (given.now_seen ∙ has.0.events) has.1,
)
comes_in boot old new before after coming lane (Err Memory) found given has =
    only_seen boot old new before after found given has.boot has.terms has.events

-- it is inside exactly where it came in
pub inside_after : (boot : Booted) (old new : CpuPass) (coming : Coming) (lane : List ℕ) (result : Result Work EnterRefusal) →
    is_inside old ≡ false → ComesIn boot old new coming lane result →
    MatchResult result (λ _. is_inside new ≡ true) (λ _. is_inside new ≡ false)
inside_after boot old new coming lane (Ok work) outside has =
    ends_by (made old) (made new) (Entry coming.cpu coming.regs coming.steps has.reads) has.makes.made_one
inside_after boot old new coming lane (Err (Full copied more)) outside has = ap end_inside has.0.made_none ∙ outside
inside_after boot old new coming lane (Err Memory) outside has = ap end_inside has.made_none ∙ outside
