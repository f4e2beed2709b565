-- What an entry and an exit make of the kernel of a core.
use Rattle.std.proofs.Common.{◌≡◌, ℕ, ◌≤◌, ◌^◌, List, [], ◌∷◌, ◌++◌, Option, Some, None, Bool, true, false, refl, ap, sym, subst, ◌∙◌, arith}
use Rattle.std.specs.Prelude.{IsSomeAnd, slice_get, nat_le, ◌&&◌, if◌then◌else◌, bytes_eq}
use Rattle.std.specs.Option.{option_and_then}
use Rattle.std.proofs.lemmas.Bool.Decides.{nat_tests}
use Rattle.std.proofs.lemmas.Option.{option_and_then_some}
use Rattle.event_journal.specs.Journal.{copied_bytes}
use Rattle.event_journal.specs.declared.event.Event.{Event}
use Rattle.event_journal.specs.declared.event.Event.TheVariants as event
use Rattle.ns_ram.specs.declared.read.Read.{Read}
use Rattle.smc_abi.specs.declared.regs.Regs.{Regs}
use Rattle.kernel_model.specs.Application.{Booted}
use Rattle.kernel_model.specs.Entry.{after_entry}
use Rattle.kernel_model.specs.Exit.{Exited, exit}
use Rattle.kernel_model.specs.History.{IsLegal, after_event, after_events, can_be_granted, entry_from, exit_to, kernel_after}
use Rattle.kernel_model.specs.Kernel.{Kernel, Outside, Processor, Visit, first_kernel}
use Rattle.kernel_model.specs.Laws.{IsOutside}
use Rattle.kernel_model.proofs.Answered.{outside_of}
use Rattle.kernel_model.proofs.Parts.{some_of}
use Rattle.kernel_model.proofs.Past.{after_events-append}
use Rattle.kernel_model.proofs.Suspended.{only_one}
use Rattle.kernel_state.specs.Entering.{CanEnter, visit_of}
use Rattle.kernel_state.specs.Laws.{CoreEntry, CoreExit, JournalsStayLegal}
use Rattle.kernel_state.specs.Meaning.{booted_of, events_of, kernel_of, terms_of}
use Rattle.kernel_state.specs.Terms.{kept_terms}
use Rattle.kernel_state.specs.declared.kernel_core.Core.{Core}
use Rattle.kernel_state.specs.declared.terms.Terms.{Terms}
use Rattle.kernel_state.proofs.Told.{few_bytes, is_legal, reads_agree, reads_ram}

-- ---- the kernel of a core

pub core_is_legal : (core : Core) → IsLegal (booted_of core) (events_of core)
core_is_legal core = is_legal core.parts core.replay

-- the entries of one that keeps its events have read few bytes
pub kept_few : (core : Core) → terms_of core ≡ kept_terms → copied_bytes (events_of core) ≤ 2 ^ 28
kept_few core kept = subst (λ (terms : Terms). copied_bytes (events_of core) ≤ terms.most) kept (few_bytes core.parts core.replay)

-- there is one
pub some_kernel : (core : Core) → (kernel : Kernel) × (kernel_of core ≡ Some kernel)
some_kernel core = some_of (kernel_of core) (core_is_legal core).follows

-- what further events make of it
pub events_onward : (boot other : Booted) (before between history : List Event) (kernel last : Kernel) → other ≡ boot →
    history ≡ before ++ between → kernel_after boot before ≡ Some kernel → kernel_after other history ≡ Some last →
    after_events boot kernel between ≡ Some last
events_onward boot other before between history kernel last same is there end =
    sym (after_events-append boot (first_kernel boot) before between
    ∙ ap (λ (o : Option Kernel). option_and_then (λ k. after_events boot k between) o) there)
    ∙ ap (λ (events : List Event). kernel_after boot events) (sym is)
    ∙ ap (λ (b : Booted). kernel_after b history) (sym same) ∙ end

-- ---- an entry

-- a processor that was outside, with steps that can be granted, has come in
pub record CameIn (boot : Booted) (kernel next : Kernel) (visit : Visit) (reads : List Read) : Type 0 where
  pub outside : IsOutside kernel visit
  pub granted : can_be_granted visit.steps ≡ true
  pub entered : after_entry boot kernel visit reads ≡ Some next

pub came_in : (boot : Booted) (kernel next : Kernel) (cpu count : ℕ) (regs : Regs) (reads : List Read) →
    after_event boot kernel (event.Entry cpu regs count reads) ≡ Some next →
    CameIn boot kernel next (record { cpu = cpu; regs = regs.a; steps = count }) reads
came_in boot kernel next cpu count regs reads e =
    let visit : Visit = record { cpu = cpu; regs = regs.a; steps = count } in
    option_and_then_some (entry_from boot kernel visit reads) (slice_get kernel.processors cpu) next e
    (λ (processor : Processor) there onward.
    let allowed = outside_of processor (can_be_granted count) (after_entry boot kernel visit reads) next onward in
    record {
      outside = there ∙ ap (λ (p : Processor). Some p) allowed.0;
      granted = allowed.1;
      entered = allowed.2;
    })

pub entry_came_in : (entry : CoreEntry) →
    CameIn (booted_of entry.old) entry.kernel entry.next (visit_of entry.coming) entry.has_entered.reads
entry_came_in entry =
    let coming = entry.coming in
    let reads = entry.has_entered.reads in
    came_in (booted_of entry.old) entry.kernel entry.next coming.cpu coming.steps coming.regs reads
    (only_one (after_event (booted_of entry.old) entry.kernel (event.Entry coming.cpu coming.regs coming.steps reads)) entry.next
    (events_onward (booted_of entry.old) (booted_of entry.new) (events_of entry.old)
    (event.Entry coming.cpu coming.regs coming.steps reads ∷ []) (events_of entry.new) entry.kernel entry.next
    entry.has_entered.boot entry.has_entered.events entry.before entry.after))

pub some_steps : (steps : ℕ) → can_be_granted steps ≡ true → 1 ≤ steps
some_steps steps e = by_tests (nat_le 1 steps) (nat_le steps 1000000) refl e
  where
    by_tests : (some few : Bool) → nat_le 1 steps ≡ some → (some && few) ≡ true → 1 ≤ steps
    by_tests true few is e = grind (arith, nat_tests)
    by_tests false few is e = absurd cc

pub few_steps : (steps : ℕ) → can_be_granted steps ≡ true → steps ≤ 1000000
few_steps steps e = by_tests (nat_le 1 steps) (nat_le steps 1000000) refl e
  where
    by_tests : (some few : Bool) → nat_le steps 1000000 ≡ few → (some && few) ≡ true → steps ≤ 1000000
    by_tests true true is e = grind (arith, nat_tests)
    by_tests true false is e = absurd cc
    by_tests false few is e = absurd cc

could_enter : (entry : CoreEntry) → CanEnter entry.old entry.coming
could_enter entry =
    let came = entry_came_in entry in
    record {
      outside = subst (λ (o : Option Kernel). IsSomeAnd o (λ kernel. slice_get kernel.processors entry.coming.cpu ≡ Some Outside))
          (sym entry.before) came.outside;
      some_steps = some_steps entry.coming.steps came.granted;
      few_steps = few_steps entry.coming.steps came.granted;
    }

-- ---- an exit

-- it is the one of the kernel
pub exits : (left : CoreExit) → exit left.kernel left.ran.cpu ≡ Some left.has_left.exited
exits left =
    sym (ap (λ (o : Option Kernel). option_and_then (λ kernel. exit kernel left.ran.cpu) o) left.before) ∙ left.has_left.is_exit

kernel_left : (same : Bool) (kernel next : Kernel) → (if same then Some kernel else None) ≡ Some next → next ≡ kernel
kernel_left true kernel next e = cc
kernel_left false kernel next e = absurd cc

-- and the kernel is what it leaves
pub left_so : (left : CoreExit) → left.next ≡ left.has_left.exited.kernel
left_so left =
    let told = left.told in
    let exited = left.has_left.exited in
    let onward = events_onward (booted_of left.old) (booted_of left.new) (events_of left.old) (event.Exit left.ran.cpu told ∷ [])
    (events_of left.new) left.kernel left.next left.has_left.boot left.has_left.events left.before left.after in
    let gone = only_one (after_event (booted_of left.old) left.kernel (event.Exit left.ran.cpu told)) left.next onward in
    kernel_left (bytes_eq exited.regs told.a) exited.kernel left.next
    (sym (ap (λ (o : Option Exited). option_and_then (exit_to told.a) o) (exits left)) ∙ gone)

-- ---- the law

pub journals_legal : JournalsStayLegal
journals_legal = record {
  legal = core_is_legal;
  few = λ core. few_bytes core.parts core.replay;
  agree = λ core. reads_agree core.parts core.replay;
  in_ram = λ core. reads_ram core.parts core.replay;
  could_enter = could_enter;
  entered = λ entry. (entry_came_in entry).entered;
  exits = exits;
  left = left_so;
}
