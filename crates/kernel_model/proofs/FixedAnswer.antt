-- What an entry decides, seen in what its processor came in for; and a fixed answer changes its processor's part alone.
use Rattle.std.proofs.Common.{◌≡◌, List, [], Option, Some, refl, ap, sym, ◌∙◌}
use Rattle.std.specs.Prelude.{slice_get, slice_set}
use Rattle.std.specs.Option.{option_and_then}
use Rattle.ns_ram.specs.declared.read.Read.{Read}
use Rattle.smc_abi.specs.Call.{call_of}
use Rattle.smc_abi.specs.declared.answer.Answer.{Answer}
use Rattle.kernel_model.specs.Application.{Booted}
use Rattle.kernel_model.specs.Argument.{reg}
use Rattle.kernel_model.specs.Decision.{Decision, Answers, Takes}
use Rattle.kernel_model.specs.Entry.{decision_of, after_decision, after_entry}
use Rattle.kernel_model.specs.Exit.{exit, exit_of, goes_out}
use Rattle.kernel_model.specs.Kernel.{Processor, Outside, Inside, Errand, Fixed, InSlot, Kernel, Visit, with_visitor, without_visitor}
use Rattle.kernel_model.specs.Laws.{IsFixed, IsOutside, FixedAnswers}
use Rattle.kernel_model.proofs.Parts.{AllOf, Found, anything, reading-all, set_found, set_then_read, set_twice}

-- ---- what an entry decides

-- an entry decides something of which this holds, where it holds of all that its registers can come to
pub decides_all : (P : Decision → Type 0) (boot : Booted) (kernel next : Kernel) (visit : Visit) (reads : List Read)
    → AllOf P (decision_of boot kernel visit.regs (call_of (reg visit.regs 0)))
    → after_entry boot kernel visit reads ≡ Some next → Found (after_decision kernel visit) P next
decides_all P boot kernel next visit reads all e =
    reading-all (decision_of boot kernel visit.regs (call_of (reg visit.regs 0))) (after_decision kernel visit) P all reads next e

abbrev pub Anything : Decision → Type 0
Anything decision = Unit {0}

pub decides : (boot : Booted) (kernel next : Kernel) (visit : Visit) (reads : List Read)
    → after_entry boot kernel visit reads ≡ Some next → Found (after_decision kernel visit) Anything next
decides boot kernel next visit reads e =
    decides_all Anything boot kernel next visit reads (anything (decision_of boot kernel visit.regs (call_of (reg visit.regs 0)))) e

-- ---- what a processor came in for

abbrev pub errand_of : Decision → Errand
errand_of (Answers answer) = Fixed answer
errand_of (Takes slot taken) = InSlot slot

-- its processor, inside for that
abbrev pub inside_for : Visit → Decision → Processor
inside_for visit decision = Inside visit.regs visit.steps (errand_of decision)

pub processors_after : (kernel : Kernel) (visit : Visit) (decision : Decision)
    → (after_decision kernel visit decision).processors ≡ slice_set kernel.processors visit.cpu (inside_for visit decision)
processors_after kernel visit (Answers answer) = refl
processors_after kernel visit (Takes slot taken) = refl

same_errand : (visit : Visit) (first second : Errand) → Inside visit.regs visit.steps first ≡ Inside visit.regs visit.steps second → first ≡ second
same_errand visit first second e = cc

-- a processor that is inside for this has the errand of what was decided
pub decided_errand : (kernel next : Kernel) (visit : Visit) (errand : Errand) (decision : Decision)
    → after_decision kernel visit decision ≡ next → slice_get next.processors visit.cpu ≡ Some (Inside visit.regs visit.steps errand)
    → errand_of decision ≡ errand
decided_errand kernel next visit errand decision e inside =
    let set = sym (processors_after kernel visit decision) ∙ ap (λ (k : Kernel). k.processors) e in
    let there = ap (λ (ps : List Processor). slice_get ps visit.cpu) set ∙ inside in
    same_errand visit (errand_of decision) errand
    (set_then_read kernel.processors visit.cpu (inside_for visit decision) (Inside visit.regs visit.steps errand) there)

-- and one that was outside is inside for that
pub inside_after : (kernel next : Kernel) (visit : Visit) (decision : Decision) → IsOutside kernel visit → after_decision kernel visit decision ≡ next
    → slice_get next.processors visit.cpu ≡ Some (inside_for visit decision)
inside_after kernel next visit decision outside e =
    ap (λ (k : Kernel). slice_get k.processors visit.cpu) (sym e)
    ∙ ap (λ (ps : List Processor). slice_get ps visit.cpu) (processors_after kernel visit decision)
    ∙ set_found kernel.processors visit.cpu (inside_for visit decision) Outside outside

answer_of_errand : (decision : Decision) (answer : Answer) → errand_of decision ≡ Fixed answer → decision ≡ Answers answer
answer_of_errand (Answers given) answer e = cc
answer_of_errand (Takes slot taken) answer e = absurd cc

pub decided_fixed : (kernel next : Kernel) (visit : Visit) (answer : Answer) (decision : Decision)
    → after_decision kernel visit decision ≡ next → IsFixed next visit answer → decision ≡ Answers answer
decided_fixed kernel next visit answer decision e fixed =
    answer_of_errand decision answer (decided_errand kernel next visit (Fixed answer) decision e fixed)

pub fixed_decided : (kernel next : Kernel) (visit : Visit) (answer : Answer) (decision : Decision)
    → IsOutside kernel visit → after_decision kernel visit decision ≡ next → decision ≡ Answers answer → IsFixed next visit answer
fixed_decided kernel next visit answer decision outside e is =
    inside_after kernel next visit decision outside e
    ∙ ap (λ (d : Decision). Some (inside_for visit d)) is

-- ---- a fixed answer

fixed_entry : (boot : Booted) (kernel next : Kernel) (visit : Visit) (reads : List Read) (answer : Answer)
    → after_entry boot kernel visit reads ≡ Some next → IsFixed next visit answer → next ≡ with_visitor kernel visit (Fixed answer)
fixed_entry boot kernel next visit reads answer e fixed =
    let found = decides boot kernel next visit reads e in
    let is = decided_fixed kernel next visit answer found.value found.gives fixed in
    sym found.gives ∙ ap (λ (d : Decision). after_decision kernel visit d) is

fixed_exit : (kernel : Kernel) (visit : Visit) (answer : Answer)
    → IsFixed kernel visit answer → exit kernel visit.cpu ≡ Some (goes_out kernel visit answer [])
fixed_exit kernel visit answer fixed = ap (λ (p : Option Processor). option_and_then (exit_of kernel visit.cpu) p) fixed

fixed_in_a_row : (boot : Booted) (kernel next : Kernel) (visit : Visit) (reads : List Read) (answer : Answer)
    → IsOutside kernel visit → after_entry boot kernel visit reads ≡ Some next → IsFixed next visit answer
    → without_visitor next visit ≡ kernel
fixed_in_a_row boot kernel next visit reads answer outside e fixed =
    ap (λ (k : Kernel). without_visitor k visit) (fixed_entry boot kernel next visit reads answer e fixed)
    ∙ ap (λ (ps : List Processor). record kernel { processors = ps })
    (set_twice kernel.processors visit.cpu (Inside visit.regs visit.steps (Fixed answer)) Outside outside)

pub fixed_answers : FixedAnswers
fixed_answers = record { entry = fixed_entry; exit = fixed_exit; in_a_row = fixed_in_a_row }
