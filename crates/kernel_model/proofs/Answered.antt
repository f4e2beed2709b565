-- What a processor goes out with, seen from its entry on: its a0 is 1, or 3, exactly where its call found no slot, or no
-- call.
use Rattle.std.proofs.Common.{◌≡◌, ◌↔◌, ℕ, List, [], ◌∷◌, ◌++◌, Option, Some, None, Bool, true, false, refl, ap, sym, subst, ◌∙◌}
use Rattle.std.specs.Prelude.{slice_get, slice_set, bytes_eq, ◌&&◌, if◌then◌else◌}
use Rattle.std.specs.List.{AllByRecursion}
use Rattle.std.specs.Option.{option_map, option_and_then}
use Rattle.std.proofs.lemmas.Option.{option_and_then_some}
use Rattle.std.proofs.lemmas.Slice.Eq.{bytes_eq-Decides}
use Rattle.event_journal.specs.declared.event.Event.{Event}
use Rattle.event_journal.specs.declared.event.Event.TheVariants as event
use Rattle.ns_ram.specs.declared.read.Read.{Read}
use Rattle.smc_abi.specs.Answer.{registers_of}
use Rattle.smc_abi.specs.declared.answer.Answer.{Answer}
use Rattle.smc_abi.specs.declared.answer.Answer.TheVariants.{Words, Alloc, Free as FreeAnswer, Cmd, Interrupt}
use Rattle.smc_abi.specs.declared.regs.Regs.{Regs}
use Rattle.kernel_model.specs.Application.{Booted}
use Rattle.kernel_model.specs.Argument.{reg}
use Rattle.kernel_model.specs.Codes.{eresume, ethread_limit}
use Rattle.kernel_model.specs.Decision.{Decision, Answers, Takes}
use Rattle.kernel_model.specs.Entry.{after_entry}
use Rattle.kernel_model.specs.Exit.{Exited, answer_of, exit, exit_of, exit_with, goes_out, goes_out_from, progress_in_slot}
use Rattle.kernel_model.specs.History.{IsLegal, after_event, after_events, can_be_granted, entry_from, exit_to, is_outside, kernel_after}
use Rattle.kernel_model.specs.Kernel.{Progress, Fixed, InSlot, Processor, Outside, Inside, Kernel, Visit, first_kernel}
use Rattle.kernel_model.specs.Laws.{AnswersExactly, FindsNoCall, FindsNoSlot, IsOfOther, IsOutside, visited}
use Rattle.kernel_model.specs.Leaving.{Leaving, Interrupted, WantsBuffer, Requests, FreesBuffer, Finishes, leaving_of}
use Rattle.kernel_model.proofs.EntryLaws.{tells}
use Rattle.kernel_model.proofs.FixedAnswer.{decides, errand_of, inside_after, inside_for, processors_after}
use Rattle.kernel_model.proofs.Parts.{option_map_some, set_other, some_of}
use Rattle.kernel_model.proofs.Past.{after_events-append}
use Rattle.kernel_model.proofs.Told.{Neither, Told, word_of}

-- ---- the events of other processors

slot_out : (kernel : Kernel) (visit : Visit) (slot : ℕ) (exited : Exited)
    → option_map (goes_out_from kernel visit slot) (progress_in_slot kernel visit.steps slot) ≡ Some exited
    → exited.kernel.processors ≡ slice_set kernel.processors visit.cpu Outside
slot_out kernel visit slot exited e =
    let came = option_map_some (goes_out_from kernel visit slot) (progress_in_slot kernel visit.steps slot) exited e in
    ap (λ (x : Exited). x.kernel.processors) (sym came.2)

processor_out : (kernel : Kernel) (cpu : ℕ) (processor : Option Processor) (exited : Exited)
    → option_and_then (exit_of kernel cpu) processor ≡ Some exited → exited.kernel.processors ≡ slice_set kernel.processors cpu Outside
processor_out kernel cpu None exited e = absurd cc
processor_out kernel cpu (Some Outside) exited e = absurd cc
processor_out kernel cpu (Some (Inside regs count (Fixed answer))) exited e =
    let made : Exited = goes_out kernel (record { cpu = cpu; regs = regs; steps = count }) answer [] in
    let same : made ≡ exited = cc in
    ap (λ (x : Exited). x.kernel.processors) (sym same)
processor_out kernel cpu (Some (Inside regs count (InSlot slot))) exited e =
    slot_out kernel (record { cpu = cpu; regs = regs; steps = count }) slot exited e

-- another processor's event leaves this one as it is
abbrev Stays : ℕ → Kernel → Kernel → Type 0
Stays cpu kernel next = slice_get next.processors cpu ≡ slice_get kernel.processors cpu

entry_stays : (boot : Booted) (kernel next : Kernel) (visit : Visit) (reads : List Read) (cpu : ℕ) → (visit.cpu ≡ cpu → ⊥)
    → after_entry boot kernel visit reads ≡ Some next → Stays cpu kernel next
entry_stays boot kernel next visit reads cpu apart e =
    let found = decides boot kernel next visit reads e in
    ap (λ (k : Kernel). slice_get k.processors cpu) (sym found.gives)
    ∙ ap (λ (ps : List Processor). slice_get ps cpu) (processors_after kernel visit found.value)
    ∙ set_other kernel.processors visit.cpu cpu (inside_for visit found.value) apart

allowed_stays : (boot : Booted) (kernel next : Kernel) (visit : Visit) (reads : List Read) (cpu : ℕ) (allowed : Bool) → (visit.cpu ≡ cpu → ⊥)
    → (if allowed then after_entry boot kernel visit reads else None) ≡ Some next → Stays cpu kernel next
allowed_stays boot kernel next visit reads cpu true apart e = entry_stays boot kernel next visit reads cpu apart e
allowed_stays boot kernel next visit reads cpu false apart e = absurd cc

exit_stays : (exited : Exited) (next kernel : Kernel) (went cpu : ℕ) (same : Bool) → (went ≡ cpu → ⊥)
    → exited.kernel.processors ≡ slice_set kernel.processors went Outside
    → (if same then Some exited.kernel else None) ≡ Some next → Stays cpu kernel next
exit_stays exited next kernel went cpu true apart out e =
    let is : exited.kernel ≡ next = cc in
    ap (λ (k : Kernel). slice_get k.processors cpu) (sym is)
    ∙ ap (λ (ps : List Processor). slice_get ps cpu) out
    ∙ set_other kernel.processors went cpu Outside apart
exit_stays exited next kernel went cpu false apart out e = absurd cc

event_stays : (boot : Booted) (kernel next : Kernel) (cpu : ℕ) (happened : Event) → IsOfOther cpu happened
    → after_event boot kernel happened ≡ Some next → Stays cpu kernel next
event_stays boot kernel next cpu (event.Entry came regs count reads) apart e =
    let visit : Visit = record { cpu = came; regs = regs.a; steps = count } in
    option_and_then_some (entry_from boot kernel visit reads) (slice_get kernel.processors came) next e
    (λ (processor : Processor) there onward. allowed_stays boot kernel next visit reads cpu (is_outside processor && can_be_granted count) apart onward)
event_stays boot kernel next cpu (event.Exit went regs) apart e =
    option_and_then_some (exit_to regs.a) (exit kernel went) next e
    (λ (exited : Exited) there onward.
    exit_stays exited next kernel went cpu (bytes_eq exited.regs regs.a) apart (processor_out kernel went (slice_get kernel.processors went) exited there) onward)

-- the events of others leave a processor as it is
pub events_stay : (boot : Booted) (kernel last : Kernel) (cpu : ℕ) (events : List Event) → AllByRecursion (IsOfOther cpu) events
    → after_events boot kernel events ≡ Some last → Stays cpu kernel last
events_stay boot kernel last cpu [] all e =
    let is : kernel ≡ last = cc in
    ap (λ (k : Kernel). slice_get k.processors cpu) (sym is)
events_stay boot kernel last cpu (happened ∷ events) all e =
    option_and_then_some (λ k. after_events boot k events) (after_event boot kernel happened) last e
    (λ (next : Kernel) there onward.
    events_stay boot next last cpu events all.1 onward ∙ event_stays boot kernel next cpu happened all.0 there)

-- ---- what a processor goes out with

first_word : (answer : Answer) (caller : List ℕ) → reg (registers_of answer caller) 0 ≡ word_of answer
first_word (Words a0 a1 a2 a3) caller = refl
first_word (Alloc size thread) caller = refl
first_word (FreeAnswer cookie thread) caller = refl
first_word (Cmd cookie thread) caller = refl
first_word (Interrupt thread) caller = refl

leaving_word : (slot : ℕ) (leaving : Leaving) → Neither (word_of (answer_of slot leaving))
leaving_word slot Interrupted = (λ e. cc, λ e. cc)
leaving_word slot WantsBuffer = (λ e. cc, λ e. cc)
leaving_word slot (Requests place request) = (λ e. cc, λ e. cc)
leaving_word slot (FreesBuffer buffer) = (λ e. cc, λ e. cc)
leaving_word slot (Finishes result params) = (λ e. cc, λ e. cc)

progress_word : (kernel : Kernel) (visit : Visit) (slot : ℕ) (progress : Progress) → Neither (reg (goes_out_from kernel visit slot progress).regs 0)
progress_word kernel visit slot progress =
    let leaving = leaving_of slot progress.call in
    subst Neither (sym (first_word (answer_of slot leaving) visit.regs)) (leaving_word slot leaving)

slot_word : (kernel : Kernel) (visit : Visit) (slot : ℕ) (exited : Exited)
    → option_map (goes_out_from kernel visit slot) (progress_in_slot kernel visit.steps slot) ≡ Some exited → Neither (reg exited.regs 0)
slot_word kernel visit slot exited e =
    let came = option_map_some (goes_out_from kernel visit slot) (progress_in_slot kernel visit.steps slot) exited e in
    subst (λ (x : Exited). Neither (reg x.regs 0)) came.2 (progress_word kernel visit slot came.0)

-- what the a0 of an exit says of the call, as it came in
record Says (kernel : Kernel) (regs : List ℕ) (a0 : ℕ) : Type 0 where
  limit : (a0 ≡ 1) ↔ FindsNoSlot kernel regs
  resume : (a0 ≡ 3) ↔ FindsNoCall kernel regs

says_one : (answer : Answer) → answer ≡ ethread_limit → word_of answer ≡ 1
says_one answer is = ap word_of is

says_three : (answer : Answer) → answer ≡ eresume → word_of answer ≡ 3
says_three answer is = ap word_of is

decided_says : (kernel later : Kernel) (visit : Visit) (decision : Decision) (exited : Exited) → Told kernel visit.regs decision
    → exit_with later visit (errand_of decision) ≡ Some exited → Says kernel visit.regs (reg exited.regs 0)
decided_says kernel later visit (Answers answer) exited told e =
    let made : Exited = goes_out later visit answer [] in
    let same : made ≡ exited = cc in
    let word = sym (first_word answer visit.regs) ∙ ap (λ (x : Exited). reg x.regs 0) same in
    subst (Says kernel visit.regs) word (record {
      limit = (told.0.0, λ none. says_one answer (told.1.0 none));
      resume = (told.0.1, λ none. says_three answer (told.1.1 none));
    })
decided_says kernel later visit (Takes slot taken) exited told e =
    let word = slot_word later visit slot exited e in
    record {
      limit = (λ is. absurd (word.0 is), λ none. absurd (told.0 none));
      resume = (λ is. absurd (word.1 is), λ none. absurd (told.1 none));
    }

-- an exit, where the processor is inside for what was decided
exit_says : (kernel later : Kernel) (visit : Visit) (decision : Decision) (exited : Exited) → Told kernel visit.regs decision
    → slice_get later.processors visit.cpu ≡ Some (inside_for visit decision)
    → exit later visit.cpu ≡ Some exited → Says kernel visit.regs (reg exited.regs 0)
exit_says kernel later visit decision exited told inside e =
    decided_says kernel later visit decision exited told
    (sym (ap (λ (p : Option Processor). option_and_then (exit_of later visit.cpu) p) inside) ∙ e)

same_registers : (exited : Exited) (regs : List ℕ) (last : Kernel) (same : Bool) → bytes_eq exited.regs regs ≡ same
    → (if same then Some exited.kernel else None) ≡ Some last → exited.regs ≡ regs
same_registers exited regs last true is e = (bytes_eq-Decides exited.regs regs).0 is
same_registers exited regs last false is e = absurd cc

-- ---- from an entry to the exit

-- a processor that comes in was outside, and is granted steps
pub outside_of : (processor : Processor) (granted : Bool) (o : Option Kernel) (next : Kernel)
    → (if is_outside processor && granted then o else None) ≡ Some next → (processor ≡ Outside) × (granted ≡ true) × (o ≡ Some next)
outside_of Outside true o next e = (refl, refl, e)
outside_of Outside false o next e = absurd cc
outside_of (Inside regs count errand) granted o next e = absurd cc

told_after : (boot : Booted) (kernel first later last : Kernel) (cpu count : ℕ) (regs told : Regs) (reads : List Read) (between : List Event)
    → AllByRecursion (IsOfOther cpu) between → after_event boot kernel (event.Entry cpu regs count reads) ≡ Some first
    → after_events boot first between ≡ Some later → after_event boot later (event.Exit cpu told) ≡ Some last
    → Says kernel regs.a (reg told.a 0)
told_after boot kernel first later last cpu count regs told reads between others came went out =
    let visit : Visit = record { cpu = cpu; regs = regs.a; steps = count } in
    option_and_then_some (entry_from boot kernel visit reads) (slice_get kernel.processors cpu) first came
    (λ (processor : Processor) there onward.
    let allowed = outside_of processor (can_be_granted count) (after_entry boot kernel visit reads) first onward in
    let outside : IsOutside kernel visit = there ∙ ap (λ (p : Processor). Some p) allowed.0 in
    let found = tells boot kernel first visit reads allowed.2 in
    let inside = inside_after kernel first visit found.value outside found.gives in
    let still = events_stay boot first later cpu between others went ∙ inside in
    option_and_then_some (exit_to told.a) (exit later cpu) last out
    (λ (exited : Exited) gone onward.
    subst (λ (words : List ℕ). Says kernel regs.a (reg words 0)) (same_registers exited told.a last (bytes_eq exited.regs told.a) refl onward)
    (exit_says kernel later visit found.value exited found.holds still gone)))

legal_says : (boot : Booted) (before between : List Event) (cpu count : ℕ) (regs told : Regs) (reads : List Read) (kernel : Kernel)
    → kernel_after boot before ≡ Some kernel → AllByRecursion (IsOfOther cpu) between
    → IsLegal boot (visited before cpu regs count reads between told) → Says kernel regs.a (reg told.a 0)
legal_says boot before between cpu count regs told reads kernel there others legal =
    let came : Event = event.Entry cpu regs count reads in
    let went : Event = event.Exit cpu told in
    let rest : List Event = (came ∷ between) ++ went ∷ [] in
    let end = some_of (kernel_after boot (visited before cpu regs count reads between told)) legal.follows in
    let cut = sym (after_events-append boot (first_kernel boot) before rest) ∙ end.1 in
    let here = sym (ap (λ (o : Option Kernel). option_and_then (λ k. after_events boot k rest) o) there) ∙ cut in
    option_and_then_some (λ k. after_events boot k (between ++ went ∷ [])) (after_event boot kernel came) end.0 here
    (λ (first : Kernel) entered onward.
    let split = sym (after_events-append boot first between (went ∷ [])) ∙ onward in
    option_and_then_some (λ k. after_events boot k (went ∷ [])) (after_events boot first between) end.0 split
    (λ (later : Kernel) between_them last.
    option_and_then_some (λ k. Some k) (after_event boot later went) end.0 last
    (λ (after : Kernel) left whole.
    told_after boot kernel first later after cpu count regs told reads between others entered between_them left)))

pub answers_exactly : AnswersExactly
answers_exactly = record {
  limit = λ boot before between cpu count regs told reads kernel there others legal.
      (legal_says boot before between cpu count regs told reads kernel there others legal).limit;
  resume = λ boot before between cpu count regs told reads kernel there others legal.
      (legal_says boot before between cpu count regs told reads kernel there others legal).resume;
}
