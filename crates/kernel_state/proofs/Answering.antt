-- What is answered at once, over cores: a fixed answer changes its processor's part alone, and ETHREAD_LIMIT and ERESUME
-- come exactly where a call finds no slot, or no call. And what a resume continues.
use Rattle.std.proofs.Common.{◌≡◌, ◌↔◌, ℕ, List, [], ◌∷◌, ◌++◌, length, Option, Some, None, refl, ap, sym, subst, ◌∙◌}
use Rattle.std.proofs.Math.Logic.{∥∥₁_elim, ∥∥₁_map}
use Rattle.std.proofs.Props.{props}
use Rattle.std.proofs.lemmas.List.{append-nil}
use Rattle.std.specs.Prelude.{IsNone, IsSomeAnd, slice_get}
use Rattle.event_journal.specs.declared.event.Event.{Event}
use Rattle.event_journal.specs.declared.event.Event.TheVariants as event
use Rattle.ns_ram.specs.Writes.{lane_after}
use Rattle.smc_abi.specs.Call.{call_of}
use Rattle.smc_abi.specs.declared.answer.Answer.{Answer}
use Rattle.smc_abi.specs.declared.call.Call.TheVariants.{Resume}
use Rattle.kernel_model.specs.Application.{Booted}
use Rattle.kernel_model.specs.Argument.{reg, thread_in}
use Rattle.kernel_model.specs.Codes.{eresume}
use Rattle.kernel_model.specs.Decision.{Takes, works_on}
use Rattle.kernel_model.specs.Exit.{Exited, exit, goes_out}
use Rattle.kernel_model.specs.History.{kernel_after}
use Rattle.kernel_model.specs.Kernel.{Fixed, Inside, Kernel, PendingCall, Visit, is_free, lowest_free, with_visitor, without_visitor}
use Rattle.kernel_model.specs.Laws.{IsFixed}
use Rattle.kernel_model.specs.Resume.{call_resumed_by}
use Rattle.kernel_model.proofs.Answered.{events_stay}
use Rattle.kernel_model.proofs.EntryLaws.{limit_exactly, resumes_exactly}
use Rattle.kernel_model.proofs.FixedAnswer.{fixed_answers, inside_after}
use Rattle.kernel_model.proofs.Suspended.{Continued, call_continued, suspended_there}
use Rattle.kernel_state.specs.Entering.{IsAsBefore, visit_of}
use Rattle.kernel_state.specs.Laws.{AnswersComeExactly, ChangedByOthers, ComesBackTo, CoreEntry, CoreExit, FixedAnswersPass, FixesAnswer, HasGoneWith, ReturnsContinue, regs_of}
use Rattle.kernel_state.specs.Meaning.{booted_of, events_of, free_slots_in, kernel_of}
use Rattle.kernel_state.specs.Work.{IsWorkIn, IsWorkOf}
use Rattle.kernel_state.specs.declared.carried.Carried.{Carried}
use Rattle.kernel_state.specs.declared.carried.Carried.TheVariants.{Nothing, Resting, Running}
use Rattle.kernel_state.specs.declared.kernel_core.Core.{Core}
use Rattle.thread_slots.proofs.FreeSlots.{none_found}
use Rattle.kernel_state.proofs.CoreEvents.{entry_came_in, events_onward, exits, left_so}

-- ---- fixed answers

fixed_entry : (entry : CoreEntry) (answer : Answer) → FixesAnswer entry answer →
    entry.next ≡ with_visitor entry.kernel (visit_of entry.coming) (Fixed answer)
fixed_entry entry answer fixed =
    fixed_answers.entry (booted_of entry.old) entry.kernel entry.next (visit_of entry.coming) entry.has_entered.reads answer
    (entry_came_in entry).entered fixed

is_nothing : (carried : Carried) → ∥ carried ≡ Nothing ∥₁ → carried ≡ Nothing
is_nothing Nothing is = refl
is_nothing (Resting cont) is = absurd (∥∥₁_elim is (Prim.hlevel props) (λ (e : Resting cont ≡ Nothing). cc))
is_nothing (Running cont) is = absurd (∥∥₁_elim is (Prim.hlevel props) (λ (e : Running cont ≡ Nothing). cc))

fits_nothing : (entry : CoreEntry) (answer : Answer) → FixesAnswer entry answer →
    IsSomeAnd (kernel_of entry.new) (λ kernel. IsWorkOf kernel entry.work) → entry.work.call ≡ Nothing
fits_nothing entry answer fixed has =
    let work = entry.work in
    let fits : IsWorkOf entry.next work = subst (λ (o : Option Kernel). IsSomeAnd o (λ kernel. IsWorkOf kernel work)) entry.after has in
    let inside = ap (λ (cpu : ℕ). slice_get entry.next.processors cpu) entry.has_entered.cpu ∙ fixed in
    let here : IsWorkIn entry.next work (Some (Inside (regs_of entry) entry.coming.steps (Fixed answer))) =
    subst (IsWorkIn entry.next work) inside fits in
    here.1

nothing_carried : (entry : CoreEntry) (answer : Answer) → FixesAnswer entry answer → entry.work.call ≡ Nothing
nothing_carried entry answer fixed =
    is_nothing entry.work.call (∥∥₁_map entry.has_entered.fits (λ (has : IsSomeAnd (kernel_of entry.new) (λ kernel. IsWorkOf kernel entry.work)).
    fits_nothing entry answer fixed has))

-- while others come and go, it stays fixed
still_fixed : (entry : CoreEntry) (later : Core) (kernel : Kernel) (answer : Answer) → FixesAnswer entry answer →
    ChangedByOthers entry.new later entry.coming.cpu → kernel_of later ≡ Some kernel → IsFixed kernel (visit_of entry.coming) answer
still_fixed entry later kernel answer fixed changed there =
    let onward = events_onward (booted_of entry.new) (booted_of later) (events_of entry.new) changed.between (events_of later)
    entry.next kernel changed.boot changed.events entry.after there in
    events_stay (booted_of entry.new) entry.next kernel entry.coming.cpu changed.between changed.others onward ∙ fixed

same_exit : (one other : Exited) → Some one ≡ Some other → one ≡ other
same_exit one other e = cc

-- a processor that is inside for it goes out with it
gone_with : (left : CoreExit) (visit : Visit) (answer : Answer) → left.ran.cpu ≡ visit.cpu → IsFixed left.kernel visit answer →
    HasGoneWith left visit answer
gone_with left visit answer its fixed =
    let out : Exited = goes_out left.kernel visit answer [] in
    let same : left.has_left.exited ≡ out = same_exit left.has_left.exited out
    (sym (exits left) ∙ ap (λ (cpu : ℕ). exit left.kernel cpu) its ∙ fixed_answers.exit left.kernel visit answer fixed) in
    record {
      kernel = left_so left ∙ ap (λ (exited : Exited). exited.kernel) same;
      told = left.has_left.answer ∙ ap (λ (exited : Exited). exited.regs) same;
      lane = left.has_left.writes ∙ ap (λ (exited : Exited). lane_after left.lane exited.writes) same;
    }

fixed_exit : (entry : CoreEntry) (left : CoreExit) (answer : Answer) → FixesAnswer entry answer →
    left.ran.cpu ≡ entry.coming.cpu → ChangedByOthers entry.new left.old entry.coming.cpu →
    HasGoneWith left (visit_of entry.coming) answer
fixed_exit entry left answer fixed its changed =
    gone_with left (visit_of entry.coming) answer its (still_fixed entry left.old left.kernel answer fixed changed left.before)

same_kernel : (one other : Kernel) → Some one ≡ Some other → other ≡ one
same_kernel one other e = cc

-- nothing has happened between
abbrev unchanged : (old new : Core) (cpu : ℕ) → IsAsBefore old new → ChangedByOthers old new cpu
unchanged old new cpu same = record {
  boot = same.boot;
  terms = same.terms;
  between = [];
  others = tt;
  events = same.events ∙ sym (append-nil (events_of old));
}

in_a_row : (entry : CoreEntry) (left : CoreExit) (answer : Answer) → FixesAnswer entry answer →
    left.ran.cpu ≡ entry.coming.cpu → IsAsBefore entry.new left.old → left.next ≡ entry.kernel
in_a_row entry left answer fixed its same =
    let visit = visit_of entry.coming in
    let came = entry_came_in entry in
    let changed = unchanged entry.new left.old entry.coming.cpu same in
    let onward = events_onward (booted_of entry.new) (booted_of left.old) (events_of entry.new) [] (events_of left.old) entry.next left.kernel
    changed.boot changed.events entry.after left.before in
    (fixed_exit entry left answer fixed its changed).kernel
    ∙ ap (λ (kernel : Kernel). without_visitor kernel visit) (same_kernel entry.next left.kernel onward)
    ∙ fixed_answers.in_a_row (booted_of entry.old) entry.kernel entry.next visit entry.has_entered.reads answer came.outside came.entered fixed

pub fixed_pass : FixedAnswersPass
fixed_pass = record { entry = fixed_entry; nothing = nothing_carried; exit = fixed_exit; in_a_row = in_a_row }

-- ---- ETHREAD_LIMIT and ERESUME

none_is : (found : Option ℕ) → IsNone found → found ≡ None
none_is None none = refl
none_is (Some slot) none = absurd cc

is_none : (found : Option ℕ) → found ≡ None → IsNone found
is_none None e = refl
is_none (Some slot) e = cc

no_slot : (kernel : Kernel) → (lowest_free kernel.slots ≡ None) ↔ (free_slots_in kernel ≡ 0)
no_slot kernel =
    let found = none_found is_free kernel.slots in (
      λ none. found.0 (is_none (lowest_free kernel.slots) none),
      λ none. none_is (lowest_free kernel.slots) (found.1 none),
    )

pub answers_exactly : AnswersComeExactly
answers_exactly = record {
  limit = λ entry.
      let came = entry_came_in entry in
      limit_exactly (booted_of entry.old) entry.kernel entry.next (visit_of entry.coming) entry.has_entered.reads came.outside came.entered;
  resume = λ entry.
      let came = entry_came_in entry in
      resumes_exactly.refuses (booted_of entry.old) entry.kernel entry.next (visit_of entry.coming) entry.has_entered.reads came.outside came.entered;
  no_slot = no_slot;
}

-- ---- resumes

-- the history with the entry comes to its kernel
history_comes : (entry : CoreEntry) →
    kernel_after (booted_of entry.old)
    (events_of entry.old ++ event.Entry entry.coming.cpu entry.coming.regs entry.coming.steps entry.has_entered.reads ∷ []) ≡ Some entry.next
history_comes entry =
    ap (λ (events : List Event). kernel_after (booted_of entry.old) events) (sym entry.has_entered.events)
    ∙ ap (λ (boot : Booted). kernel_after boot (events_of entry.new)) (sym entry.has_entered.boot)
    ∙ entry.after

returns_in : (entry : CoreEntry) (found : Option PendingCall) → call_resumed_by entry.kernel.slots (regs_of entry) ≡ found →
    call_of (reg (regs_of entry) 0) ≡ Resume → ComesBackTo entry found
returns_in entry None none is = fixed_entry entry eresume ((answers_exactly.resume entry).1 (is, none))
returns_in entry (Some call) some is =
    let coming = entry.coming in
    let visit = visit_of coming in
    let reads = entry.has_entered.reads in
    let slot = thread_in (regs_of entry) in
    let came = entry_came_in entry in
    let resumes = resumes_exactly.resumes (booted_of entry.old) entry.kernel entry.next visit reads call is some came.entered in
    let continued : Continued (booted_of entry.old) (events_of entry.new) (length (events_of entry.old)) slot call =
    subst (λ (history : List Event). Continued (booted_of entry.old) history (length (events_of entry.old)) slot call)
    (sym entry.has_entered.events)
    (call_continued (booted_of entry.old) (events_of entry.old) entry.kernel entry.next coming.cpu coming.steps coming.regs reads call
    entry.before (history_comes entry) some resumes) in
    record {
      suspended = suspended_there entry.kernel (regs_of entry) call some;
      inside = inside_after entry.kernel entry.next visit (Takes slot (works_on resumes.progress)) came.outside (sym resumes.next_is);
      resumes = resumes;
      left = continued.left;
      later = continued.later;
      continues = continued.resumes;
    }

pub returns : ReturnsContinue
returns entry is = returns_in entry (call_resumed_by entry.kernel.slots (regs_of entry)) refl is
