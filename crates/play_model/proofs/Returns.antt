-- What holds of each legal history: what comes of returns from RPC, which answers come when, and isolation.
use Rattle.std.proofs.Common.{◌≡◌, List, [], ◌∷◌, ◌++◌, Option, Some, None, refl, ap, subst, sym, ◌∙◌}
use Rattle.std.specs.Prelude.{IsSome, slice_get}
use Rattle.std.specs.Option.{option_and_then}
use Rattle.std.proofs.lemmas.Option.{option_and_then_some}
use Rattle.base.specs.NumberMap.{get}
use Rattle.event_journal.specs.declared.event.Event.{Event}
use Rattle.event_journal.specs.declared.event.Event.TheVariants.{Entry}
use Rattle.kernel_model.specs.Application.{Booted}
use Rattle.kernel_model.specs.Argument.{reg, thread_in}
use Rattle.kernel_model.specs.Decision.{Decision, Takes, works_on}
use Rattle.kernel_model.specs.Entry.{after_decision}
use Rattle.kernel_model.specs.History.{IsLegal, after_event, after_events, kernel_after}
use Rattle.kernel_model.specs.Kernel.{Kernel, PendingCall, Processor, Visit, first_kernel}
use Rattle.kernel_model.specs.Resume.{call_resumed_by}
use Rattle.kernel_model.proofs.Answered.{answers_exactly}
use Rattle.kernel_model.proofs.EntryLaws.{resumes_call, tells, told_resume}
use Rattle.kernel_model.proofs.FixedAnswer.{inside_for, processors_after}
use Rattle.kernel_model.proofs.Parts.{set_found, some_of}
use Rattle.kernel_model.proofs.Past.{after_events-append}
use Rattle.kernel_model.proofs.Suspended.{resumes_continue}
use Rattle.kernel_model.specs.Laws.{FindsNoCall, FindsNoSlot, visited}
use Rattle.ns_ram.specs.declared.read.Read.{Read}
use Rattle.own_model.proofs.FixedAnswers as fixed
use Rattle.own_model.proofs.OtherResumes.{visitor_there}
use Rattle.group_model.specs.Read.{noted}
use Rattle.own_model.specs.Own.{own_app}
use Rattle.realm_model.proofs.AloneAnswered.{alone_answered}
use Rattle.realm_model.proofs.Answered.{groups_answered}
use Rattle.realm_model.proofs.GroupMembers.{kept_of_group}
use Rattle.realm_model.proofs.SessionsKnown.{kept_sessions_known}
use Rattle.smc_abi.specs.Call.{call_of}
use Rattle.smc_abi.specs.declared.call.Call.TheVariants.{Resume}
use Rattle.play_model.specs.Laws.{AloneIn, Returned, ReturnsIn, TogetherIn, ToldIn, entered}

-- the kernel after the first events of a legal history
pub kernel_before : (boot : Booted) (before behind : List Event) → IsLegal boot (before ++ behind)
    → (kernel : Kernel) × (kernel_after boot before ≡ Some kernel)
kernel_before boot before behind legal =
    let end = some_of (kernel_after boot (before ++ behind)) legal.follows in
    option_and_then_some (λ k. after_events boot k behind) (kernel_after boot before) end.0
    (sym (after_events-append boot (first_kernel boot) before behind) ∙ end.1)
    (λ (kernel : Kernel) there onward. (kernel, there))

-- which are a legal history too
pub legal_before : (boot : Booted) (before behind : List Event) → IsLegal boot (before ++ behind) → IsLegal boot before
legal_before boot before behind legal =
    let there = kernel_before boot before behind legal in
    record { boots = legal.boots; follows = subst IsSome (sym there.1) refl }

-- ---- returns from RPC

-- the kernel after one event more
pub one_more : (boot : Booted) (before : List Event) (happened : Event) (kernel next : Kernel)
    → kernel_after boot before ≡ Some kernel
    → kernel_after boot (before ++ happened ∷ []) ≡ Some next → after_event boot kernel happened ≡ Some next
one_more boot before happened kernel next there after =
    let cut = sym (after_events-append boot (first_kernel boot) before (happened ∷ [])) ∙ after in
    let here = sym (ap (λ (o : Option Kernel). option_and_then (λ k. after_events boot k (happened ∷ [])) o) there)
    ∙ cut in
    option_and_then_some (λ k. Some k) (after_event boot kernel happened) next here
    (λ (last : Kernel) came is. came ∙ is)

module _ (boot : Booted) (before : List Event) (visit : Visit) (reads : List Read) (kernel next : Kernel)
    (is : call_of (reg visit.regs 0) ≡ Resume) (after : kernel_after boot (entered before visit reads) ≡ Some next)
    (came : after_event boot kernel (Entry visit.cpu (record { a = visit.regs }) visit.steps reads) ≡ Some next) where
  -- the processor is inside for the slot
  inside_slot : (decision : Decision) → next ≡ after_decision kernel visit decision
      → slice_get next.processors visit.cpu ≡ Some (inside_for visit decision)
  inside_slot decision made =
      let there = visitor_there boot kernel next visit.cpu visit.steps (record { a = visit.regs }) reads came in
      ap (λ (k : Kernel). slice_get k.processors visit.cpu) made
      ∙ ap (λ (ps : List Processor). slice_get ps visit.cpu) (processors_after kernel visit decision)
      ∙ set_found kernel.processors visit.cpu (inside_for visit decision) there.0 there.1

  returned : (found : Option PendingCall) → call_resumed_by kernel.slots visit.regs ≡ found
      → Returned boot before visit reads kernel found
  returned None none =
      let decided = tells boot kernel next visit reads
      (fixed.entered boot kernel next visit.cpu visit.steps (record { a = visit.regs }) reads came) in
      let refused = told_resume kernel visit.regs decided.value decided.holds (is, none) in
      after ∙ ap (λ (k : Kernel). Some k)
      (sym decided.gives ∙ ap (λ (d : Decision). after_decision kernel visit d) refused)
  returned (Some call) some =
      let resumed = resumes_call boot kernel next visit reads call is some
      (fixed.entered boot kernel next visit.cpu visit.steps (record { a = visit.regs }) reads came) in
      let continued = resumes_continue boot before visit.cpu visit.steps (thread_in visit.regs)
      (record { a = visit.regs }) reads next after is
      (inside_slot (Takes (thread_in visit.regs) (works_on resumed.progress)) resumed.next_is) in
      record { next = next; comes_to = after; resumes = resumed; left = continued.0; was_left = continued.1 }

pub returns_in : (boot : Booted) (history : List Event) → IsLegal boot history → ReturnsIn boot history
returns_in boot history legal before behind visit reads kernel cut is there =
    let later = kernel_before boot (entered before visit reads) behind (subst (IsLegal boot) cut legal) in
    let happened : Event = Entry visit.cpu (record { a = visit.regs }) visit.steps reads in
    returned boot before visit reads kernel later.0 is later.1
    (one_more boot before happened kernel later.0 there later.1)
    (call_resumed_by kernel.slots visit.regs) refl

-- ---- answers

pub no_slot_in : (boot : Booted) (history : List Event) → IsLegal boot history → ToldIn boot history 1 FindsNoSlot
no_slot_in boot history legal before between behind cpu steps regs told reads kernel cut others there =
    let whole = legal_before boot (visited before cpu regs steps reads between told) behind
    (subst (IsLegal boot) cut legal) in
    answers_exactly.limit boot before between cpu steps regs told reads kernel there others whole

pub no_call_in : (boot : Booted) (history : List Event) → IsLegal boot history → ToldIn boot history 3 FindsNoCall
no_call_in boot history legal before between behind cpu steps regs told reads kernel cut others there =
    let whole = legal_before boot (visited before cpu regs steps reads between told) behind
    (subst (IsLegal boot) cut legal) in
    answers_exactly.resume boot before between cpu steps regs told reads kernel there others whole

-- ---- sessions

pub alone_in : (boot : Booted) (history : List Event) → IsLegal boot history → AloneIn boot history
alone_in boot history legal = record {
  answered = λ session app of none.
      alone_answered boot history session app (record { legal = legal; of_app = of; shares_none = none });
  known = λ before behind kernel session app cut there kept.
      subst (λ (h : List Event). own_app boot h session ≡ Some app) (sym cut)
      (kept_sessions_known.stays boot before behind session app (subst (IsLegal boot) cut legal)
      (kept_sessions_known.known boot before kernel session app there kept));
}

pub together_in : (boot : Booted) (history : List Event) → IsLegal boot history → TogetherIn boot history
together_in boot history legal = record {
  answered = λ app has shares.
      groups_answered boot history app (record { legal = legal; has = has; shares = shares });
  known = λ before behind kernel session app cut there kept. kept_of_group.known boot before kernel session app there kept;
  stays = λ before behind session number app cut has shares there.
      subst (λ (h : List Event). get (noted boot h app).sessions session ≡ Some number) (sym cut)
      (kept_of_group.stays boot before behind session number app
      (record { legal = subst (IsLegal boot) cut legal; has = has; shares = shares }) there);
}
