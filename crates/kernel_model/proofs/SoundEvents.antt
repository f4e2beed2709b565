-- What holds after an event, by its kind: an answer, a new call, a resume, or the exit from either.
use Rattle.std.proofs.Common.{◌≡◌, ℕ, suc, ◌+◌, Bool, true, false, List, [], ◌∷◌, ◌++◌, Option, Some, None, refl, ap, subst, ◌∙◌, arith}
use Rattle.std.specs.Prelude.{slice_get, if◌then◌else◌, ◌==◌, ◌&&◌, bytes_eq, length}
use Rattle.std.specs.Option.{option_map, option_map_or, option_and_then}
use Rattle.std.proofs.lemmas.Bool.Decides.{Decides-eqb}
use Rattle.std.proofs.lemmas.Option.{option_and_then_some}
use Rattle.event_journal.specs.declared.event.Event.{Event}
use Rattle.event_journal.specs.declared.event.Event.TheVariants as event
use Rattle.msg_args.specs.Reading.{head_at}
use Rattle.ns_ram.specs.declared.read.Read.{Read}
use Rattle.ns_ram.specs.Reader.{Reader, done, want_bytes, want_words, ◌>>=◌}
use Rattle.smc_abi.specs.Call.{call_of}
use Rattle.smc_abi.specs.FastAnswer.{fast_answer_of}
use Rattle.smc_abi.specs.declared.answer.Answer.{Answer}
use Rattle.smc_abi.specs.declared.call.Call.{Call}
use Rattle.smc_abi.specs.declared.call.Call.TheVariants.{Fast, WithArg, WithRpcArg, WithRegdArg, Resume, Unknown}
use Rattle.smc_abi.specs.declared.regs.Regs.{Regs}
use Rattle.kernel_model.specs.Application.{Booted}
use Rattle.kernel_model.specs.Argument.{client_in, reg, thread_in}
use Rattle.kernel_model.specs.Codes.{eresume, unknown_function}
use Rattle.kernel_model.specs.Decision.{Decision, Answers, Takes, Taken, works_on}
use Rattle.kernel_model.specs.Entry.{after_decision, after_entry, decision_of}
use Rattle.kernel_model.specs.Exit.{Exited, exit, exit_of, goes_out, goes_out_from, progress_held, progress_in_slot, progress_of}
use Rattle.kernel_model.specs.Given.{Given, given_to}
use Rattle.kernel_model.specs.History.{after_event, after_events, can_be_granted, entry_from, exit_to, is_outside, kernel_after}
use Rattle.kernel_model.specs.Kernel.{Active, Fixed, Free, InSlot, Inside, Kernel, Outside, PendingCall, Processor, Progress, Suspended, ThreadSlot, Visit, first_kernel, lowest_free, with_visitor, without_visitor}
use Rattle.kernel_model.specs.Laws.{IsFixed, IsOutside}
use Rattle.kernel_model.specs.Located.{Located, has_argument, located}
use Rattle.kernel_model.specs.NewCall.{new_call, new_call_of}
use Rattle.kernel_model.specs.Resume.{call_resumed_by, onward_of, resumed_call, suspended_for, takes_call}
use Rattle.kernel_model.specs.Turns.{cpu_of}
use Rattle.kernel_model.proofs.FixedAnswer.{decides_all}
use Rattle.kernel_model.proofs.Parts.{AllOf, option_map_some}
use Rattle.kernel_model.proofs.Past.{after_events-append}
use Rattle.kernel_model.proofs.SoundNewCalls.{NewCases, cases_onward, new_decides}
use Rattle.kernel_model.proofs.SoundOffers.{IsOffered, all_offered}

-- a processor comes in that was outside, with steps that can be granted
pub record ComesIn (kernel : Kernel) (cpu : ℕ) (visit : Visit) : Type 0 where
  pub its : visit.cpu ≡ cpu
  pub outside : IsOutside kernel visit
  pub granted : can_be_granted visit.steps ≡ true

-- what a slot is taken for at a resume of its call, which is given this
abbrev pub resumed_taken : Booted → Kernel → Visit → PendingCall → Given → Taken
resumed_taken boot kernel visit call given =
    works_on (onward_of (resumed_call boot kernel.tables (thread_in visit.regs) call given))

-- it holds after each entry of this processor, whatever its kind is
pub record EntryCases (boot : Booted) (kernel : Kernel) (cpu : ℕ) (P : Kernel → Type 0) : Type 0 where
  pub answered : (visit : Visit) (answer : Answer) → ComesIn kernel cpu visit → P (with_visitor kernel visit (Fixed answer))
  pub comes : (visit : Visit) (slot : ℕ) (found : Located) (bytes : List ℕ) → ComesIn kernel cpu visit → lowest_free kernel.slots ≡ Some slot →
      located kernel.tables visit.regs ≡ Some found → has_argument found (head_at bytes) ≡ true →
      NewCases (new_call_of boot kernel.tables visit.regs slot found bytes) (λ taken. P (after_decision kernel visit (Takes slot taken)))
  pub resumes : (visit : Visit) (call : PendingCall) (given : Given) → ComesIn kernel cpu visit →
      slice_get kernel.slots (thread_in visit.regs) ≡ Some (Suspended (client_in visit.regs) call) → IsOffered given →
      P (after_decision kernel visit (Takes (thread_in visit.regs) (resumed_taken boot kernel visit call given)))

-- and after each exit
pub record LeaveCases (boot : Booted) (kernel : Kernel) (cpu : ℕ) (P : Kernel → Type 0) : Type 0 where
  pub told : (visit : Visit) (answer : Answer) → visit.cpu ≡ cpu → IsFixed kernel visit answer → P (without_visitor kernel visit)
  pub goes : (visit : Visit) (slot worker : ℕ) (call : PendingCall) (progress : Progress) → visit.cpu ≡ cpu →
      slice_get kernel.processors visit.cpu ≡ Some (Inside visit.regs visit.steps (InSlot slot)) →
      slice_get kernel.slots slot ≡ Some (Active worker call) → progress_of kernel.tables call visit.steps ≡ Some progress →
      P (goes_out_from kernel visit slot progress).kernel

-- it holds after each event of this processor, whatever its kind is
pub record EventCases (boot : Booted) (kernel : Kernel) (cpu : ℕ) (P : Kernel → Type 0) : Type 0 where
  pub answered : (visit : Visit) (answer : Answer) → ComesIn kernel cpu visit → P (with_visitor kernel visit (Fixed answer))
  pub comes : (visit : Visit) (slot : ℕ) (found : Located) (bytes : List ℕ) → ComesIn kernel cpu visit → lowest_free kernel.slots ≡ Some slot →
      located kernel.tables visit.regs ≡ Some found → has_argument found (head_at bytes) ≡ true →
      NewCases (new_call_of boot kernel.tables visit.regs slot found bytes) (λ taken. P (after_decision kernel visit (Takes slot taken)))
  pub resumes : (visit : Visit) (call : PendingCall) (given : Given) → ComesIn kernel cpu visit →
      slice_get kernel.slots (thread_in visit.regs) ≡ Some (Suspended (client_in visit.regs) call) → IsOffered given →
      P (after_decision kernel visit (Takes (thread_in visit.regs) (resumed_taken boot kernel visit call given)))
  pub told : (visit : Visit) (answer : Answer) → visit.cpu ≡ cpu → IsFixed kernel visit answer → P (without_visitor kernel visit)
  pub goes : (visit : Visit) (slot worker : ℕ) (call : PendingCall) (progress : Progress) → visit.cpu ≡ cpu →
      slice_get kernel.processors visit.cpu ≡ Some (Inside visit.regs visit.steps (InSlot slot)) →
      slice_get kernel.slots slot ≡ Some (Active worker call) → progress_of kernel.tables call visit.steps ≡ Some progress →
      P (goes_out_from kernel visit slot progress).kernel

entries_of : (boot : Booted) (kernel : Kernel) (cpu : ℕ) (P : Kernel → Type 0) → EventCases boot kernel cpu P → EntryCases boot kernel cpu P
entries_of boot kernel cpu P cases = record { answered = cases.answered; comes = cases.comes; resumes = cases.resumes }

exits_of : (boot : Booted) (kernel : Kernel) (cpu : ℕ) (P : Kernel → Type 0) → EventCases boot kernel cpu P → LeaveCases boot kernel cpu P
exits_of boot kernel cpu P cases = record { told = cases.told; goes = cases.goes }

-- ---- entries

module _ (boot : Booted) (kernel : Kernel) (cpu : ℕ) (P : Kernel → Type 0) (cases : EntryCases boot kernel cpu P) where
  abbrev After : Visit → Decision → Type 0
  After visit decision = P (after_decision kernel visit decision)

  suspended_there : (client : ℕ) (held : Option ThreadSlot) (call : PendingCall) → suspended_for client held ≡ Some call
      → held ≡ Some (Suspended client call)
  suspended_there client None call e = absurd cc
  suspended_there client (Some Free) call e = absurd cc
  suspended_there client (Some (Active worker other)) call e = absurd cc
  suspended_there client (Some (Suspended owner other)) call e = by_owner (owner == client) refl e
    where
      by_owner : (test : Bool) → (owner == client) ≡ test → (if test then Some other else None) ≡ Some call
          → Some (Suspended owner other) ≡ Some (Suspended client call)
      by_owner true is here =
          let same : other ≡ call = cc in
          ap (λ (o : ℕ). Some (Suspended o other)) ((Decides-eqb owner client).0 is) ∙ ap (λ (c : PendingCall). Some (Suspended client c)) same
      by_owner false is here = absurd cc

  resume_all : (visit : Visit) (found : Option PendingCall) → ComesIn kernel cpu visit → call_resumed_by kernel.slots visit.regs ≡ found
      → AllOf (After visit) (option_map_or (takes_call boot kernel.tables visit.regs) found (done (Answers eresume)))
  resume_all visit None inside none = cases.answered visit eresume inside
  resume_all visit (Some call) inside some =
      let slot = thread_in visit.regs in
      let there = suspended_there (client_in visit.regs) (slice_get kernel.slots slot) call some in
      mapped (given_to visit.regs slot call) (all_offered visit.regs slot call) (λ given offered. cases.resumes visit call given inside there offered)
    where
      mapped : (reader : Reader Given) → AllOf IsOffered reader
          → ((given : Given) → IsOffered given → After visit (Takes (thread_in visit.regs) (works_on (onward_of (resumed_call boot kernel.tables (thread_in visit.regs) call given)))))
          → AllOf (After visit)
          ((reader >>= (λ given. done (onward_of (resumed_call boot kernel.tables (thread_in visit.regs) call given))))
          >>= (λ progress. done (Takes (thread_in visit.regs) (works_on progress))))
      mapped (done given) offered all = all given offered
      mapped (want_bytes addr len next) offered all = λ got. mapped (next got) (offered got) all
      mapped (want_words addr most test next) offered all = λ got. mapped (next got) (offered got) all

  new_all : (visit : Visit) → ComesIn kernel cpu visit → AllOf (After visit) (new_call boot kernel visit.regs)
  new_all visit inside =
      new_decides (After visit) boot kernel.tables visit.regs (lowest_free kernel.slots) (λ answer. cases.answered visit answer inside)
      (λ slot found bytes free lies fits. cases.comes visit slot found bytes inside free lies fits)

  decision_all : (visit : Visit) (call : Call) → ComesIn kernel cpu visit → AllOf (After visit) (decision_of boot kernel visit.regs call)
  decision_all visit (Fast call) inside = cases.answered visit (fast_answer_of call visit.regs boot.threads) inside
  decision_all visit WithArg inside = new_all visit inside
  decision_all visit WithRpcArg inside = new_all visit inside
  decision_all visit WithRegdArg inside = new_all visit inside
  decision_all visit Resume inside = resume_all visit (call_resumed_by kernel.slots visit.regs) inside refl
  decision_all visit Unknown inside = cases.answered visit unknown_function inside

  entered : (next : Kernel) (visit : Visit) (reads : List Read) → ComesIn kernel cpu visit → after_entry boot kernel visit reads ≡ Some next → P next
  entered next visit reads inside e =
      let found = decides_all (After visit) boot kernel next visit reads (decision_all visit (call_of (reg visit.regs 0)) inside) e in
      subst P found.gives found.holds

  enters : (next : Kernel) (visit : Visit) (reads : List Read) (processor : Processor) (granted : Bool) → visit.cpu ≡ cpu
      → slice_get kernel.processors visit.cpu ≡ Some processor → can_be_granted visit.steps ≡ granted
      → (if is_outside processor && granted then after_entry boot kernel visit reads else None) ≡ Some next → P next
  enters next visit reads Outside true its there can e = entered next visit reads (record { its = its; outside = there; granted = can }) e
  enters next visit reads Outside false its there can e = absurd cc
  enters next visit reads (Inside regs steps errand) granted its there can e = absurd cc

-- ---- exits

module _ (boot : Booted) (kernel : Kernel) (cpu : ℕ) (P : Kernel → Type 0) (cases : LeaveCases boot kernel cpu P) where
  held_exit : (visit : Visit) (slot : ℕ) (held : ThreadSlot) (progress : Progress) → visit.cpu ≡ cpu
      → slice_get kernel.processors visit.cpu ≡ Some (Inside visit.regs visit.steps (InSlot slot)) → slice_get kernel.slots slot ≡ Some held
      → progress_held kernel.tables visit.steps held ≡ Some progress → P (goes_out_from kernel visit slot progress).kernel
  held_exit visit slot Free progress its inside there e = absurd cc
  held_exit visit slot (Active worker call) progress its inside there e = cases.goes visit slot worker call progress its inside there e
  held_exit visit slot (Suspended client call) progress its inside there e = absurd cc

  slot_exit : (visit : Visit) (slot : ℕ) (exited : Exited) → visit.cpu ≡ cpu
      → slice_get kernel.processors visit.cpu ≡ Some (Inside visit.regs visit.steps (InSlot slot))
      → option_map (goes_out_from kernel visit slot) (progress_in_slot kernel visit.steps slot) ≡ Some exited → P exited.kernel
  slot_exit visit slot exited its inside e =
      let came = option_map_some (goes_out_from kernel visit slot) (progress_in_slot kernel visit.steps slot) exited e in
      subst (λ (x : Exited). P x.kernel) came.2
      (option_and_then_some (progress_held kernel.tables visit.steps) (slice_get kernel.slots slot) came.0 came.1
      (λ held there onward. held_exit visit slot held came.0 its inside there onward))

  exited_all : (processor : Option Processor) (exited : Exited) → slice_get kernel.processors cpu ≡ processor
      → option_and_then (exit_of kernel cpu) processor ≡ Some exited → P exited.kernel
  exited_all None exited there e = absurd cc
  exited_all (Some Outside) exited there e = absurd cc
  exited_all (Some (Inside regs steps (Fixed answer))) exited there e =
      let visit : Visit = record { cpu = cpu; regs = regs; steps = steps } in
      let made : Exited = goes_out kernel visit answer [] in
      let same : made ≡ exited = cc in
      subst (λ (x : Exited). P x.kernel) same (cases.told visit answer refl there)
  exited_all (Some (Inside regs steps (InSlot slot))) exited there e =
      slot_exit (record { cpu = cpu; regs = regs; steps = steps }) slot exited refl there e

  exits : (next : Kernel) (exited : Exited) (same : Bool) → P exited.kernel → (if same then Some exited.kernel else None) ≡ Some next → P next
  exits next exited true holds e = let is : exited.kernel ≡ next = cc in subst P is holds
  exits next exited false holds e = absurd cc

-- it holds after an entry where it holds after each kind of entry of its processor
pub after_entry_of : (boot : Booted) (kernel next : Kernel) (P : Kernel → Type 0) (cpu steps : ℕ) (regs : Regs) (reads : List Read)
    → EntryCases boot kernel cpu P → after_event boot kernel (event.Entry cpu regs steps reads) ≡ Some next → P next
after_entry_of boot kernel next P cpu steps regs reads cases e =
    let visit : Visit = record { cpu = cpu; regs = regs.a; steps = steps } in
    option_and_then_some (entry_from boot kernel visit reads) (slice_get kernel.processors cpu) next e
    (λ (processor : Processor) there onward. enters boot kernel cpu P cases next visit reads processor (can_be_granted steps) refl there refl onward)

-- and so after an exit
pub after_exit_of : (boot : Booted) (kernel next : Kernel) (P : Kernel → Type 0) (cpu : ℕ) (regs : Regs) → LeaveCases boot kernel cpu P
    → after_event boot kernel (event.Exit cpu regs) ≡ Some next → P next
after_exit_of boot kernel next P cpu regs cases e =
    option_and_then_some (exit_to regs.a) (exit kernel cpu) next e
    (λ (exited : Exited) there onward.
    exits boot kernel cpu P cases next exited (bytes_eq exited.regs regs.a)
    (exited_all boot kernel cpu P cases (slice_get kernel.processors cpu) exited refl there) onward)

-- it holds after an event where it holds after each kind of event of its processor
pub after_one : (boot : Booted) (kernel next : Kernel) (P : Kernel → Type 0) (happened : Event) → EventCases boot kernel (cpu_of happened) P
    → after_event boot kernel happened ≡ Some next → P next
after_one boot kernel next P (event.Entry cpu regs steps reads) cases e =
    after_entry_of boot kernel next P cpu steps regs reads (entries_of boot kernel cpu P cases) e
after_one boot kernel next P (event.Exit cpu regs) cases e = after_exit_of boot kernel next P cpu regs (exits_of boot kernel cpu P cases) e

-- something that follows holds too
pub events_onward : (boot : Booted) (kernel : Kernel) (cpu : ℕ) (P Q : Kernel → Type 0) → ((next : Kernel) → P next → Q next) → EventCases boot kernel cpu P
    → EventCases boot kernel cpu Q
events_onward boot kernel cpu P Q onward cases = record {
  answered = λ visit answer inside. onward _ (cases.answered visit answer inside);
  comes = λ visit slot found bytes inside free lies fits.
      cases_onward _ (λ taken. P (after_decision kernel visit (Takes slot taken))) _ (λ taken. onward _) (cases.comes visit slot found bytes inside free lies fits);
  resumes = λ visit call given inside there offered. onward _ (cases.resumes visit call given inside there offered);
  told = λ visit answer its fixed. onward _ (cases.told visit answer its fixed);
  goes = λ visit slot worker call progress its inside there e. onward _ (cases.goes visit slot worker call progress its inside there e);
}

-- ---- histories

-- it holds at first, and after each event where it held before it
pub record Keeps (boot : Booted) (I : ℕ → Kernel → Type 0) : Type 0 where
  pub first : I 0 (first_kernel boot)
  pub onward : (events : ℕ) (kernel : Kernel) (cpu : ℕ) → I events kernel → EventCases boot kernel cpu (I (events + 1))

later : (boot : Booted) (I : ℕ → Kernel → Type 0) → Keeps boot I → (done_before : ℕ) (kernel last : Kernel) (events : List Event)
    → I done_before kernel → after_events boot kernel events ≡ Some last → I (done_before + length events) last
later boot I keeps count kernel last [] holds e =
    let is : kernel ≡ last = cc in
    let none : count ≡ count + 0 = omega arith in
    subst (λ (n : ℕ). I n last) none (subst (I count) is holds)
later boot I keeps count kernel last (happened ∷ events) holds e =
    option_and_then_some (λ k. after_events boot k events) (after_event boot kernel happened) last e
    (λ (next : Kernel) there onward.
    let one : (count + 1) + length events ≡ count + suc (length events) = omega arith in
    subst (λ (n : ℕ). I n last) one
    (later boot I keeps (count + 1) next last events
    (after_one boot kernel next (I (count + 1)) happened (keeps.onward count kernel (cpu_of happened) holds) there) onward))

-- it holds of each kernel that a legal history comes to
pub holds_after : (boot : Booted) (I : ℕ → Kernel → Type 0) → Keeps boot I → (history : List Event) (kernel : Kernel)
    → kernel_after boot history ≡ Some kernel → I (length history) kernel
holds_after boot I keeps history kernel e =
    let none : 0 + length history ≡ length history = omega arith in
    subst (λ (n : ℕ). I n kernel) none (later boot I keeps 0 (first_kernel boot) kernel history keeps.first e)

along : (boot : Booted) (I : Kernel → Type 0)
    → ((before : List Event) (kernel : Kernel) (cpu : ℕ) → kernel_after boot before ≡ Some kernel → I kernel → EventCases boot kernel cpu I)
    → (before : List Event) (kernel last : Kernel) (events : List Event) → kernel_after boot before ≡ Some kernel → I kernel
    → after_events boot kernel events ≡ Some last → I last
along boot I onward before kernel last [] there holds e =
    let is : kernel ≡ last = cc in
    subst I is holds
along boot I onward before kernel last (happened ∷ events) there holds e =
    option_and_then_some (λ k. after_events boot k events) (after_event boot kernel happened) last e
    (λ (next : Kernel) came rest.
    let once : kernel_after boot (before ++ happened ∷ []) ≡ Some next =
    after_events-append boot (first_kernel boot) before (happened ∷ [])
    ∙ ap (λ (o : Option Kernel). option_and_then (λ k. after_events boot k (happened ∷ [])) o) there
    ∙ ap (λ (o : Option Kernel). option_and_then (λ k. after_events boot k []) o) came in
    along boot I onward (before ++ happened ∷ []) next last events once
    (after_one boot kernel next I happened (onward before kernel (cpu_of happened) there holds) came) rest)

-- the same, where what else is known of a kernel that a history comes to helps
pub holds_along : (boot : Booted) (I : Kernel → Type 0) → I (first_kernel boot)
    → ((before : List Event) (kernel : Kernel) (cpu : ℕ) → kernel_after boot before ≡ Some kernel → I kernel → EventCases boot kernel cpu I)
    → (history : List Event) (kernel : Kernel) → kernel_after boot history ≡ Some kernel → I kernel
holds_along boot I first onward history kernel e = along boot I onward [] (first_kernel boot) kernel history refl first e
