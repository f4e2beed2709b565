-- What is decided on a resume is what the kernel decides; and the call that it is for stands in its slot and, where it
-- waits, in line.
use Rattle.std.proofs.Common.{◌≡◌, ℕ, Bool, true, false, List, Option, Some, None, refl, sym, ◌∙◌, ap, subst, arith, ◌==◌, ◌<◌}
use Rattle.std.specs.Prelude.{IsSome, IsSomeAnd, Ok, Err, if◌then◌else◌, length, slice_get}
use Rattle.std.specs.Global.{Box}
use Rattle.std.specs.Option.{option_and_then, option_map_or}
use Rattle.std.proofs.lemmas.Bool.Decides.{nat_tests}
use Rattle.base.proofs.MapLemmas.{All-get}
use Rattle.base.specs.NumberMap.{get}
use Rattle.job_model.specs.declared.call_kind.CallKind.{CallKind}
use Rattle.job_model.specs.declared.call_kind.CallKind.TheVariants as kind
use Rattle.kernel_model.specs.Application.{Booted}
use Rattle.kernel_model.specs.Argument.{client_in, thread_in}
use Rattle.kernel_model.specs.Codes.{eresume}
use Rattle.kernel_model.specs.Decision.{Answers, Takes, works_on}
use Rattle.kernel_model.specs.Given.{Given, given_to}
use Rattle.kernel_model.specs.Kernel as model
use Rattle.kernel_model.specs.Kernel.{CallPhase, Waits, Instance, Kernel, PendingCall, Progress, Tables, ThreadSlot}
use Rattle.kernel_model.specs.Resume.{call_resumed_by, onward_of, resume, resume_call, resumed_call, suspended_for, takes_call}
use Rattle.kernel_model.specs.Sound.{Calls, unmarked}
use Rattle.kernel_model.specs.SoundCalls.{AreJoined, Fits, HasSession}
use Rattle.kernel_model.specs.SoundMemory.{AreInMemory, IsInMemory, KeepsMemory, memory_of}
use Rattle.kernel_model.specs.SoundNumbers.{is_on_instance}
use Rattle.kernel_model.specs.SoundOrder.{AreInOrder}
use Rattle.kernel_model.specs.SoundWaiters.{AreWaiters, awaited, awaited_in}
use Rattle.kernel_state.specs.Calls.{IsCall}
use Rattle.kernel_state.specs.StandsFor.{AreSlots, IsBeside, IsSlotAt}
use Rattle.kernel_state.specs.declared.cancellation.Cancellation.{Cancellation}
use Rattle.ns_ram.proofs.ReaderLaws.{over_lane-bind}
use Rattle.ns_ram.specs.Reader.{Reader, done, over_lane}
use Rattle.ns_ram.specs.declared.read.Read.{Read}
use Rattle.rpc_cont.specs.declared.cont.Cont.{Cont}
use Rattle.session_table.specs.Waiters.{waits}
use Rattle.session_table.specs.declared.session.Session.{Session}
use Rattle.ta_params.specs.declared.copied_params.CopiedParams.{CopiedParams}
use Rattle.thread_slots.specs.Slot.{resumed_from}
use Rattle.thread_slots.specs.declared.bad_resume.BadResume.TheVariants.{OtherClient}
use Rattle.thread_slots.specs.declared.slot.Slot.{Slot}
use Rattle.thread_slots.specs.declared.slot.Slot.TheVariants.{Free, Active, Suspended}
use Rattle.resumed_calls.specs.Deciding.{IsDecided, IsDecidedFor}
use Rattle.resumed_calls.specs.Giving.{given_as}
use Rattle.resumed_calls.specs.Waiting.{IsOwnInstance, WaitsInLine}
use Rattle.resumed_calls.specs.declared.deciding.Decided.{Decided}

-- ---- the kernel's decision

pub decision_refused : (boot : Booted) (kernel : Kernel) (regs lane : List ℕ) (before after : List Read) →
    IsDecided kernel.slots regs lane before None after → over_lane (resume boot kernel regs) lane before ≡ Some (Answers eresume, after)
decision_refused boot kernel regs lane before after is =
    ap (λ (call : Option PendingCall). over_lane (option_map_or (takes_call boot kernel.tables regs) call (done (Answers eresume))) lane before) is.0
    ∙ ap (λ (reads : List Read). Some (Answers eresume, reads)) (sym is.1)

-- the call that a resume goes on with, and what the kernel decides
pub record Continues (boot : Booted) (kernel : Kernel) (regs lane : List ℕ) (before : List Read) (decided : Decided) (after : List Read) : Type 0 where
  pub call : PendingCall
  pub found : call_resumed_by kernel.slots regs ≡ Some call
  pub decides : IsDecidedFor regs lane before decided after call
  pub takes : over_lane (resume boot kernel regs) lane before
      ≡ Some (Takes (thread_in regs) (works_on (onward_of (resumed_call boot kernel.tables (thread_in regs) call (given_as decided.given)))), after)

comes_to : (boot : Booted) (tables : Tables) (regs lane : List ℕ) (call : PendingCall) (given : Given) (before after : List Read) →
    over_lane (given_to regs (thread_in regs) call) lane before ≡ Some (given, after) →
    over_lane (resume_call boot tables regs call) lane before ≡ Some (onward_of (resumed_call boot tables (thread_in regs) call given), after)
comes_to boot tables regs lane call given before after is =
    let onward : Given → Reader Progress = λ (given : Given). done (onward_of (resumed_call boot tables (thread_in regs) call given)) in
    over_lane-bind (given_to regs (thread_in regs) call) onward lane before
    ∙ ap (option_and_then (λ (step : Given × List Read). over_lane (onward step.0) lane step.1)) is

takes_it : (boot : Booted) (tables : Tables) (regs lane : List ℕ) (call : PendingCall) (given : Given) (before after : List Read) →
    over_lane (given_to regs (thread_in regs) call) lane before ≡ Some (given, after) →
    over_lane (takes_call boot tables regs call) lane before
    ≡ Some (Takes (thread_in regs) (works_on (onward_of (resumed_call boot tables (thread_in regs) call given))), after)
takes_it boot tables regs lane call given before after is =
    let onward : Progress → Reader _ = λ (progress : Progress). done (Takes (thread_in regs) (works_on progress)) in
    over_lane-bind (resume_call boot tables regs call) onward lane before
    ∙ ap (option_and_then (λ (step : Progress × List Read). over_lane (onward step.0) lane step.1)) (comes_to boot tables regs lane call given before after is)

decided_for : (boot : Booted) (kernel : Kernel) (regs lane : List ℕ) (before : List Read) (decided : Decided) (after : List Read) (found : Option PendingCall) →
    call_resumed_by kernel.slots regs ≡ found → IsSomeAnd found (IsDecidedFor regs lane before decided after) → Continues boot kernel regs lane before decided after
decided_for boot kernel regs lane before decided after None is decides = absurd decides
decided_for boot kernel regs lane before decided after (Some call) is decides = record {
  call = call;
  found = is;
  decides = decides;
  takes =
      ap (λ (call : Option PendingCall). over_lane (option_map_or (takes_call boot kernel.tables regs) call (done (Answers eresume))) lane before) is
      ∙ takes_it boot kernel.tables regs lane call (given_as decided.given) before after decides;
}

pub decision_taken : (boot : Booted) (kernel : Kernel) (regs lane : List ℕ) (before : List Read) (decided : Decided) (after : List Read) →
    IsDecided kernel.slots regs lane before (Some decided) after → Continues boot kernel regs lane before decided after
decision_taken boot kernel regs lane before decided after is =
    decided_for boot kernel regs lane before decided after (call_resumed_by kernel.slots regs) refl is

-- ---- its slot

-- the call of a kernel's slot that a client resumes, what stands for it, and what stands beside it
pub record IsResumed (slot : Option (Slot (Box (Cont (List ℕ))))) (beside : Option Cancellation) (held : Option ThreadSlot) (client : ℕ) (call : PendingCall) : Type 0 where
  pub cont : Box (Cont (List ℕ))
  pub resumes : resumed_from slot client ≡ Ok cont
  pub is : IsCall cont.value call
  pub suspended : held ≡ Some (model.Suspended client call)
  pub cancellation : Cancellation
  pub there : beside ≡ Some cancellation
  pub fits : IsBeside cancellation call

same_client : (a b : ℕ) → (a == b) ≡ true → a ≡ b
same_client a b same = grind (arith, nat_tests)

client_same : (a b : ℕ) → a ≡ b → (a == b) ≡ true
client_same a b same = grind (arith, nat_tests)

by_client : (kept owner client : ℕ) (mine : Bool) (cont : Box (Cont (List ℕ))) (cancellation : Cancellation) (one call : PendingCall) → (owner == client) ≡ mine → kept ≡ owner →
    IsBeside cancellation one → IsCall cont.value one → (if mine then Some one else None) ≡ Some call →
    IsResumed (Some (Suspended kept cont)) (Some cancellation) (Some (model.Suspended owner one)) client call
by_client kept owner client false cont cancellation one call test owns fits is found = absurd cc
by_client kept owner client true cont cancellation one call test owns fits is found =
    let same : one ≡ call = cc in
    let by : owner ≡ client = same_client owner client test in
    record {
      cont = cont;
      resumes =
          ap (λ (mine : Bool). if mine then Ok cont else Err (OtherClient kept)) (client_same kept client (owns ∙ by));
      is = subst (IsCall cont.value) same is;
      suspended = ap (λ (client : ℕ). Some (model.Suspended client one)) by ∙ ap (λ (call : PendingCall). Some (model.Suspended client call)) same;
      cancellation = cancellation;
      there = refl;
      fits = subst (IsBeside cancellation) same fits;
    }

resumed_at : (client : ℕ) (slot : Option (Slot (Box (Cont (List ℕ))))) (beside : Option Cancellation) (held : Option ThreadSlot) (call : PendingCall) →
    IsSlotAt slot beside held → suspended_for client held ≡ Some call → IsResumed slot beside held client call
resumed_at client None None None call is found = absurd cc
resumed_at client None None (Some held) call is found = absurd is
resumed_at client None (Some beside) held call is found = absurd is
resumed_at client (Some slot) None held call is found = absurd is
resumed_at client (Some slot) (Some beside) None call is found = absurd is
resumed_at client (Some Free) (Some beside) (Some model.Free) call is found = absurd cc
resumed_at client (Some Free) (Some beside) (Some (model.Active cpu one)) call is found = absurd is
resumed_at client (Some Free) (Some beside) (Some (model.Suspended owner one)) call is found = absurd is
resumed_at client (Some (Active cpu)) (Some beside) (Some model.Free) call is found = absurd is
resumed_at client (Some (Active cpu)) (Some beside) (Some (model.Active worker one)) call is found = absurd cc
resumed_at client (Some (Active cpu)) (Some beside) (Some (model.Suspended owner one)) call is found = absurd is
resumed_at client (Some (Suspended kept cont)) (Some beside) (Some model.Free) call is found = absurd is
resumed_at client (Some (Suspended kept cont)) (Some beside) (Some (model.Active worker one)) call is found = absurd is
resumed_at client (Some (Suspended kept cont)) (Some beside) (Some (model.Suspended owner one)) call is found =
    by_client kept owner client (owner == client) cont beside one call refl is.0 is.1 is.2 found

pub slot_resumed : (slots : List (Slot (Box (Cont (List ℕ))))) (beside : List Cancellation) (held : List ThreadSlot) (regs : List ℕ) (call : PendingCall) →
    AreSlots slots beside held → call_resumed_by held regs ≡ Some call →
    IsResumed (slice_get slots (thread_in regs)) (slice_get beside (thread_in regs)) (slice_get held (thread_in regs)) (client_in regs) call
slot_resumed slots beside held regs call are found =
    resumed_at (client_in regs) (slice_get slots (thread_in regs)) (slice_get beside (thread_in regs)) (slice_get held (thread_in regs)) call (are (thread_in regs)) found

-- ---- its place in the line

awaits : (calls : Calls) (slot : ℕ) (call : PendingCall) (params : CopiedParams) → calls slot ≡ Some (unmarked call) → call.phase ≡ Waits params → IsSome (awaited (calls slot))
awaits calls slot call params is waits =
    subst (λ (one : Option PendingCall). IsSome (awaited one)) (sym is)
    (subst (λ (phase : CallPhase). IsSome (awaited_in phase (call.instance, call.uuid))) (sym waits) refl)

-- one that waits wasn't settled at its entry
on_instance : (tables : Tables) (slot : ℕ) (call : PendingCall) (params : CopiedParams) → Fits tables slot (unmarked call) → call.phase ≡ Waits params → is_on_instance call.kind ≡ true
on_instance tables slot call params fits waits = fits.instance.settled (rw waits refl)

same_session : (found : Option Session) (session : Session) (call : PendingCall) (opened : Bool) → found ≡ Some session → HasSession found call opened → session.instance ≡ call.instance
same_session found session call opened is has =
    let same : session ≡ has.session = cc (is, has.kept) in ap (λ (one : Session). one.instance) same ∙ has.instance

its_session : (tables : Tables) (slot : ℕ) (call : PendingCall) (params : CopiedParams) (of_kind : CallKind) → call.kind ≡ of_kind → Fits tables slot (unmarked call) → call.phase ≡ Waits params →
    (session : Session) → get tables.sessions call.session ≡ Some session → session.instance ≡ call.instance
its_session tables slot call params kind.Open is fits waits session found =
    same_session (get tables.sessions call.session) session (unmarked call) false found (fits.session.opening is (rw waits refl))
its_session tables slot call params (kind.Invoke func) is fits waits session found =
    same_session (get tables.sessions call.session) session (unmarked call) true found (fits.session.still session (rw is refl) found)
its_session tables slot call params kind.Close is fits waits session found =
    same_session (get tables.sessions call.session) session (unmarked call) true found (fits.session.still session (rw is refl) found)
its_session tables slot call params kind.Settled is fits waits session found =
    let on : is_on_instance call.kind ≡ true = on_instance tables slot call params fits waits in
    let off : is_on_instance call.kind ≡ false = rw is refl in
    absurd cc

its_pages : (boot : Booted) (instance : Instance) (holder : Option ℕ) (dead : Bool) → instance.holder ≡ holder → instance.dead ≡ dead → KeepsMemory boot instance holder →
    holder ≡ None → dead ≡ false → length instance.memory ≡ memory_of boot instance
its_pages boot instance None dead held is keeps free alive = keeps
its_pages boot instance (Some slot) dead held is keeps free alive = absurd cc

own_instance : (boot : Booted) (tables : Tables) (slot : ℕ) (call : PendingCall) (params : CopiedParams) (calls : Calls) → Fits tables slot (unmarked call) → call.phase ≡ Waits params →
    AreInMemory boot calls tables → (instance : Instance) → get tables.instances call.instance ≡ Some instance → IsOwnInstance boot call.uuid instance
own_instance boot tables slot call params calls fits waits memory instance found =
    let within = All-get (λ (kept : ℕ × Instance). IsInMemory boot kept.1) tables.instances call.instance instance memory.instances found in
    record {
      same = fits.instance.application instance (on_instance tables slot call params fits waits) found;
      app = within.application;
      pages = λ free alive.
          its_pages boot instance instance.holder instance.dead refl refl within.memory free alive ∙ rw alive refl;
    }

-- the call of a slot that waits stands in line, in every kernel that a legal history comes to
pub waits_in_line : (boot : Booted) (calls : Calls) (tables : Tables) (slot : ℕ) (call : PendingCall) (params : CopiedParams) →
    calls slot ≡ Some (unmarked call) → call.phase ≡ Waits params → AreWaiters calls tables.waiters → AreInOrder tables → AreJoined calls tables → AreInMemory boot calls tables →
    (call.kind ≡ kind.Open → get tables.instances call.instance ≡ None → length tables.instances < 80) → WaitsInLine boot tables slot call
waits_in_line boot calls tables slot call params is waits waiters order joined memory room =
    let fits = joined.each slot (unmarked call) is in
    record {
      waits = waiters.all slot (awaits calls slot call params is waits);
      sessions = order.sessions.rising;
      instances = order.instances;
      session = its_session tables slot call params call.kind refl fits waits;
      instance = own_instance boot tables slot call params calls fits waits memory;
      room = room;
    }
