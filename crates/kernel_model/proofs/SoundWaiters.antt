-- The waiters are the calls that wait, after each event of a legal history.
use Rattle.std.proofs.Common.{◌≡◌, ℕ, Bool, true, false, cond, not, ◌||◌, List, [], ◌∷◌, ◌++◌, Option, Some, None, refl, ap, subst, sym, ◌∙◌, arith}
use Rattle.std.specs.Prelude.{All, AllPairs, IsSome, ◌==◌, filter, slice_get, slice_set}
use Rattle.std.specs.Option.{option_and_then}
use Rattle.std.proofs.lemmas.Bool.Decides.{Decides-eqb, nat_tests}
use Rattle.std.proofs.lemmas.List.Elements.{All-cons, All-head, All-nil, All-push, All-tail, All-weaker}
use Rattle.std.proofs.lemmas.List.Folds.{list_any_at}
use Rattle.std.proofs.lemmas.List.Kept.{AllPairs-filter}
use Rattle.std.proofs.lemmas.List.Quantifiers.{all_pairs_push}
use Rattle.event_journal.specs.declared.event.Event.{Event}
use Rattle.job_model.specs.Job.{Job}
use Rattle.job_model.specs.Steps.{Advance, Goes, Stops}
use Rattle.job_model.specs.Steps as steps
use Rattle.rpc_msgs.specs.declared.rpc.Rpc.{Rpc}
use Rattle.session_table.specs.declared.waiters.Waiter.{Waiter}
use Rattle.session_table.specs.Waiters.{waits, without}
use Rattle.kernel_model.specs.Application.{Booted}
use Rattle.kernel_model.specs.Argument.{client_in, thread_in}
use Rattle.kernel_model.specs.Decision.{Taken, Takes}
use Rattle.kernel_model.specs.Entry.{after_decision}
use Rattle.kernel_model.specs.Exit.{progress_of, tables_left}
use Rattle.kernel_model.specs.Given.{Buffer, Given, NoBuffer, Nothing, Reply, call_given}
use Rattle.kernel_model.specs.History.{kernel_after}
use Rattle.kernel_model.specs.Kernel.{Active, Asks, CallPhase, Ends, Free, Kernel, PendingCall, Progress, Runs, Suspended, Tables, ThreadSlot, Waits, first_kernel}
use Rattle.kernel_model.specs.NewCall.{NewCall, new_call_of}
use Rattle.kernel_model.specs.Resume.{Resumed, onward_of, phase_after, phase_seen, resumed_call, sees}
use Rattle.kernel_model.specs.Sound.{Always, Calls, unmarked_at, unmarked_in, unmarked}
use Rattle.kernel_model.specs.SoundWaiters.{AreWaiters, Awaited, IsWaiter, awaited, awaited_in}
use Rattle.kernel_model.proofs.Parts.{if-both}
use Rattle.kernel_model.proofs.SoundEvents.{EventCases, holds_after, resumed_taken}
use Rattle.kernel_model.proofs.SoundExits.{exits_all, left_all, unbuffered}
use Rattle.kernel_model.proofs.SoundNewCalls.{NewCases, cases_onward}
use Rattle.kernel_model.proofs.SoundResumes.{resumes_all}
use Rattle.kernel_model.proofs.SoundSlots.{Changes, by_number, free_there, leaves_slot, none_at_first, takes_slot}

-- ---- lists of waiters

is_same : (a b : ℕ) → a ≡ b → (a == b) ≡ true
is_same a b same = grind (arith, nat_tests)

differ : (a b : ℕ) → (a ≡ b → ⊥) → (a == b) ≡ false
differ a b apart = by_test (a == b) refl
  where
    by_test : (test : Bool) → (a == b) ≡ test → test ≡ false
    by_test true e = absurd (apart ((Decides-eqb a b).0 e))
    by_test false e = refl

not_both : true ≡ false → ⊥
not_both e = cc

none_some : {A : Type 0} (o : Option A) (a : A) → o ≡ None → o ≡ Some a → ⊥
none_some o a none some = different (sym none ∙ some)
  where
    different : None ≡ Some a → ⊥
    different e = cc

waits_behind : (waiters : List Waiter) (last : Waiter) (slot : ℕ) → waits waiters slot ≡ true → waits (waiters ++ last ∷ []) slot ≡ true
waits_behind [] last slot e = absurd cc
waits_behind (first ∷ waiters) last slot e = by_test (first.slot == slot) (waits_behind waiters last slot) e
  where
    by_test : (test : Bool) → (waits waiters slot ≡ true → waits (waiters ++ last ∷ []) slot ≡ true) → (test || waits waiters slot) ≡ true
        → (test || waits (waiters ++ last ∷ []) slot) ≡ true
    by_test true rest e = refl
    by_test false rest e = rest e

last_waits : (waiters : List Waiter) (last : Waiter) → waits (waiters ++ last ∷ []) last.slot ≡ true
last_waits [] last = ap (λ (b : Bool). b || false) (is_same last.slot last.slot refl)
last_waits (first ∷ waiters) last = by_test (first.slot == last.slot) (last_waits waiters last)
  where
    by_test : (test : Bool) → waits (waiters ++ last ∷ []) last.slot ≡ true → (test || waits (waiters ++ last ∷ []) last.slot) ≡ true
    by_test true rest = refl
    by_test false rest = rest

still_waits : (waiters : List Waiter) (slot other : ℕ) → (slot ≡ other → ⊥) → waits waiters other ≡ true → waits (without waiters slot) other ≡ true
still_waits [] slot other apart e = e
still_waits (first ∷ waiters) slot other apart e =
    by_tests (first.slot == slot) (first.slot == other) refl refl (still_waits waiters slot other apart) e
  where
    by_tests : (gone here : Bool) → (first.slot == slot) ≡ gone → (first.slot == other) ≡ here
        → (waits waiters other ≡ true → waits (without waiters slot) other ≡ true) → (here || waits waiters other) ≡ true
        → waits (cond (not gone) (first ∷ without waiters slot) (without waiters slot)) other ≡ true
    by_tests true true is its rest e = absurd (apart (sym ((Decides-eqb first.slot slot).0 is) ∙ (Decides-eqb first.slot other).0 its))
    by_tests true false is its rest e = rest e
    by_tests false true is its rest e = ap (λ (b : Bool). b || waits (without waiters slot) other) its
    by_tests false false is its rest e = ap (λ (b : Bool). b || waits (without waiters slot) other) its ∙ rest e

filtered : {X : Type 0} (P : X → Type 0) (test : X → Bool) (xs : List X) → All P xs → All (λ x. P x × (test x ≡ true)) (filter test xs)
filtered P test [] all = All-nil (λ x. P x × (test x ≡ true))
filtered {X} P test (first ∷ xs) all = by_test (test first) refl (All-head P first xs all) (filtered P test xs (All-tail P first xs all))
  where
    by_test : (passes : Bool) → test first ≡ passes → P first → All (λ x. P x × (test x ≡ true)) (filter test xs)
        → All (λ x. P x × (test x ≡ true)) (cond passes (first ∷ filter test xs) (filter test xs))
    by_test true is holds rest = All-cons (λ x. P x × (test x ≡ true)) first (filter test xs) (holds, is) rest
    by_test false is holds rest = rest

nobody_waits : (calls : Calls) (waiters : List Waiter) (slot : ℕ) → All (IsWaiter calls) waiters → awaited (calls slot) ≡ None → waits waiters slot ≡ false
nobody_waits calls [] slot all none = refl
nobody_waits calls (first ∷ waiters) slot all none =
    let apart : first.slot ≡ slot → ⊥ = λ same. none_some (awaited (calls slot)) _ none
    (ap (λ (n : ℕ). awaited (calls n)) (sym same) ∙ All-head (IsWaiter calls) first waiters all) in
    ap (λ (b : Bool). b || waits waiters slot) (differ first.slot slot apart)
    ∙ nobody_waits calls waiters slot (All-tail (IsWaiter calls) first waiters all) none

-- ---- what a change of one call does

some_awaited : {A : Type 0} (one other : Option A) → one ≡ other → IsSome one → IsSome other
some_awaited one other same some = subst IsSome same some

module _ (before after : Calls) (waiters : List Waiter) (slot : ℕ) (now : Option PendingCall) (changes : Changes before after slot now)
    (sound : AreWaiters before waiters) where
  -- it waits for what the call there waited for before, or neither waits
  waits_as_before : awaited now ≡ awaited (before slot) → AreWaiters after waiters
  waits_as_before same = record {
    each = All-weaker (IsWaiter before) (IsWaiter after) (λ waiter is. at waiter.slot ∙ is) waiters sound.each;
    apart = sound.apart;
    all = λ other some. sound.all other (some_awaited (awaited (after other)) (awaited (before other)) (at other) some);
  }
    where
      at : (other : ℕ) → awaited (after other) ≡ awaited (before other)
      at other = by_number slot other
          (λ is. ap (λ (n : ℕ). awaited (after n)) (sym is) ∙ ap awaited changes.here ∙ same ∙ ap (λ (n : ℕ). awaited (before n)) is)
          (λ apart. ap awaited (changes.others other apart))

  -- it begins to wait
  waits_now : (last : Waiter) → last.slot ≡ slot → awaited (before slot) ≡ None → awaited now ≡ Some (last.instance, Some last.uuid)
      → AreWaiters after (waiters ++ last ∷ [])
  waits_now last its none wanted = record {
    each = All-push (IsWaiter after) waiters last
        (All-weaker (IsWaiter before) (IsWaiter after) (λ waiter is.
        let apart : slot ≡ waiter.slot → ⊥ = λ same. none_some (awaited (before slot)) _ none (ap (λ (n : ℕ). awaited (before n)) same ∙ is) in
        ap awaited (changes.others waiter.slot apart) ∙ is) waiters sound.each)
        (ap (λ (n : ℕ). awaited (after n)) its ∙ ap awaited changes.here ∙ wanted);
    apart = all_pairs_push (λ (earlier : Waiter) (later : Waiter). earlier.slot ≡ later.slot → ⊥) waiters last sound.apart (λ k d inside same.
        let taken = list_any_at (λ (w : Waiter). w.slot == last.slot) waiters k d inside (is_same _ last.slot same) in
        not_both (sym taken ∙ ap (λ (n : ℕ). waits waiters n) its ∙ nobody_waits before waiters slot sound.each none));
    all = λ other some. by_number slot other
        (λ same. subst (λ (n : ℕ). waits (waiters ++ last ∷ []) n ≡ true) (its ∙ same) (last_waits waiters last))
        (λ apart. waits_behind waiters last other (sound.all other (some_awaited (awaited (after other)) (awaited (before other)) (ap awaited (changes.others other apart)) some)));
  }

  -- it doesn't wait any more
  waits_no_more : awaited now ≡ None → AreWaiters after (without waiters slot)
  waits_no_more none = record {
    each = All-weaker (λ (w : Waiter). IsWaiter before w × (not (w.slot == slot) ≡ true)) (IsWaiter after) (λ waiter is.
        ap awaited (changes.others waiter.slot (elsewhere waiter is.1)) ∙ is.0)
        (without waiters slot) (filtered (IsWaiter before) (λ (w : Waiter). not (w.slot == slot)) waiters sound.each);
    apart = AllPairs-filter (λ (earlier : Waiter) (later : Waiter). earlier.slot ≡ later.slot → ⊥) (λ (w : Waiter). not (w.slot == slot)) waiters sound.apart;
    all = λ other some. by_number slot other
        (λ same. absurd (no_some (awaited (after other)) (ap (λ (n : ℕ). awaited (after n)) (sym same) ∙ ap awaited changes.here ∙ none) some))
        (λ apart. still_waits waiters slot other apart
        (sound.all other (some_awaited (awaited (after other)) (awaited (before other)) (ap awaited (changes.others other apart)) some)));
  }
    where
      no_some : (o : Option Awaited) → o ≡ None → IsSome o → ⊥
      no_some None e some = cc
      no_some (Some a) e some = cc

      elsewhere : (waiter : Waiter) → not (waiter.slot == slot) ≡ true → slot ≡ waiter.slot → ⊥
      elsewhere waiter e same = not_both (sym e ∙ ap not (is_same waiter.slot slot (sym same)))

-- ---- new calls

abbrev NewWaiters : Calls → NewCall → Taken → Type 0
NewWaiters before c taken =
    (after : Calls) → Changes before after c.slot (Some (unmarked taken.call)) → AreWaiters after taken.tables.waiters

new_waiters : (before : Calls) (c : NewCall) → AreWaiters before c.tables.waiters → before c.slot ≡ None → NewCases c (NewWaiters before c)
new_waiters before c sound free = record {
  settles = λ code after changes. same after _ changes refl;
  settles_open = λ app login code after changes. same after _ changes refl;
  settles_invoke = λ named code is after changes. same after _ changes refl;
  cancels = λ named is after changes. same after _ changes refl;
  registers = λ param pages new room good after changes. same after _ changes refl;
  unregisters = λ param unpinned after changes. same after _ changes refl;
  opens_kept = λ wanted app copies copied kept shown shared free after changes. same after _ changes refl;
  opens_awaited = λ wanted app copies copied number shown shared awaited after changes. same after _ changes refl;
  opens_next = λ wanted app copies copied shown shared awaited after changes. same after _ changes refl;
  open_waits = λ wanted app copies copied kept shown shared held after changes.
      waits_now before after c.tables.waiters c.slot _ changes sound _ refl none refl;
  invokes = λ named copies copied is alive free after changes. same after _ changes refl;
  invoke_waits = λ named copies copied is alive held after changes. waits_now before after c.tables.waiters c.slot _ changes sound _ refl none refl;
  closes = λ named is free after changes. same after _ changes refl;
  close_waits = λ named is held after changes. waits_now before after c.tables.waiters c.slot _ changes sound _ refl none refl;
}
  where
    none : awaited (before c.slot) ≡ None
    none = ap awaited free

    same : (after : Calls) (call : PendingCall) → Changes before after c.slot (Some call) → awaited (Some call) ≡ None → AreWaiters after c.tables.waiters
    same after call changes idle = waits_as_before before after c.tables.waiters c.slot (Some call) changes sound (idle ∙ sym none)

-- ---- resumes

abbrev OnwardWaiters : Calls → ℕ → Progress → Type 0
OnwardWaiters before slot progress = (after : Calls) → Changes before after slot (Some (unmarked progress.call)) → AreWaiters after progress.tables.waiters

pub idle_after : (job : Job) (rpc : Rpc) (payload : List ℕ) (advance : Advance) (wanted : Awaited) → awaited_in (phase_after (Asks job rpc payload) advance) wanted ≡ None
idle_after job rpc payload (Goes next) wanted = refl
idle_after job rpc payload (Stops (steps.Asks asked bytes left)) wanted = refl
idle_after job rpc payload (Stops (steps.Ends end)) wanted = refl
idle_after job rpc payload (Stops (steps.Panics code)) wanted = refl

resumed_waiters : (before : Calls) (r : Resumed) → AreWaiters before r.tables.waiters → awaited (before r.slot) ≡ awaited (Some r.call)
    → OnwardWaiters before r.slot (onward_of r)
resumed_waiters before r sound its = resumes_all r (OnwardWaiters before r.slot) (record {
  runs = λ job is after changes. idle after _ changes (in_phase (Runs job) is) refl;
  asks_still = λ job rpc payload is after changes. idle after _ changes (in_phase (Asks job rpc payload) is) refl;
  answered = λ job rpc payload answer advance is e after changes.
      idle after _ changes (in_phase (Asks job rpc payload) is) (idle_after job rpc payload advance (r.call.instance, r.call.uuid));
  ends = λ result params told wakes left is after changes. idle after _ changes (in_phase (Ends result params told wakes) is) refl;
  fails = λ params code is after changes. waits_no_more before after r.tables.waiters r.slot _ changes sound refl;
  sleeps = λ params is after changes.
      waits_as_before before after r.tables.waiters r.slot _ changes sound (sym (its ∙ ap (λ (p : CallPhase). awaited_in p (r.call.instance, r.call.uuid)) is));
  opens = λ params session app instance ready alive opening is after changes. waits_no_more before after r.tables.waiters r.slot _ changes sound refl;
  opens_new = λ params session app awake none opening is pages after changes. waits_no_more before after r.tables.waiters r.slot _ changes sound refl;
  invokes = λ params session instance func ready alive is after changes. waits_no_more before after r.tables.waiters r.slot _ changes sound refl;
  closes = λ params session instance ready is after changes. waits_no_more before after r.tables.waiters r.slot _ changes sound refl;
})
  where
    in_phase : (phase : CallPhase) → r.call.phase ≡ phase → awaited (before r.slot) ≡ awaited_in phase (r.call.instance, r.call.uuid)
    in_phase phase is = its ∙ ap (λ (p : CallPhase). awaited_in p (r.call.instance, r.call.uuid)) is

    idle : (after : Calls) (call : PendingCall) → Changes before after r.slot (Some call) → awaited (before r.slot) ≡ None → awaited (Some call) ≡ None
        → AreWaiters after r.tables.waiters
    idle after call changes was now = waits_as_before before after r.tables.waiters r.slot (Some call) changes sound (now ∙ sym was)

seen_phase : (phase : CallPhase) (wanted : Awaited) → awaited_in (phase_seen phase) wanted ≡ awaited_in phase wanted
seen_phase (Runs job) wanted = refl
seen_phase (Asks job rpc payload) wanted = refl
seen_phase (Waits params) wanted = refl
seen_phase (Ends result params told wakes) wanted = refl

pub given_awaits : (given : Given) (call : PendingCall) → awaited (Some (call_given given call)) ≡ awaited (Some call)
given_awaits Nothing call = refl
given_awaits (Buffer buffer) call = refl
given_awaits NoBuffer call = refl
given_awaits (Reply reply) call = refl

pub sees_awaits : (call : PendingCall) → awaited (Some (sees call)) ≡ awaited (Some call)
sees_awaits call = if-both (λ (c : PendingCall). awaited (Some c) ≡ awaited (Some call)) call.marked _ call (seen_phase call.phase (call.instance, call.uuid)) refl

-- ---- exits

exit_awaits : (tables : Tables) (call : PendingCall) (granted : ℕ) (progress : Progress) → progress_of tables call granted ≡ Some progress
    → (awaited (Some progress.call) ≡ awaited (Some call)) × (progress.tables.waiters ≡ tables.waiters)
exit_awaits tables call granted progress e =
    exits_all tables call granted (λ (p : Progress). (awaited (Some p.call) ≡ awaited (Some call)) × (p.tables.waiters ≡ tables.waiters)) progress (record {
      left = λ job later is grant. (sym (in_phase (Runs job) is), refl);
      ends = λ job used end is grant. (sym (in_phase (Runs job) is), refl);
      panics = λ job used code is grant. (sym (in_phase (Runs job) is), refl);
      asks = λ job later used wanted payload is grant. (sym (in_phase (Runs job) is), refl);
      asked = λ job wanted payload is. (refl, refl);
      waits = λ params is. (refl, refl);
      told = λ result params wakes is. (refl, refl);
      tells = λ result params wakes is. (sym (in_phase (Ends result params false wakes) is), refl);
    }) e
  where
    in_phase : (phase : CallPhase) → call.phase ≡ phase → awaited (Some call) ≡ awaited_in phase (call.instance, call.uuid)
    in_phase phase is = ap (λ (p : CallPhase). awaited_in p (call.instance, call.uuid)) is

-- ---- each event

abbrev AfterWaiters : Kernel → Type 0
AfterWaiters next = AreWaiters (unmarked_at next.slots) next.tables.waiters

waiter_cases : (boot : Booted) (kernel : Kernel) (cpu : ℕ) → AfterWaiters kernel → EventCases boot kernel cpu AfterWaiters
waiter_cases boot kernel cpu sound = record {
  answered = λ visit answer inside. sound;
  comes = λ visit slot found bytes inside free lies fits.
      let c = new_call_of boot kernel.tables visit.regs slot found bytes in
      let there = free_there kernel.slots slot free in
      cases_onward c (NewWaiters (unmarked_at kernel.slots) c) (λ taken. AfterWaiters (after_decision kernel visit (Takes slot taken)))
      (λ taken new. new _ (takes_slot kernel.slots taken.cancels slot visit.cpu Free taken.call there))
      (new_waiters (unmarked_at kernel.slots) c sound (ap (λ (o : Option ThreadSlot). option_and_then unmarked_in o) there));
  resumes = λ visit call given inside there offered.
      let slot = thread_in visit.regs in
      let r = resumed_call boot kernel.tables slot call given in
      let taken = resumed_taken boot kernel visit call given in
      let its = ap (λ (o : Option ThreadSlot). awaited (option_and_then unmarked_in o)) there ∙ sym (given_awaits given (sees call) ∙ sees_awaits call) in
      resumed_waiters (unmarked_at kernel.slots) r sound its _
      (takes_slot kernel.slots taken.cancels slot visit.cpu (Suspended (client_in visit.regs) call) taken.call there);
  told = λ visit answer its fixed. sound;
  goes = λ visit slot worker call progress its inside there e.
      let after = exit_awaits kernel.tables call visit.steps progress e in
      let was = after.0 ∙ sym (ap (λ (o : Option ThreadSlot). awaited (option_and_then unmarked_in o)) there) in
      left_all slot progress.call
      (λ held. AreWaiters (unmarked_at (slice_set kernel.slots slot held)) (tables_left progress.tables slot held).waiters)
      (left slot worker call progress.call progress.tables (Suspended progress.call.client progress.call) there after.1 was)
      (left slot worker call progress.call progress.tables (Suspended progress.call.client (unbuffered progress.call)) there after.1 was)
      (λ result params told is.
      left slot worker call progress.call progress.tables Free there after.1
      (sym (ap (λ (p : CallPhase). awaited_in p (progress.call.instance, progress.call.uuid)) is) ∙ was));
}
  where
    left : (slot worker : ℕ) (call now : PendingCall) (tables : Tables) (held : ThreadSlot) → slice_get kernel.slots slot ≡ Some (Active worker call)
        → tables.waiters ≡ kernel.tables.waiters → awaited (unmarked_in held) ≡ awaited (unmarked_at kernel.slots slot)
        → AreWaiters (unmarked_at (slice_set kernel.slots slot held)) tables.waiters
    left slot worker call now tables held there waiters was =
        subst (AreWaiters (unmarked_at (slice_set kernel.slots slot held))) (sym waiters)
        (waits_as_before (unmarked_at kernel.slots) _ kernel.tables.waiters slot (unmarked_in held) (leaves_slot kernel.slots slot (Active worker call) held there) sound was)

pub waiting : (boot : Booted) (history : List Event) (kernel : Kernel) → kernel_after boot history ≡ Some kernel → AfterWaiters kernel
waiting boot history kernel e =
    holds_after boot (λ events k. AfterWaiters k) (record {
      first = record {
        each = All-nil _;
        apart = none_apart;
        all = λ slot some. absurd (nobody slot some);
      };
      onward = λ events k cpu sound. waiter_cases boot k cpu sound;
    }) history kernel e
  where
    none_apart : AllPairs (λ (earlier : Waiter) (later : Waiter). earlier.slot ≡ later.slot → ⊥) []
    none_apart i j d less inside = absurd (omega arith)

    nobody : (slot : ℕ) → IsSome (awaited (unmarked_at (first_kernel boot).slots slot)) → ⊥
    nobody slot some = no_some _ (ap awaited (none_at_first boot.threads slot)) some
      where
        no_some : (o : Option Awaited) → o ≡ None → IsSome o → ⊥
        no_some None e some = cc
        no_some (Some a) e some = cc

pub kernels_waiting : Always (λ boot kernel. AreWaiters (unmarked_at kernel.slots) kernel.tables.waiters)
kernels_waiting boot history kernel booted e = waiting boot history kernel e
