-- A session's machine stays in order, whatever happens to it.
use Rattle.std.proofs.Common.{◌≡◌, ℕ, ◌+◌, ◌-◌, ◌<◌, Bool, true, false, not, cond, List, [], ◌∷◌, Option, Some, None}
use Rattle.std.proofs.Common.{refl, ap, subst, sym, ◌∙◌, arith}
use Rattle.std.specs.Prelude.{All, ◌==◌, ◌||◌, ◌&&◌, filter}
use Rattle.std.specs.Option.{option_map, option_and_then}
use Rattle.std.proofs.lemmas.Bool.Decides.{nat_tests}
use Rattle.std.proofs.lemmas.List.Elements.{All-append, All-cons, All-filter, All-head, All-nil, All-tail}
use Rattle.std.proofs.lemmas.Option.{option_and_then_some}
use Rattle.base.specs.NumberMap.{NumberMap, get, insert, remove}
use Rattle.job_model.specs.declared.call_kind.CallKind.{CallKind}
use Rattle.job_model.specs.declared.call_kind.CallKind.TheVariants as kind
use Rattle.job_model.specs.Job.{Job, of_tee}
use Rattle.job_model.specs.Point.{no_params}
use Rattle.job_model.specs.Steps.{Advance, Goes, Grant, JobStop, Left, Stopped, Stops, after, advance_on_answer}
use Rattle.job_model.specs.Steps.{grant_of}
use Rattle.job_model.specs.Steps as steps
use Rattle.rpc_msgs.specs.Answer.{RpcAnswer}
use Rattle.rpc_msgs.specs.Answer as answer
use Rattle.ta_params.specs.declared.call_result.CallResult.{CallResult}
use Rattle.ta_params.specs.declared.copied_params.CopiedParams.{CopiedParams}
use Rattle.ta_params.specs.declared.login.Login.{Login}
use Rattle.kernel_model.specs.Application.{Application}
use Rattle.kernel_model.specs.Codes.{bad_parameters, out_of_memory, success, target_dead}
use Rattle.kernel_model.specs.Instances.{given_back, is_held, killed}
use Rattle.kernel_model.specs.Kernel.{Asks, CallPhase, Ends, Instance, Runs, Waits}
use Rattle.kernel_model.specs.Resume.{is_close, phase_after, phase_on_answer, phase_seen}
use Rattle.kernel_model.proofs.Parts.{if-both, map_or-both, option_map_some}
use Rattle.own_model.proofs.Maps.{get-insert-other, get-insert-same, get-inserted, get-remove-other, get-removed}
use Rattle.own_model.proofs.Maps.{insert-again, remove-inserted}
use Rattle.own_model.proofs.MoreSteps.{Ended, behind}
use Rattle.own_model.specs.InOrder.{Fits, IsAtWork, IsIn, IsInOrder, IsWaiting, holder_of}
use Rattle.own_model.specs.Laws.{StaysInOrder}
use Rattle.own_model.specs.Solo.{Answered, Going, OwnCall, OwnSession, Solo, Start, Waiting, and_reply, begins, closes}
use Rattle.own_model.specs.Solo.{comes_back, comes_back_in, counted, fresh_call, gives_back, gives_up, goes_on}
use Rattle.own_model.specs.Solo.{goes_out, goes_out_in, going_in, home, instance_back, invokes, job_of, invokes_with}
use Rattle.own_model.specs.Solo.{is_no_buffer, made, opens, opens_first, phase_at, phase_back, run, sees}
use Rattle.own_model.specs.Solo.{session_ended, session_panicked, session_unrun}
use Rattle.own_model.specs.Solo.{settles, shows, silent, start_with, step, stopped, taken_on, tests_again, waits}
use Rattle.own_model.specs.Solo.{waits_on, wake_left, with_call, without_waiter, woken_by, works_or_waits}
use Rattle.own_model.specs.declared.own_event.BackInput.{BackInput}
use Rattle.own_model.specs.declared.own_event.BackInput.TheVariants.{Nothing, Buffer, NoBuffer, Reply}
use Rattle.own_model.specs.declared.own_event.OwnEvent.{OwnEvent}
use Rattle.own_model.specs.declared.own_event.OwnEvent.TheVariants.{Open, Invoke, Close, Cancel, Seen, Back, Out}
use Rattle.own_model.specs.declared.own_event.OwnEvent.TheVariants.{Limited}
use Rattle.own_model.specs.declared.own_event.OwnInput.{OwnInput}
use Rattle.own_model.specs.declared.own_event.OwnInput.TheVariants.{Copied, Faulty, Unread}
use Rattle.own_model.specs.Own.{ended}
use Rattle.own_model.specs.declared.own_reply.OwnReply.{OwnReply}
use Rattle.own_model.specs.declared.own_reply.OwnReply.TheVariants as reply

-- ---- numbers

same_number : (a b : ℕ) → (a == b) ≡ true → a ≡ b
same_number a b e = grind (arith, nat_tests)

other_number : (a b : ℕ) → (a == b) ≡ false → a ≡ b → ⊥
other_number a b e same = grind (arith, nat_tests)

-- by whether two numbers are the same
pub by_numbers : {P : Type 0} (a b : ℕ) → (a ≡ b → P) → ((a ≡ b → ⊥) → P) → P
by_numbers {P} a b here there = by_test (a == b) refl
  where
    by_test : (test : Bool) → (a == b) ≡ test → P
    by_test true is = here (same_number a b is)
    by_test false is = there (other_number a b is)

not_below : (a b : ℕ) → a < b → a ≡ b → ⊥
not_below a b lt e = omega arith

below_more : (a b : ℕ) → a < b → a < b + 1
below_more a b lt = omega arith

last_below : (a : ℕ) → a < a + 1
last_below a = omega arith

-- ---- phases

-- a call of this kind in the one phase may be in the other instead
pub record MayFollow (call_kind : CallKind) (before after : CallPhase) : Type 0 where
  pub fits : Fits call_kind before → Fits call_kind after
  pub works : IsAtWork before → IsAtWork after
  pub waits : IsWaiting before → IsWaiting after

itself : (call_kind : CallKind) (phase : CallPhase) → MayFollow call_kind phase phase
itself call_kind phase = record { fits = λ fits. fits; works = λ works. works; waits = λ waits. waits }

work_fits : (call_kind : CallKind) (before after : CallPhase) → IsAtWork before → IsAtWork after → Fits call_kind before
    → Fits call_kind after
work_fits kind.Settled (Runs job) after works on fits = absurd fits
work_fits kind.Settled (Asks job wanted payload) after works on fits = absurd fits
work_fits kind.Open before (Runs job) works on fits = tt
work_fits kind.Open before (Asks job wanted payload) works on fits = tt
work_fits (kind.Invoke func) before (Runs job) works on fits = tt
work_fits (kind.Invoke func) before (Asks job wanted payload) works on fits = tt
work_fits kind.Close before (Runs job) works on fits = tt
work_fits kind.Close before (Asks job wanted payload) works on fits = tt
work_fits call_kind before (Waits params) works on fits = absurd on
work_fits call_kind before (Ends result params told wakes) works on fits = absurd on
work_fits kind.Settled (Waits params) after works on fits = absurd works
work_fits kind.Settled (Ends result params told wakes) after works on fits = absurd works

not_both : (phase : CallPhase) → IsAtWork phase → IsWaiting phase → ⊥
not_both (Runs job) works waits = waits
not_both (Asks job wanted payload) works waits = waits
not_both (Waits params) works waits = works
not_both (Ends result params told wakes) works waits = works

works_on : (call_kind : CallKind) (before after : CallPhase) → IsAtWork before → IsAtWork after
    → MayFollow call_kind before after
works_on call_kind before after works on = record {
  fits = work_fits call_kind before after works on;
  works = λ _. on;
  waits = λ waits. absurd (not_both before works waits);
}

-- an end that wakes nobody
quiet_fits : (call_kind : CallKind) (result : CallResult) (params : CopiedParams) (told : Bool)
    → Fits call_kind (Ends result params told None)
quiet_fits kind.Open result params told = tt
quiet_fits (kind.Invoke func) result params told = tt
quiet_fits kind.Close result params told = tt
quiet_fits kind.Settled result params told = tt

-- one that wakes whom its kind has it wake
shown_fits : (rest : Solo) (call_kind : CallKind) (result : CallResult) (params : CopiedParams) (told : Bool)
    → Fits call_kind (Ends result params told (woken_by rest call_kind))
shown_fits rest kind.Open result params told = tt
shown_fits rest (kind.Invoke func) result params told = tt
shown_fits rest kind.Close result params told = tt
shown_fits rest kind.Settled result params told = tt

-- one that wakes as many as before at most
back_fits : (call_kind : CallKind) (result : CallResult) (params : CopiedParams) (told : Bool) (wakes : Option ℕ)
    (input : BackInput) → Fits call_kind (Ends result params told wakes)
    → Fits call_kind (Ends result params told (wake_left wakes input))
back_fits kind.Open result params told wakes input fits = tt
back_fits (kind.Invoke func) result params told wakes input fits = tt
back_fits kind.Close result params told wakes input fits = tt
back_fits kind.Settled result params told (Some woken) input fits = absurd fits
back_fits kind.Settled result params told None Nothing fits = tt
back_fits kind.Settled result params told None Buffer fits = tt
back_fits kind.Settled result params told None NoBuffer fits = tt
back_fits kind.Settled result params told None (Reply told_back) fits = tt

-- an end is followed by an end that fits
end_follows : (call_kind : CallKind) (result : CallResult) (params : CopiedParams) (told shown : Bool)
    (wakes woken : Option ℕ)
    → (Fits call_kind (Ends result params told wakes) → Fits call_kind (Ends result params shown woken))
    → MayFollow call_kind (Ends result params told wakes) (Ends result params shown woken)
end_follows call_kind result params told shown wakes woken fits =
    record { fits = fits; works = λ works. absurd works; waits = λ waits. absurd waits }

seen_follows : (call_kind : CallKind) (phase : CallPhase) → MayFollow call_kind phase (phase_seen phase)
seen_follows call_kind (Runs job) = works_on call_kind (Runs job) (phase_seen (Runs job)) tt tt
seen_follows call_kind (Asks job wanted payload) =
    works_on call_kind (Asks job wanted payload) (phase_seen (Asks job wanted payload)) tt tt
seen_follows call_kind (Waits params) = itself call_kind (Waits params)
seen_follows call_kind (Ends result params told wakes) = itself call_kind (Ends result params told wakes)

-- ---- one call changes

-- the machine may have this call at the number
pub record MayHave (z : Solo) (number : ℕ) (call : OwnCall) : Type 0 where
  pub numbered : number < z.entered
  pub fits : Fits call.kind call.phase
  pub holder : holder_of z.instance ≡ Some number → IsAtWork call.phase
  pub waiting : All (λ other. other ≡ number → IsWaiting call.phase) z.waiting

in_after : (P : CallPhase → Type 0) (calls : NumberMap OwnCall) (number other : ℕ) (call : OwnCall) → IsIn P calls other
    → (other ≡ number → P call.phase) → IsIn P (insert calls number call) other
in_after P calls number other call there holds =
    by_numbers other number
    (λ same. record {
      own = call;
      there = subst (λ n. get (insert calls number call) n ≡ Some call) (sym same) (get-insert-same calls number call);
      is_in = holds same;
    })
    (λ apart. record {
      own = there.own;
      there = get-insert-other calls number call other (λ e. apart (sym e)) ∙ there.there;
      is_in = there.is_in;
    })

all_after : (P : CallPhase → Type 0) (calls : NumberMap OwnCall) (number : ℕ) (call : OwnCall) (numbers : List ℕ)
    → All (λ n. IsIn P calls n) numbers
    → All (λ other. other ≡ number → P call.phase) numbers → All (λ n. IsIn P (insert calls number call) n) numbers
all_after P calls number call [] all holds = All-nil (λ n. IsIn P (insert calls number call) n)
all_after P calls number call (first ∷ rest) all holds =
    All-cons (λ n. IsIn P (insert calls number call) n) first rest
    (in_after P calls number first call (All-head (λ n. IsIn P calls n) first rest all)
    (All-head (λ n. n ≡ number → P call.phase) first rest holds))
    (all_after P calls number call rest (All-tail (λ n. IsIn P calls n) first rest all)
    (All-tail (λ n. n ≡ number → P call.phase) first rest holds))

pub has_call : (z : Solo) (number : ℕ) (call : OwnCall) → IsInOrder z → MayHave z number call
    → IsInOrder (with_call z number call)
has_call z number call order may = record {
  fits = λ other own found.
      get-inserted z.calls number call other own found
      (λ same is. subst (λ (o : OwnCall). Fits o.kind o.phase) is may.fits)
      (λ was. order.fits other own was);
  holder = λ other holds.
      in_after IsAtWork z.calls number other call (order.holder other holds)
      (λ same. may.holder (holds ∙ ap (λ n. Some n) same));
  waiting = all_after IsWaiting z.calls number call z.waiting order.waiting may.waiting;
  numbered = λ other own found.
      get-inserted z.calls number call other own found
      (λ same is. subst (λ n. n < z.entered) (sym same) may.numbered)
      (λ was. order.numbered other own was);
}

-- what is in a phase is there
pub is_in_phase : (P : CallPhase → Type 0) (calls : NumberMap OwnCall) (number : ℕ) (call : OwnCall)
    → IsIn P calls number → get calls number ≡ Some call → P call.phase
is_in_phase P calls number call there found =
    let same : there.own ≡ call = some_same there.own call (sym there.there ∙ found) in
    subst (λ (o : OwnCall). P o.phase) same there.is_in
  where
    some_same : (a b : OwnCall) → Some a ≡ Some b → a ≡ b
    some_same a b e = cc

-- those that wait are in a phase of which something follows
line_holds : (calls : NumberMap OwnCall) (number : ℕ) (call : OwnCall) (P : Type 0) (numbers : List ℕ)
    → All (λ n. IsIn IsWaiting calls n) numbers
    → get calls number ≡ Some call → (IsWaiting call.phase → P) → All (λ other. other ≡ number → P) numbers
line_holds calls number call P [] all found follows = All-nil (λ other. other ≡ number → P)
line_holds calls number call P (first ∷ rest) all found follows =
    All-cons (λ other. other ≡ number → P) first rest
    (λ same. follows (is_in_phase IsWaiting calls number call
    (subst (λ n. IsIn IsWaiting calls n) same (All-head (λ n. IsIn IsWaiting calls n) first rest all)) found))
    (line_holds calls number call P rest (All-tail (λ n. IsIn IsWaiting calls n) first rest all) found follows)

-- a call in a phase that may follow its own
pub follows : (z : Solo) (number : ℕ) (before now : OwnCall) → IsInOrder z → get z.calls number ≡ Some before
    → now.kind ≡ before.kind
    → MayFollow before.kind before.phase now.phase → IsInOrder (with_call z number now)
follows z number before now order found kinds may = has_call z number now order (record {
  numbered = order.numbered number before found;
  fits = subst (λ k. Fits k now.phase) (sym kinds) (may.fits (order.fits number before found));
  holder = λ holds. may.works (is_in_phase IsAtWork z.calls number before (order.holder number holds) found);
  waiting = line_holds z.calls number before (IsWaiting now.phase) z.waiting order.waiting found may.waits;
})

-- ---- a call more

counts : (z : Solo) → IsInOrder z → IsInOrder (counted z)
counts z order = record {
  fits = order.fits;
  holder = order.holder;
  waiting = order.waiting;
  numbered = λ number own found. below_more number z.entered (order.numbered number own found);
}

-- no call has the next number
no_next : (P : CallPhase → Type 0) (z : Solo) → IsInOrder z → IsIn P z.calls z.entered → ⊥
no_next P z order there = not_below z.entered z.entered (order.numbered z.entered there.own there.there) refl

none_next : (z : Solo) (P : Type 0) (numbers : List ℕ) → IsInOrder z → All (λ n. IsIn IsWaiting z.calls n) numbers
    → All (λ other. other ≡ z.entered → P) numbers
none_next z P [] order all = All-nil (λ other. other ≡ z.entered → P)
none_next z P (first ∷ rest) order all =
    All-cons (λ other. other ≡ z.entered → P) first rest
    (λ same.
    absurd (no_next IsWaiting z order (subst (λ n. IsIn IsWaiting z.calls n) same
    (All-head (λ n. IsIn IsWaiting z.calls n) first rest all))))
    (none_next z P rest order (All-tail (λ n. IsIn IsWaiting z.calls n) first rest all))

next_call : (z : Solo) (call : OwnCall) → IsInOrder z → Fits call.kind call.phase
    → IsInOrder (with_call (counted z) z.entered call)
next_call z call order fits = has_call (counted z) z.entered call (counts z order) (record {
  numbered = last_below z.entered;
  fits = fits;
  holder = λ holds. absurd (no_next IsAtWork z order (order.holder z.entered holds));
  waiting = none_next z (IsWaiting call.phase) z.waiting order order.waiting;
})

settles_so : (z : Solo) (area : Bool) (code : ℕ) → IsInOrder z → IsInOrder (settles z area code)
settles_so z area code order = next_call z (fresh_call kind.Settled area (Ends (of_tee code) no_params false None)) order tt

-- it waits behind the others
waits_so : (z : Solo) (call_kind : CallKind) (area : Bool) (params : CopiedParams) → IsInOrder z → Fits call_kind (Waits params)
    → IsInOrder (waits z call_kind area params)
waits_so z call_kind area params order fits =
    let call : OwnCall = fresh_call call_kind area (Waits params) in
    let more = next_call z call order fits in
    let calls : NumberMap OwnCall = insert z.calls z.entered call in
    record {
      fits = more.fits;
      holder = more.holder;
      waiting = All-append (λ n. IsIn IsWaiting calls n) z.waiting (z.entered ∷ []) more.waiting
          (All-cons (λ n. IsIn IsWaiting calls n) z.entered []
          (record { own = call; there = get-insert-same z.calls z.entered call; is_in = tt })
          (All-nil (λ n. IsIn IsWaiting calls n)));
      numbered = more.numbered;
    }

-- ---- the instance and the line change

-- another instance, whose holder is at work
another_instance : (z : Solo) (session : Option OwnSession) (instance : Option Instance) → IsInOrder z
    → ((number : ℕ) → holder_of instance ≡ Some number → IsIn IsAtWork z.calls number)
    → IsInOrder (record z { session = session; instance = instance })
another_instance z session instance order holds =
    record { fits = order.fits; holder = holds; waiting = order.waiting; numbered = order.numbered }

-- a call begins that isn't in the line
begins_so : (app : Application) (z : Solo) (number : ℕ) (call : OwnCall) (start : Start) → IsInOrder z
    → number < z.entered
    → ((job : Job) → Fits call.kind (Runs job)) → ((P : Type 0) → All (λ other. other ≡ number → P) z.waiting)
    → IsInOrder (begins app z number call start)
begins_so app z number call start order below fits apart =
    let free : IsInOrder (record z { instance = None }) =
    another_instance z z.session None order (λ n holds. absurd cc) in
    let now : OwnCall = record call { phase = Runs (job_of app call.kind start) } in
    let has = has_call (record z { instance = None }) number now free (record {
      numbered = below;
      fits = fits (job_of app call.kind start);
      holder = λ holds. absurd cc;
      waiting = apart (IsWaiting now.phase);
    }) in
    record {
      fits = has.fits;
      holder = λ other holds.
          let same : number ≡ other = cc in
          subst (λ n. IsIn IsAtWork (insert z.calls number now) n) same
          (record { own = now; there = get-insert-same z.calls number now; is_in = tt });
      waiting = has.waiting;
      numbered = has.numbered;
    }

works_or_waits_so : (app : Application) (z : Solo) (call_kind : CallKind) (area : Bool) (start : Start) → IsInOrder z
    → Fits call_kind (Waits start.params)
    → ((job : Job) → Fits call_kind (Runs job)) → IsInOrder (works_or_waits app z call_kind area start)
works_or_waits_so app z call_kind area start order waiting running =
    if-both IsInOrder (is_held start.instance) (waits z call_kind area start.params)
    (begins app (counted z) z.entered (fresh_call call_kind area (Waits start.params)) start)
    (waits_so z call_kind area start.params order waiting)
    (begins_so app (counted z) z.entered (fresh_call call_kind area (Waits start.params)) start (counts z order)
    (last_below z.entered) running
    (λ P. none_next z P z.waiting order order.waiting))

-- ---- what holds of a result, if there is one

abbrev pub IfAny : {A : Type 0} → (A → Type 0) → Option A → Type 0
IfAny P None = Unit {0}
IfAny P (Some a) = P a

pub if_any_then : {A B : Type 0} (P : B → Type 0) (f : A → Option B) (o : Option A) → ((a : A) → o ≡ Some a → IfAny P (f a))
    → IfAny P (option_and_then f o)
if_any_then P f None holds = tt
if_any_then P f (Some a) holds = holds a refl

pub if_any_map : {A B : Type 0} (P : B → Type 0) (f : A → B) (o : Option A) → ((a : A) → o ≡ Some a → P (f a))
    → IfAny P (option_map f o)
if_any_map P f None holds = tt
if_any_map P f (Some a) holds = holds a refl

pub if_any_of : {A : Type 0} (P : A → Type 0) (o : Option A) (a : A) → IfAny P o → o ≡ Some a → P a
if_any_of P None a holds e = absurd cc
if_any_of P (Some b) a holds e = let same : b ≡ a = cc in subst P same holds

-- the machine after an answer
abbrev pub InOrderThen : Answered → Type 0
InOrderThen answered = IsInOrder answered.0

-- ---- calls that come in

opens_so : (app : Application) (z : Solo) (params : CopiedParams) (login : Login) (area : Bool) → IsInOrder z
    → IfAny IsInOrder (opens_first app z params login area)
opens_so app z params login area order =
    let session : OwnSession = record { login = login; context = 0; opened = false } in
    let with_session : Solo = record z { session = Some session } in
    let still : IsInOrder with_session = another_instance z (Some session) z.instance order order.holder in
    let start : Start = start_with z (session, made app) params in
    if-both (IfAny IsInOrder) (z.entered == 0) (Some (opens app z params login area)) None
    (begins_so app (counted with_session) z.entered (fresh_call kind.Open area (Waits params)) start
    (counts with_session still) (last_below z.entered)
    (λ job. tt) (λ P. none_next z P z.waiting order order.waiting))
    tt

invokes_so : (app : Application) (z : Solo) (func : ℕ) (input : OwnInput) (area : Bool) (at : OwnSession × Instance)
    → IsInOrder z → IfAny IsInOrder (invokes app z func input area at)
invokes_so app z func input area at order =
    if-both (IfAny IsInOrder) at.1.dead (Some (settles z area target_dead)) (invokes_with app z func input area at)
    (settles_so z area target_dead order) (by_input input)
  where
    by_input : (came : OwnInput) → IfAny IsInOrder (invokes_with app z func came area at)
    by_input (Copied params) = works_or_waits_so app z (kind.Invoke func) area (start_with z at params) order tt (λ job. tt)
    by_input Faulty = settles_so z area bad_parameters order
    by_input Unread = tt

-- ---- calls that come back

phase_at_follows : (call_kind : CallKind) (more : ℕ) (before now : CallPhase) → phase_at more before ≡ Some now
    → MayFollow call_kind before now
phase_at_follows k more (Runs job) now e = let left = option_map_some (λ (l : Job). Runs l) (after more job) now e in
    subst (MayFollow k (Runs job)) left.2 (works_on k (Runs job) (Runs left.0) tt tt)
phase_at_follows k more (Asks job wanted payload) now e = let same : Asks job wanted payload ≡ now = cc in
    subst (MayFollow k (Asks job wanted payload)) same (itself k _)
phase_at_follows k more (Waits params) now e = let same : Waits params ≡ now = cc in
    subst (MayFollow k (Waits params)) same (itself k _)
phase_at_follows k more (Ends result params told wakes) now e =
    let same : Ends result params told wakes ≡ now = cc in
    subst (MayFollow k (Ends result params told wakes)) same (itself k _)

both_follow : (call_kind : CallKind) (first second third : CallPhase) → MayFollow call_kind first second
    → MayFollow call_kind second third → MayFollow call_kind first third
both_follow call_kind first second third one other = record {
  fits = λ fits. other.fits (one.fits fits);
  works = λ works. other.works (one.works works);
  waits = λ waits. other.waits (one.waits waits);
}

sees_so : (z : Solo) (number done_by_now : ℕ) (call : OwnCall) → IsInOrder z → get z.calls number ≡ Some call
    → IfAny IsInOrder (sees z number done_by_now call)
sees_so z number done_by_now call order found =
    if_any_map IsInOrder _ (phase_at (done_by_now - call.steps) call.phase)
    (λ phase there. follows z number call (record call { seen = true; steps = done_by_now; phase = phase_seen phase })
    order found refl
    (both_follow call.kind call.phase phase (phase_seen phase)
    (phase_at_follows call.kind (done_by_now - call.steps) call.phase phase there) (seen_follows call.kind phase)))

-- a job that has asked stays at work
advance_works : (before : CallPhase) (next : Advance) → IsAtWork before → IsAtWork (phase_after before next)
advance_works before (Goes job) works = tt
advance_works before (Stops (steps.Asks wanted payload left)) works = tt
advance_works before (Stops (steps.Ends end)) works = works
advance_works before (Stops (steps.Panics code)) works = works

answer_works : (before : CallPhase) (job : Job) (came : RpcAnswer) → IsAtWork before
    → IsAtWork (phase_on_answer before job came)
answer_works before job came works =
    map_or-both IsAtWork (phase_after before) (advance_on_answer came job) before
    (λ next. advance_works before next works) works

pub back_works : (before : CallPhase) (job : Job) (input : BackInput) → IsAtWork before
    → IsAtWork (phase_back before job input)
back_works before job Nothing works = works
back_works before job Buffer works = works
back_works before job NoBuffer works = answer_works before job answer.NoBuffer works
back_works before job (Reply told) works = answer_works before job (answer.Replied told) works

-- the line without a call
left_apart : (P : Type 0) (number : ℕ) (numbers : List ℕ)
    → All (λ other. other ≡ number → P) (filter (λ other. not (other == number)) numbers)
left_apart P number [] = All-nil (λ other. other ≡ number → P)
left_apart P number (first ∷ rest) = by_test (first == number) refl (left_apart P number rest)
  where
    by_test : (test : Bool) → (first == number) ≡ test
        → All (λ other. other ≡ number → P) (filter (λ other. not (other == number)) rest)
        → All (λ other. other ≡ number → P) (cond (not test) (first ∷ filter (λ other. not (other == number)) rest)
        (filter (λ other. not (other == number)) rest))
    by_test true is behind_it = behind_it
    by_test false is behind_it =
        All-cons (λ other. other ≡ number → P) first (filter (λ other. not (other == number)) rest)
        (λ same. absurd (other_number first number is same)) behind_it

leaves_line : (z : Solo) (number : ℕ) → IsInOrder z → IsInOrder (without_waiter z number)
leaves_line z number order = record {
  fits = order.fits;
  holder = order.holder;
  waiting = All-filter (λ other. not (other == number)) (λ n. IsIn IsWaiting z.calls n) z.waiting order.waiting;
  numbered = order.numbered;
}

-- a call of the machine that waits, as it is but for what it was given
record WaitsThere (z : Solo) (number : ℕ) (call : OwnCall) : Type 0 where
  own : OwnCall
  there : get z.calls number ≡ Some own
  kinds : call.kind ≡ own.kind
  phases : call.phase ≡ own.phase
  waits : IsWaiting own.phase

gives_up_so : (z : Solo) (number : ℕ) (call : OwnCall) (code : ℕ) → IsInOrder z → WaitsThere z number call
    → IsInOrder (gives_up z number call code)
gives_up_so z number call code order w =
    has_call (without_waiter z number) number _ (leaves_line z number order) (record {
      numbered = order.numbered number w.own w.there;
      fits = quiet_fits call.kind (of_tee code) no_params false;
      holder =
          λ holds.
          absurd (not_both w.own.phase (is_in_phase IsAtWork z.calls number w.own
          (order.holder number holds) w.there) w.waits);
      waiting = left_apart _ number z.waiting;
    })

fits_running : (call_kind : CallKind) (phase : CallPhase) (job : Job) → IsWaiting phase → Fits call_kind phase
    → Fits call_kind (Runs job)
fits_running kind.Open phase job waits fits = tt
fits_running (kind.Invoke func) phase job waits fits = tt
fits_running kind.Close phase job waits fits = tt
fits_running kind.Settled (Runs other) job waits fits = absurd waits
fits_running kind.Settled (Asks other wanted payload) job waits fits = absurd waits
fits_running kind.Settled (Waits params) job waits fits = absurd fits
fits_running kind.Settled (Ends result params told wakes) job waits fits = absurd waits

tests_again_so : (app : Application) (z : Solo) (w : Waiting) (at : OwnSession × Instance) → IsInOrder z
    → WaitsThere z w.number w.call → IsInOrder (tests_again app z w at)
tests_again_so app z w at order there =
    if-both IsInOrder (at.1.dead && not (is_close w.call.kind)) (gives_up z w.number w.call target_dead) _
    (gives_up_so z w.number w.call target_dead order there)
    (if-both IsInOrder (is_held at.1) (waits_on z w) (goes_on app z w at)
    (if-both IsInOrder (is_no_buffer w.input) (gives_up z w.number w.call out_of_memory) (with_call z w.number w.call)
    (gives_up_so z w.number w.call out_of_memory order there)
    (follows z w.number there.own w.call order there.there there.kinds
    (subst (λ (p : CallPhase). MayFollow there.own.kind there.own.phase p) (sym there.phases)
    (itself there.own.kind there.own.phase))))
    (begins_so app (without_waiter z w.number) w.number w.call
    (record { session = at.0; instance = at.1; params = w.params; seen = w.call.seen; key = z.key })
    (leaves_line z w.number order) (order.numbered w.number there.own there.there)
    (λ job. fits_running w.call.kind there.own.phase job there.waits
    (subst (λ k. Fits k there.own.phase) (sym there.kinds) (order.fits w.number there.own there.there)))
    (λ P. left_apart P w.number z.waiting)))

back_in_so : (app : Application) (z : Solo) (number : ℕ) (own call : OwnCall) (input : BackInput) (phase : CallPhase)
    → IsInOrder z → get z.calls number ≡ Some own
    → call.kind ≡ own.kind → call.phase ≡ own.phase → call.phase ≡ phase
    → IfAny IsInOrder (comes_back_in app z number call input phase)
back_in_so app z number own call input (Runs job) order found kinds phases is = tt
back_in_so app z number own call input (Asks job wanted payload) order found kinds phases is =
    let works : IsAtWork call.phase = subst IsAtWork (sym is) tt in
    follows z number own (record call { phase = phase_back call.phase job input }) order found kinds
    (works_on own.kind own.phase (phase_back call.phase job input) (subst IsAtWork phases works)
    (back_works call.phase job input works))
back_in_so app z number own call input (Waits params) order found kinds phases is =
    let there : WaitsThere z number call =
    record { own = own; there = found; kinds = kinds; phases = phases; waits = subst IsWaiting (sym is ∙ phases) tt } in
    let w : Waiting = record { number = number; call = call; params = params; input = input } in
    map_or-both IsInOrder (tests_again app z w) (home z) (gives_up z number call bad_parameters)
    (λ at. tests_again_so app z w at order there) (gives_up_so z number call bad_parameters order there)
back_in_so app z number own call input (Ends result params told wakes) order found kinds phases is =
    follows z number own (record call { phase = Ends result params told (wake_left wakes input) }) order found kinds
    (subst (λ (p : CallPhase). MayFollow own.kind p (Ends result params told (wake_left wakes input))) (sym is ∙ phases)
    (end_follows own.kind result params told told wakes (wake_left wakes input)
    (back_fits own.kind result params told wakes input)))

back_so : (app : Application) (z : Solo) (number : ℕ) (input : BackInput) (call : OwnCall) → IsInOrder z
    → get z.calls number ≡ Some call
    → IfAny IsInOrder (comes_back app z number input call)
back_so app z number input call order found = back_in_so app z number call _ input call.phase order found refl refl refl

-- ---- calls that go out

-- the machine with its call, before the call goes out
abbrev pub InOrderGoing : ℕ → Going → Type 0
InOrderGoing number going = IsInOrder (with_call going.solo number going.call)

none_holds : (session : Option OwnSession) (is_last : Bool) (change : Instance → Instance) (found : Option Instance)
    → ((instance : Instance) → (change instance).holder ≡ None)
    → holder_of (option_and_then (λ instance. instance_back session is_last (change instance)) found) ≡ None
none_holds session is_last change None frees = refl
none_holds session is_last change (Some instance) frees =
    if-both (λ o. holder_of o ≡ None) (is_last || (change instance).dead && _) None (Some (change instance)) refl
    (frees instance)

-- a call that has ended gives its instance back
gives_back_so : (z : Solo) (number : ℕ) (call now : OwnCall) (session : Option OwnSession) (is_last : Bool)
    (change : Instance → Instance)
    → IsInOrder z → get z.calls number ≡ Some call → now.kind ≡ call.kind → IsAtWork call.phase
    → Fits now.kind now.phase
    → ((instance : Instance) → (change instance).holder ≡ None)
    → IsInOrder (with_call (gives_back z session is_last change) number now)
gives_back_so z number call now session is_last change order found kinds works fits frees =
    let back : Solo = gives_back z session is_last change in
    let none : holder_of back.instance ≡ None = none_holds session is_last change z.instance frees in
    let free : IsInOrder back = another_instance z session back.instance order (λ n holds. no_holder n none holds) in
    has_call back number now free (record {
      numbered = order.numbered number call found;
      fits = fits;
      holder = λ holds. absurd (nobody number none holds);
      waiting = line_holds z.calls number call (IsWaiting now.phase) z.waiting order.waiting found
          (λ waits. absurd (not_both call.phase works waits));
    })
  where
    nobody : (n : ℕ) → holder_of (gives_back z session is_last change).instance ≡ None
        → holder_of (gives_back z session is_last change).instance ≡ Some n → ⊥
    nobody n none holds = cc

    no_holder : (n : ℕ) → holder_of (gives_back z session is_last change).instance ≡ None
        → holder_of (gives_back z session is_last change).instance ≡ Some n
        → IsIn IsAtWork z.calls n
    no_holder n none holds = absurd (nobody n none holds)

stopped_so : (z : Solo) (number : ℕ) (call own : OwnCall) (why : JobStop) → IsInOrder z → get z.calls number ≡ Some own
    → call.kind ≡ own.kind
    → IsAtWork own.phase → InOrderGoing number (stopped z call why)
stopped_so z number call own (steps.Ends end) order found kinds works =
    let session : Option OwnSession = option_and_then (session_ended call.kind end) z.session in
    gives_back_so z number own _ session end.is_last (given_back end.memory end.objects) order found kinds works
    (shown_fits (gives_back z session end.is_last (given_back end.memory end.objects)) call.kind _ _ true)
    (λ instance. refl)
stopped_so z number call own (steps.Panics code) order found kinds works =
    let session : Option OwnSession = option_and_then (session_panicked call.kind) z.session in
    gives_back_so z number own _ session false killed order found kinds works
    (shown_fits (gives_back z session false killed) call.kind _ _ true) (λ instance. refl)
stopped_so z number call own (steps.Asks wanted payload left) order found kinds works =
    follows z number own (record call { phase = Asks left wanted payload }) order found kinds
    (works_on own.kind own.phase (Asks left wanted payload) works tt)

same_call : (z : Solo) (number : ℕ) (call : OwnCall) → IsInOrder z → get z.calls number ≡ Some call
    → IsInOrder (with_call z number call)
same_call z number call order found = follows z number call call order found refl (itself call.kind call.phase)

granted_so : (z : Solo) (number : ℕ) (call : OwnCall) (grant : Grant) → IsInOrder z → get z.calls number ≡ Some call
    → IsAtWork call.phase
    → IfAny (InOrderGoing number) (taken_on z call grant)
granted_so z number call (Left left) order found works = tt
granted_so z number call (Stopped used why) order found works =
    stopped_so z number (record call { steps = call.steps + used }) call why order found refl works

pub going_so : (most : ℕ) (z : Solo) (number : ℕ) (call : OwnCall) (phase : CallPhase) → IsInOrder z
    → get z.calls number ≡ Some call → call.phase ≡ phase
    → IfAny (InOrderGoing number) (going_in most z call phase)
going_so most z number call (Runs job) order found is =
    if_any_then (InOrderGoing number) (taken_on z call) (grant_of most job)
    (λ grant granted. granted_so z number call grant order found (subst IsAtWork (sym is) tt))
going_so most z number call (Asks job wanted payload) order found is = same_call z number call order found
going_so most z number call (Waits params) order found is = same_call z number call order found
going_so most z number call (Ends result params true wakes) order found is = same_call z number call order found
going_so most z number call (Ends result params false wakes) order found is =
    let without : Solo = record z { session = option_and_then (session_unrun call.kind) z.session } in
    let shown : Going = shows without call result params in
    follows without number call shown.call (another_instance z without.session z.instance order order.holder) found refl
    (subst (λ (p : CallPhase). MayFollow call.kind p shown.call.phase) (sym is)
    (end_follows call.kind result params false true wakes (woken_by without call.kind)
    (λ fits. shown_fits without call.kind result params true)))

-- a call that has ended is there no more
gone_so : (z : Solo) (number : ℕ) (call : OwnCall) → IsInOrder z → get z.calls number ≡ Some call
    → (IsAtWork call.phase → ⊥) → (IsWaiting call.phase → ⊥)
    → IsInOrder (record z { calls = remove z.calls number })
gone_so z number call order found idle unlined = record {
  fits = λ other own there. order.fits other own (get-removed z.calls number other own there);
  holder = λ other holds. in_rest IsAtWork idle other (order.holder other holds);
  waiting = rest_of z.waiting order.waiting;
  numbered = λ other own there. order.numbered other own (get-removed z.calls number other own there);
}
  where
    in_rest : (P : CallPhase → Type 0) → (P call.phase → ⊥) → (other : ℕ) → IsIn P z.calls other
        → IsIn P (remove z.calls number) other
    in_rest P none other there =
        by_numbers number other
        (λ same. absurd (none (is_in_phase P z.calls other call there (ap (λ n. get z.calls n) (sym same) ∙ found))))
        (λ apart. record {
          own = there.own;
          there = get-remove-other z.calls number other apart ∙ there.there;
          is_in = there.is_in;
        })

    rest_of : (numbers : List ℕ) → All (λ n. IsIn IsWaiting z.calls n) numbers
        → All (λ n. IsIn IsWaiting (remove z.calls number) n) numbers
    rest_of [] all = All-nil (λ n. IsIn IsWaiting (remove z.calls number) n)
    rest_of (first ∷ rest) all =
        All-cons (λ n. IsIn IsWaiting (remove z.calls number) n) first rest
        (in_rest IsWaiting unlined first (All-head (λ n. IsIn IsWaiting z.calls n) first rest all))
        (rest_of rest (All-tail (λ n. IsIn IsWaiting z.calls n) first rest all))

-- the call changes once more
again : (z : Solo) (number : ℕ) (call now : OwnCall) → IsInOrder (with_call z number call) → now.kind ≡ call.kind
    → now.phase ≡ call.phase
    → IsInOrder (with_call z number now)
again z number call now order kinds phases =
    subst (λ (calls : NumberMap OwnCall). IsInOrder (record z { calls = calls })) (insert-again z.calls number call now)
    (follows (with_call z number call) number call now order (get-insert-same z.calls number call) kinds
    (subst (MayFollow call.kind call.phase) (sym phases) (itself call.kind call.phase)))

out_so : (z : Solo) (number : ℕ) (call : OwnCall) (phase : CallPhase) → IsInOrder (with_call z number call)
    → call.phase ≡ phase
    → IfAny InOrderThen (goes_out_in z number call phase)
out_so z number call (Runs job) order is = tt
out_so z number call (Asks job wanted payload) order is = order
out_so z number call (Waits params) order is = order
out_so z number call (Ends result params told (Some woken)) order is = order
out_so z number call (Ends result params told None) order is =
    if-both InOrderThen call.buffer (with_call z number (record call { buffer = false }), Some reply.Free)
    (record z { calls = remove z.calls number }, Some (ended result params))
    (again z number call (record call { buffer = false }) order refl refl)
    (subst (λ (calls : NumberMap OwnCall). IsInOrder (record z { calls = calls })) (remove-inserted z.calls number call)
    (gone_so (with_call z number call) number call order (get-insert-same z.calls number call)
    (λ works. subst IsAtWork is works) (λ waits. subst IsWaiting is waits)))

goes_out_so : (most : ℕ) (z : Solo) (number : ℕ) (call : OwnCall) → IsInOrder z → get z.calls number ≡ Some call
    → IfAny InOrderThen (goes_out most z number call)
goes_out_so most z number call order found =
    if_any_then InOrderThen (λ (going : Going). goes_out_in going.solo number going.call going.call.phase)
    (going_in most z call call.phase)
    (λ going comes. out_so going.solo number going.call going.call.phase
    (if_any_of (InOrderGoing number) (going_in most z call call.phase) going
    (going_so most z number call call.phase order found refl) comes) refl)

-- ---- events

silent_so : (o : Option Solo) → IfAny IsInOrder o → IfAny InOrderThen (option_map silent o)
silent_so None order = tt
silent_so (Some z) order = order

pub step_so : (most : ℕ) (app : Application) (z : Solo) (came : OwnEvent) → IsInOrder z
    → IfAny InOrderThen (step most app z came)
step_so most app z (Open params login area) order =
    silent_so (opens_first app z params login area) (opens_so app z params login area order)
step_so most app z (Invoke func input area) order =
    silent_so (option_and_then (invokes app z func input area) (home z))
    (if_any_then IsInOrder (invokes app z func input area) (home z) (λ at _. invokes_so app z func input area at order))
step_so most app z (Close area) order =
    if_any_map InOrderThen (λ at. silent (closes app z area at)) (home z)
    (λ at _. works_or_waits_so app z kind.Close area (start_with z at no_params) order tt (λ job. tt))
step_so most app z Cancel order = settles_so z false success order
step_so most app z (Seen number done_by_now) order =
    silent_so (option_and_then (sees z number done_by_now) (get z.calls number))
    (if_any_then IsInOrder (sees z number done_by_now) (get z.calls number)
    (λ call found. sees_so z number done_by_now call order found))
step_so most app z (Back number input) order =
    silent_so (option_and_then (comes_back app z number input) (get z.calls number))
    (if_any_then IsInOrder (comes_back app z number input) (get z.calls number)
    (λ call found. back_so app z number input call order found))
step_so most app z (Out number) order =
    if_any_then InOrderThen (goes_out most z number) (get z.calls number)
    (λ call found. goes_out_so most z number call order found)
step_so most app z Limited order = order

ended_at : (first second : Ended) → Some first ≡ Some second → first.0 ≡ second.0
ended_at first second e = let same : first ≡ second = cc in ap (λ (end : Ended). end.0) same

runs_so : (most : ℕ) (app : Application) (solo final : Solo) (events : List OwnEvent) (replies : List OwnReply)
    → IsInOrder solo
    → run most app solo events ≡ Some (final, replies) → IsInOrder final
runs_so most app solo final [] replies order e = subst IsInOrder (ended_at (solo, []) (final, replies) e) order
runs_so most app solo final (came ∷ events) replies order e =
    option_and_then_some (behind most app events) (step most app solo came) (final, replies) e
    (λ answered steps onward.
    let rest = option_map_some (λ (rest : Ended). (rest.0, and_reply answered.1 rest.1))
    (run most app answered.0 events) (final, replies) onward in
    let next = if_any_of InOrderThen (step most app solo came) answered (step_so most app solo came order) steps in
    subst IsInOrder (ap (λ (end : Ended). end.0) rest.2)
    (runs_so most app answered.0 rest.0.0 events rest.0.1 next rest.1))

pub stays_in_order : StaysInOrder
stays_in_order = record {
  first = λ key. record {
    fits = λ number own found. absurd cc;
    holder = λ number holds. absurd cc;
    waiting = All-nil (λ n. IsIn IsWaiting [] n);
    numbered = λ number own found. absurd cc;
  };
  runs = runs_so;
}
