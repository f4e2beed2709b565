-- What the machine of a session keeps at an event: that a call has come in, and that of its calls the first is an open and no
-- other.
use Rattle.std.proofs.Common.{◌≡◌, ℕ, ◌+◌, Bool, true, false, Option, Some, None, refl, ap, subst, sym, ◌∙◌, arith}
use Rattle.std.specs.Prelude.{◌-◌, ◌==◌, ◌&&◌, ◌||◌, not, if◌then◌else◌}
use Rattle.std.specs.Option.{option_map, option_and_then}
use Rattle.std.proofs.lemmas.Bool.Decides.{nat_tests}
use Rattle.base.specs.NumberMap.{NumberMap, get, insert, remove}
use Rattle.job_model.specs.declared.call_kind.CallKind.{CallKind}
use Rattle.job_model.specs.declared.call_kind.CallKind.TheVariants as kind
use Rattle.job_model.specs.Point.{no_params}
use Rattle.job_model.specs.Steps.{Grant, Left, Stopped, grant_of}
use Rattle.job_model.specs.Steps as steps
use Rattle.ta_params.specs.declared.copied_params.CopiedParams.{CopiedParams}
use Rattle.ta_params.specs.declared.login.Login.{Login}
use Rattle.kernel_model.specs.Application.{Application}
use Rattle.kernel_model.specs.Codes.{bad_parameters, out_of_memory, success, target_dead}
use Rattle.kernel_model.specs.Instances.{is_held}
use Rattle.kernel_model.specs.Kernel.{Asks, CallPhase, Ends, Instance, Runs, Waits}
use Rattle.kernel_model.specs.Resume.{is_close}
use Rattle.kernel_model.proofs.Parts.{if-both, map_or-both}
use Rattle.own_model.proofs.InOrder.{IfAny, if_any_map, if_any_of, if_any_then}
use Rattle.own_model.proofs.Maps.{get-inserted, get-removed}
use Rattle.own_model.specs.Own.{ended}
use Rattle.own_model.specs.Solo.{Answered, Going, OwnCall, OwnSession, Solo, Start, Waiting, begins, closes, comes_back}
use Rattle.own_model.specs.Solo.{comes_back_in, counted, fresh_call, gives_up, goes_on, goes_out, goes_out_in, going_in, home}
use Rattle.own_model.specs.Solo.{invokes, invokes_with, is_buffer, is_no_buffer, made, opens_first, opens, phase_at, sees, settles, silent, start_with}
use Rattle.own_model.specs.Solo.{step, taken_on, tests_again, unopened, waits, waits_on, with_call, works_or_waits}
use Rattle.own_model.specs.declared.own_event.BackInput.{BackInput}
use Rattle.own_model.specs.declared.own_event.OwnEvent.{OwnEvent}
use Rattle.own_model.specs.declared.own_event.OwnEvent.TheVariants.{Open, Invoke, Close, Cancel, Seen, Back, Out, Limited}
use Rattle.own_model.specs.declared.own_event.OwnInput.{OwnInput}
use Rattle.own_model.specs.declared.own_event.OwnInput.TheVariants.{Copied, Faulty, Unread}
use Rattle.own_model.specs.declared.own_reply.OwnReply.TheVariants as reply
use Rattle.group_model.specs.Embedding.{CanCome, IsAtHome, OnlyFirstOpens, is_open}

-- ---- its calls

-- the machine by now, before which so many calls had come in: it has none yet only where there were none, and only its first
-- call is an open
pub record KeepsOn (entered : ℕ) (now : Solo) : Type 0 where
  pub none_from : now.entered ≡ 0 → entered ≡ 0
  pub opens : OnlyFirstOpens now.calls

more : {P : Type 0} (n : ℕ) → n + 1 ≡ 0 → P
more n e = absurd (no n e)
  where
    no : (m : ℕ) → m + 1 ≡ 0 → ⊥
    no m is = omega arith

opens_with : (calls : NumberMap OwnCall) (number : ℕ) (call : OwnCall) → OnlyFirstOpens calls
    → is_open call.kind ≡ (number == 0) → OnlyFirstOpens (insert calls number call)
opens_with calls number call only is other found there =
    get-inserted calls number call other found there
    (λ here same. ap (λ (c : OwnCall). is_open c.kind) (sym same) ∙ is ∙ ap (λ n. n == 0) (sym here))
    (λ was. only other found was)

-- with a call that comes in
comes_on : (z now : Solo) (call : OwnCall) → OnlyFirstOpens z.calls → is_open call.kind ≡ (z.entered == 0)
    → now.entered ≡ z.entered + 1 → now.calls ≡ insert z.calls z.entered call → KeepsOn z.entered now
comes_on z now call only is entered calls = record {
  none_from = λ none. more z.entered (sym entered ∙ none);
  opens = subst OnlyFirstOpens (sym calls) (opens_with z.calls z.entered call only is);
}

-- a call is that of the number by now, and of the same kind as it was
pub record IsItsCall (z : Solo) (number : ℕ) (call : OwnCall) : Type 0 where
  pub before : OwnCall
  pub there : get z.calls number ≡ Some before
  pub kinds : call.kind ≡ before.kind

call_on : (z now : Solo) (number : ℕ) (call : OwnCall) → OnlyFirstOpens z.calls → IsItsCall z number call
    → now.entered ≡ z.entered → now.calls ≡ insert z.calls number call → KeepsOn z.entered now
call_on z now number call only its entered calls = record {
  none_from = λ none. sym entered ∙ none;
  opens = subst OnlyFirstOpens (sym calls) (opens_with z.calls number call only
      (ap is_open its.kinds ∙ only number its.before its.there));
}

-- ---- a call that comes in

works_from : (app : Application) (z : Solo) (call_kind : CallKind) (area : Bool) (start : Start) → OnlyFirstOpens z.calls
    → is_open call_kind ≡ (z.entered == 0) → KeepsOn z.entered (works_or_waits app z call_kind area start)
works_from app z call_kind area start only is =
    if-both (KeepsOn z.entered) (is_held start.instance) (waits z call_kind area start.params)
    (begins app (counted z) z.entered (fresh_call call_kind area (Waits start.params)) start)
    (comes_on z (waits z call_kind area start.params) (fresh_call call_kind area (Waits start.params)) only is refl refl)
    (comes_on z (begins app (counted z) z.entered (fresh_call call_kind area (Waits start.params)) start) _ only is refl refl)

settles_from : (z : Solo) (area : Bool) (code : ℕ) → OnlyFirstOpens z.calls → false ≡ (z.entered == 0)
    → KeepsOn z.entered (settles z area code)
settles_from z area code only later = comes_on z (settles z area code) _ only later refl refl

invokes_with_from : (app : Application) (z : Solo) (func : ℕ) (input : OwnInput) (area : Bool) (at : OwnSession × Instance)
    → OnlyFirstOpens z.calls → false ≡ (z.entered == 0) → IfAny (KeepsOn z.entered) (invokes_with app z func input area at)
invokes_with_from app z func (Copied params) area at only later =
    works_from app z (kind.Invoke func) area (start_with z at params) only later
invokes_with_from app z func Faulty area at only later = settles_from z area bad_parameters only later
invokes_with_from app z func Unread area at only later = tt

invokes_from : (app : Application) (z : Solo) (func : ℕ) (input : OwnInput) (area : Bool) (at : OwnSession × Instance)
    → OnlyFirstOpens z.calls → false ≡ (z.entered == 0) → IfAny (KeepsOn z.entered) (invokes app z func input area at)
invokes_from app z func input area at only later =
    if-both (IfAny (KeepsOn z.entered)) at.1.dead (Some (settles z area target_dead)) (invokes_with app z func input area at)
    (settles_from z area target_dead only later) (invokes_with_from app z func input area at only later)

opens_from : (app : Application) (z : Solo) (params : CopiedParams) (login : Login) (area : Bool) → OnlyFirstOpens z.calls
    → z.entered ≡ 0 → IfAny (KeepsOn z.entered) (opens_first app z params login area)
opens_from app z params login area only none =
    let session : OwnSession = record { login = login; context = 0; opened = false } in
    let with_session : Solo = record z { session = Some session } in
    if-both (IfAny (KeepsOn z.entered)) (z.entered == 0) (Some (opens app z params login area)) None
    (works_from app with_session kind.Open area (start_with with_session (session, made app) params) only
    (ap (λ n. n == 0) (sym none))) tt

-- ---- a call that comes back

with_call_from : (z : Solo) (number : ℕ) (call : OwnCall) → OnlyFirstOpens z.calls → IsItsCall z number call
    → KeepsOn z.entered (with_call z number call)
with_call_from z number call only its = call_on z (with_call z number call) number call only its refl refl

sees_from : (z : Solo) (number done_by_now : ℕ) (call : OwnCall) → OnlyFirstOpens z.calls → get z.calls number ≡ Some call
    → IfAny (KeepsOn z.entered) (sees z number done_by_now call)
sees_from z number done_by_now call only there =
    if_any_map (KeepsOn z.entered) _ (phase_at (done_by_now - call.steps) call.phase)
    (λ phase _. with_call_from z number _ only (record { before = call; there = there; kinds = refl }))

gives_up_from : (z : Solo) (number : ℕ) (call : OwnCall) (code : ℕ) → OnlyFirstOpens z.calls → IsItsCall z number call
    → KeepsOn z.entered (gives_up z number call code)
gives_up_from z number call code only its =
    call_on z (gives_up z number call code) number _ only
    (record { before = its.before; there = its.there; kinds = its.kinds }) refl refl

waits_on_from : (z : Solo) (w : Waiting) → OnlyFirstOpens z.calls → IsItsCall z w.number w.call
    → KeepsOn z.entered (waits_on z w)
waits_on_from z w only its =
    if-both (KeepsOn z.entered) (is_no_buffer w.input) (gives_up z w.number w.call out_of_memory) (with_call z w.number w.call)
    (gives_up_from z w.number w.call out_of_memory only its) (with_call_from z w.number w.call only its)

tests_from : (app : Application) (z : Solo) (w : Waiting) (at : OwnSession × Instance) → OnlyFirstOpens z.calls
    → IsItsCall z w.number w.call → KeepsOn z.entered (tests_again app z w at)
tests_from app z w at only its =
    if-both (KeepsOn z.entered) (at.1.dead && not (is_close w.call.kind)) (gives_up z w.number w.call target_dead)
    (if is_held at.1 then waits_on z w else goes_on app z w at) (gives_up_from z w.number w.call target_dead only its)
    (if-both (KeepsOn z.entered) (is_held at.1) (waits_on z w) (goes_on app z w at) (waits_on_from z w only its)
    (call_on z (goes_on app z w at) w.number _ only
    (record { before = its.before; there = its.there; kinds = its.kinds }) refl refl))

back_in_from : (app : Application) (z : Solo) (number : ℕ) (call : OwnCall) (input : BackInput) (phase : CallPhase)
    → OnlyFirstOpens z.calls → IsItsCall z number call
    → IfAny (KeepsOn z.entered) (comes_back_in app z number call input phase)
back_in_from app z number call input (Runs job) only its = tt
back_in_from app z number call input (Asks job wanted payload) only its =
    with_call_from z number _ only (record { before = its.before; there = its.there; kinds = its.kinds })
back_in_from app z number call input (Waits params) only its =
    let w : Waiting = record { number = number; call = call; params = params; input = input } in
    map_or-both (KeepsOn z.entered) (tests_again app z w) (home z) (gives_up z number call bad_parameters)
    (λ at. tests_from app z w at only its) (gives_up_from z number call bad_parameters only its)
back_in_from app z number call input (Ends result params told wakes) only its =
    with_call_from z number _ only (record { before = its.before; there = its.there; kinds = its.kinds })

-- ---- a call that goes out

-- the machine with its call, before the call goes out
pub record KeepsCalls (z : Solo) (call : OwnCall) (going : Going) : Type 0 where
  pub entered : going.solo.entered ≡ z.entered
  pub calls : going.solo.calls ≡ z.calls
  pub kinds : going.call.kind ≡ call.kind

taken_from : (z : Solo) (call : OwnCall) (grant : Grant) → IfAny (KeepsCalls z call) (taken_on z call grant)
taken_from z call (Left job) = tt
taken_from z call (Stopped used (steps.Ends end)) = record { entered = refl; calls = refl; kinds = refl }
taken_from z call (Stopped used (steps.Panics code)) = record { entered = refl; calls = refl; kinds = refl }
taken_from z call (Stopped used (steps.Asks wanted payload left)) = record { entered = refl; calls = refl; kinds = refl }

going_from : (most : ℕ) (z : Solo) (call : OwnCall) (phase : CallPhase)
    → IfAny (KeepsCalls z call) (going_in most z call phase)
going_from most z call (Runs job) =
    if_any_then (KeepsCalls z call) (taken_on z call) (grant_of most job) (λ grant _. taken_from z call grant)
going_from most z call (Asks job wanted payload) = record { entered = refl; calls = refl; kinds = refl }
going_from most z call (Waits params) = record { entered = refl; calls = refl; kinds = refl }
going_from most z call (Ends result params true wakes) = record { entered = refl; calls = refl; kinds = refl }
going_from most z call (Ends result params false wakes) = record { entered = refl; calls = refl; kinds = refl }

-- the machine after an event
abbrev pub IsAnswerFrom : Solo → Answered → Type 0
IsAnswerFrom z answered = KeepsOn z.entered answered.0

left_from : (z : Solo) (number : ℕ) → OnlyFirstOpens z.calls → KeepsOn z.entered (record z { calls = remove z.calls number })
left_from z number only = record {
  none_from = λ none. none;
  opens = λ other found there. only other found (get-removed z.calls number other found there);
}

out_from : (z : Solo) (number : ℕ) (call : OwnCall) (phase : CallPhase) → OnlyFirstOpens z.calls → IsItsCall z number call
    → IfAny (IsAnswerFrom z) (goes_out_in z number call phase)
out_from z number call (Runs job) only its = tt
out_from z number call (Asks job wanted payload) only its = with_call_from z number call only its
out_from z number call (Waits params) only its = with_call_from z number call only its
out_from z number call (Ends result params told (Some woken)) only its = with_call_from z number call only its
out_from z number call (Ends result params told None) only its =
    if-both (IsAnswerFrom z) call.buffer (with_call z number (record call { buffer = false }), Some reply.Free)
    (record z { calls = remove z.calls number }, Some (ended result params))
    (with_call_from z number _ only (record { before = its.before; there = its.there; kinds = its.kinds }))
    (left_from z number only)

goes_out_from : (most : ℕ) (z : Solo) (number : ℕ) (call : OwnCall) → OnlyFirstOpens z.calls → get z.calls number ≡ Some call
    → IfAny (IsAnswerFrom z) (goes_out most z number call)
goes_out_from most z number call only there =
    if_any_then (IsAnswerFrom z) (λ (going : Going). goes_out_in going.solo number going.call going.call.phase)
    (going_in most z call call.phase)
    (λ going comes.
    let keeps = if_any_of (KeepsCalls z call) (going_in most z call call.phase) going (going_from most z call call.phase) comes in
    subst (λ n. IfAny (λ (answered : Answered). KeepsOn n answered.0)
    (goes_out_in going.solo number going.call going.call.phase)) keeps.entered
    (out_from going.solo number going.call going.call.phase (subst OnlyFirstOpens (sym keeps.calls) only)
    (record {
      before = call;
      there = ap (λ (calls : NumberMap OwnCall). get calls number) keeps.calls ∙ there;
      kinds = keeps.kinds;
    })))

-- ---- at an event

silent_from : (z : Solo) (o : Option Solo) → IfAny (KeepsOn z.entered) o → IfAny (IsAnswerFrom z) (option_map silent o)
silent_from z None from = tt
silent_from z (Some now) from = from

-- the session is there only once its open has come in
pub later : (z : Solo) → (z.entered ≡ 0 → z ≡ unopened z.key) → IsAtHome z → false ≡ (z.entered == 0)
later z first at = by_first (z.entered == 0) refl
  where
    none : (n : ℕ) → (n == 0) ≡ true → n ≡ 0
    none n e = grind (arith, nat_tests)

    by_first : (test : Bool) → (z.entered == 0) ≡ test → false ≡ (z.entered == 0)
    by_first true is =
        let gone : None ≡ Some at.session = sym (ap (λ (y : Solo). y.session) (first (none z.entered is))) ∙ at.kept in
        absurd cc
    by_first false is = sym is

pub answers_from : (most : ℕ) (app : Application) (z : Solo) (event : OwnEvent) → OnlyFirstOpens z.calls
    → (z.entered ≡ 0 → z ≡ unopened z.key) → CanCome z event → IfAny (IsAnswerFrom z) (step most app z event)
answers_from most app z (Open params login area) only first can =
    silent_from z (opens_first app z params login area) (opens_from app z params login area only can)
answers_from most app z (Invoke func input area) only first can =
    silent_from z (option_and_then (invokes app z func input area) (home z))
    (if_any_then (KeepsOn z.entered) (invokes app z func input area) (home z)
    (λ at _. invokes_from app z func input area at only (later z first can)))
answers_from most app z (Close area) only first can =
    if_any_map (IsAnswerFrom z) (λ at. silent (closes app z area at)) (home z)
    (λ at _. works_from app z kind.Close area (start_with z at no_params) only (later z first can))
answers_from most app z Cancel only first can = settles_from z false success only (later z first can)
answers_from most app z (Seen number done_by_now) only first can =
    silent_from z (option_and_then (sees z number done_by_now) (get z.calls number))
    (if_any_then (KeepsOn z.entered) (sees z number done_by_now) (get z.calls number)
    (λ call there. sees_from z number done_by_now call only there))
answers_from most app z (Back number input) only first can =
    silent_from z (option_and_then (comes_back app z number input) (get z.calls number))
    (if_any_then (KeepsOn z.entered) (comes_back app z number input) (get z.calls number)
    (λ call there. back_in_from app z number (record call { buffer = is_buffer input || call.buffer }) input call.phase only
    (record { before = call; there = there; kinds = refl })))
answers_from most app z (Out number) only first can =
    if_any_then (IsAnswerFrom z) (goes_out most z number) (get z.calls number)
    (λ call there. goes_out_from most z number call only there)
answers_from most app z Limited only first can = record { none_from = λ none. none; opens = only }
