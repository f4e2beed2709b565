-- The numbers of a group's machine stay those that were given, whatever happens to it.
use Rattle.std.proofs.Common.{◌≡◌, ℕ, ◌+◌, ◌-◌, ◌<◌, ◌≤◌, ◌^◌, Bool, true, false, not, List, [], ◌∷◌, ◌++◌, Option, Some, None, refl, sym, subst, arith}
use Rattle.std.specs.Prelude.{◌==◌, ◌&&◌}
use Rattle.std.specs.Option.{option_and_then, option_map, option_map_or}
use Rattle.base.specs.NumberMap.{IsRising, IsRising-insert, IsRising-remove, NumberMap, get, insert, remove}
use Rattle.group_model.specs.Group.{Answered, Begun, Coming, Going, Group, GroupCall, GroupSession, GroupWaiter, Home, Opener, Start, Waiting, about_home, about_none, about_open, awaited_number, begins_again, closes, closing_points, comes_back, comes_back_in, comes_in, finds_it_gone, finds_room, fresh_call, gives_up, goes_on, goes_out, goes_out_in, going_in, home, instance_at, invokes, invokes_with, is_dead, is_taken, job_on, open_begins, open_waits, opened_with, opens, opens_again, opens_kept, opens_made, opens_new, opens_tested, opens_there, opens_with, retests, sees, sessions_ended, sessions_panicked, sessions_unrun, settles, silent, start_again, start_at, start_of_open, step, stopped, taken_on, tested_again, waits, waits_on, with_call, with_instance, with_session, works_or_waits}
use Rattle.group_model.specs.declared.group_event.GroupEvent.{GroupEvent}
use Rattle.group_model.specs.declared.group_event.GroupEvent.TheVariants.{Open, Invoke, Close, Cancel, Seen, Room, Back, Out}
use Rattle.group_model.specs.declared.group_reply.GroupReply.{GroupReply}
use Rattle.job_model.specs.Job.{Job, of_tee}
use Rattle.job_model.specs.Point.{no_params}
use Rattle.job_model.specs.Steps.{End, Grant, JobStop, Left, Stopped, grant_of}
use Rattle.job_model.specs.Steps as steps
use Rattle.job_model.specs.declared.call_kind.CallKind.{CallKind}
use Rattle.job_model.specs.declared.call_kind.CallKind.TheVariants as kind
use Rattle.job_model.specs.declared.entry_point.EntryPoint.{EntryPoint}
use Rattle.job_model.specs.declared.entry_point.EntryPoint.TheVariants as point
use Rattle.kernel_model.proofs.Parts.{if-both, map_or-both}
use Rattle.kernel_model.specs.Application.{Application}
use Rattle.kernel_model.specs.Codes.{bad_parameters, busy, out_of_memory, success, target_dead}
use Rattle.kernel_model.specs.Instances.{held_by, is_held}
use Rattle.kernel_model.specs.Kernel.{Asks, CallPhase, Ends, Instance, Runs, Waits}
use Rattle.kernel_model.specs.Resume.{is_close, phase_seen}
use Rattle.own_model.proofs.InOrder.{IfAny, if_any_map, if_any_of, if_any_then}
use Rattle.own_model.proofs.Maps.{get-inserted, get-removed}
use Rattle.own_model.specs.Solo.{is_no_buffer, phase_at}
use Rattle.own_model.specs.declared.own_event.BackInput.{BackInput}
use Rattle.own_model.specs.declared.own_event.OwnInput.{OwnInput}
use Rattle.own_model.specs.declared.own_event.OwnInput.TheVariants.{Copied, Faulty, Unread}
use Rattle.ta_params.specs.declared.copied_params.CopiedParams.{CopiedParams}
use Rattle.ta_params.specs.declared.login.Login.{Login}
use Rattle.group_solo.proofs.Homes.{at_home}
use Rattle.group_solo.proofs.Numbering.{AllNumbers, all-get, all-insert, all-more, all-remove}
use Rattle.group_solo.specs.Standing.{IsNumbered}
use Rattle.group_solo.specs.Stepping.{HasNumber}

-- ---- one call more

-- it is numbered but for how many calls it has, which are below so many
record IsBelow (bound : ℕ) (g : Group) : Type 0 where
  rising : IsRising g.sessions
  given : AllNumbers (λ number. number < g.next_session) g.sessions
  called : (number : ℕ) (call : GroupCall) → get g.calls number ≡ Some call → call.session < bound
  sessions : g.next_session ≤ bound
  instances : g.next_instance ≤ bound + 1

-- with this call
called_below : (bound : ℕ) (calls : NumberMap GroupCall) (number : ℕ) (call : GroupCall) →
    ((other : ℕ) (own : GroupCall) → get calls other ≡ Some own → own.session < bound) → call.session < bound →
    (other : ℕ) (own : GroupCall) → get (insert calls number call) other ≡ Some own → own.session < bound
called_below bound calls number call all small other own there =
    get-inserted calls number call other own there (λ at same. subst (λ (c : GroupCall). c.session < bound) same small) (all other own)

comes_numbered : (g : Group) (call : GroupCall) → g.entered < 2 ^ 32 → IsBelow (g.entered + 1) g → call.session < g.entered + 1 → IsNumbered (comes_in g call)
comes_numbered g call few is small = record {
  few = omega arith;
  rising = is.rising;
  given = is.given;
  called = called_below (g.entered + 1) g.calls g.entered call is.called small;
  sessions = is.sessions;
  instances = is.instances;
}

-- with another instance, other calls that wait, and another number of the next instance
still_below : (g : Group) (instance : Option (ℕ × Instance)) (waiting : List GroupWaiter) (next : ℕ) → IsNumbered g → next ≤ g.entered + 1 + 1 →
    IsBelow (g.entered + 1) (record g { instance = instance; waiting = waiting; next_instance = next })
still_below g instance waiting next numbered few = record {
  rising = numbered.rising;
  given = numbered.given;
  called = λ number call there. (let small = numbered.called number call there in omega (arith, small));
  sessions = (let less = numbered.sessions in omega (arith, less));
  instances = few;
}

instances_below : (g : Group) → IsNumbered g → g.next_instance ≤ g.entered + 1 + 1
instances_below g numbered = let few = numbered.instances in omega (arith, few)

-- with one session more
session_below : (bound : ℕ) (g : Group) (login : Login) (instance : ℕ) → IsBelow bound g → g.next_session + 1 ≤ bound → IsBelow bound (with_session g login instance)
session_below bound g login instance is few = record {
  rising = IsRising-insert g.sessions g.next_session _ is.rising;
  given = all-insert (λ number. number < g.next_session + 1) g.sessions g.next_session _ (omega arith)
      (all-more (λ number. number < g.next_session) (λ number. number < g.next_session + 1) (λ number less. omega (arith, less)) g.sessions is.given);
  called = is.called;
  sessions = few;
  instances = is.instances;
}

-- ---- a call changes

-- with another instance and other calls that wait
call_numbered : (g : Group) (instance : Option (ℕ × Instance)) (waiting : List GroupWaiter) (number : ℕ) (call : GroupCall) → IsNumbered g → call.session < g.entered →
    IsNumbered (with_call (record g { instance = instance; waiting = waiting }) number call)
call_numbered g instance waiting number call is small = record {
  few = is.few;
  rising = is.rising;
  given = is.given;
  called = called_below g.entered g.calls number call is.called small;
  sessions = is.sessions;
  instances = is.instances;
}

gone_numbered : (g : Group) (number : ℕ) → IsNumbered g → IsNumbered (record g { calls = remove g.calls number })
gone_numbered g number is = record {
  few = is.few;
  rising = is.rising;
  given = is.given;
  called = λ other own there. is.called other own (get-removed g.calls number other own there);
  sessions = is.sessions;
  instances = is.instances;
}

-- ---- what an end makes of the sessions

-- they still rise and were given
record AreGiven (next : ℕ) (sessions : NumberMap GroupSession) : Type 0 where
  rising : IsRising sessions
  given : AllNumbers (λ number. number < next) sessions

removed_given : (next : ℕ) (sessions : NumberMap GroupSession) (number : ℕ) → AreGiven next sessions → AreGiven next (remove sessions number)
removed_given next sessions number are =
    record { rising = IsRising-remove sessions number are.rising; given = all-remove (λ n. n < next) sessions number are.given }

opened_given : (next : ℕ) (sessions : NumberMap GroupSession) (number context : ℕ) → AreGiven next sessions → AreGiven next (opened_with sessions number context)
opened_given next sessions number context are = by (get sessions number) refl
  where
    by : (o : Option GroupSession) → get sessions number ≡ o →
        AreGiven next (option_map_or (λ (session : GroupSession). insert sessions number (record session { context = context; opened = true })) o sessions)
    by None none = are
    by (Some session) there = record {
      rising = IsRising-insert sessions number _ are.rising;
      given = all-insert (λ n. n < next) sessions number _ (all-get (λ n. n < next) sessions number session are.given there) are.given;
    }

ended_given : (next : ℕ) (call_kind : CallKind) (sessions : NumberMap GroupSession) (number : ℕ) (end : End) → AreGiven next sessions →
    AreGiven next (sessions_ended call_kind sessions number end)
ended_given next kind.Open sessions number end are =
    if-both (AreGiven next) (end.result.result == success) (opened_with sessions number end.context) (remove sessions number)
    (opened_given next sessions number end.context are) (removed_given next sessions number are)
ended_given next (kind.Invoke func) sessions number end are = are
ended_given next kind.Close sessions number end are = removed_given next sessions number are
ended_given next kind.Settled sessions number end are = are

panicked_given : (next : ℕ) (call_kind : CallKind) (sessions : NumberMap GroupSession) (number : ℕ) → AreGiven next sessions →
    AreGiven next (sessions_panicked call_kind sessions number)
panicked_given next kind.Open sessions number are = removed_given next sessions number are
panicked_given next (kind.Invoke func) sessions number are = are
panicked_given next kind.Close sessions number are = removed_given next sessions number are
panicked_given next kind.Settled sessions number are = are

unrun_given : (next : ℕ) (call_kind : CallKind) (sessions : NumberMap GroupSession) (number : ℕ) → AreGiven next sessions →
    AreGiven next (sessions_unrun call_kind sessions number)
unrun_given next kind.Open sessions number are = removed_given next sessions number are
unrun_given next (kind.Invoke func) sessions number are = are
unrun_given next kind.Close sessions number are = are
unrun_given next kind.Settled sessions number are = are

-- ---- calls that come in

settles_numbered : (g : Group) (area : Bool) (code : ℕ) → IsNumbered g → g.entered < 2 ^ 32 → IsNumbered (settles g area code)
settles_numbered g area code is few =
    let small : 0 < g.entered + 1 = omega arith in
    comes_numbered g (fresh_call (about_none area) (Ends (of_tee code) no_params false None)) few
    (still_below g g.instance g.waiting g.next_instance is (instances_below g is)) small

-- a session that is there was given its number
session_given : (g : Group) (number : ℕ) (session : GroupSession) → IsNumbered g → get g.sessions number ≡ Some session → number < g.entered + 1
session_given g number session is there =
    let given : number < g.next_session = all-get (λ n. n < g.next_session) g.sessions number session is.given there in
    let sessions = is.sessions in
    omega (arith, given, sessions)

home_given : (g : Group) (number : ℕ) (at : Home) → IsNumbered g → home g number ≡ Some at → at.number < g.entered + 1
home_given g number at is e =
    let there = at_home g number at e in
    subst (λ (n : ℕ). n < g.entered + 1) (sym there.number_is) (session_given g number at.session is there.session)

works_numbered : (app : Application) (g : Group) (coming : Coming) (at : Home) (params : CopiedParams) (points : List EntryPoint) → IsNumbered g → g.entered < 2 ^ 32 →
    at.number < g.entered + 1 → IsNumbered (works_or_waits app g coming at params points)
works_numbered app g coming at params points is few small =
    let line : List GroupWaiter = g.waiting ++ record { call = g.entered; instance = at.session.instance } ∷ [] in
    let start : Start = start_at g g.entered at.session params false in
    let there : Option (ℕ × Instance) = Some (at.session.instance, held_by g.entered at.instance) in
    if-both IsNumbered (is_held at.instance) (waits g (about_home coming at) params) _
    (comes_numbered (record g { waiting = line }) (fresh_call (about_home coming at) (Waits params)) few
    (still_below g g.instance line g.next_instance is (instances_below g is)) small)
    (comes_numbered (record g { instance = there }) (fresh_call (about_home coming at) (Runs (job_on app start at.instance points))) few
    (still_below g there g.waiting g.next_instance is (instances_below g is)) small)

-- the session of an open gets a number below those of calls
one_session_more : (g : Group) → IsNumbered g → g.next_session + 1 ≤ g.entered + 1
one_session_more g is = let few = is.sessions in omega (arith, few)

next_below : (g : Group) → IsNumbered g → g.next_session < g.entered + 1
next_below g is = let few = is.sessions in omega (arith, few)

-- an open that waits
open_waits_numbered : (g : Group) (params : CopiedParams) (opener : Opener) (number : ℕ) → IsNumbered g → g.entered < 2 ^ 32 → IsNumbered (open_waits g params opener number)
open_waits_numbered g params opener number is few =
    let line : List GroupWaiter = g.waiting ++ record { call = g.entered; instance = number } ∷ [] in
    comes_numbered (with_session (record g { waiting = line }) opener.login number) (fresh_call (about_open g opener.area number) (Waits params)) few
    (session_below (g.entered + 1) (record g { waiting = line }) opener.login number (still_below g g.instance line g.next_instance is (instances_below g is))
    (one_session_more g is)) (next_below g is)

-- one that begins on an instance, which gets or has this number
abbrev begun_on : Group → ℕ → ℕ → Instance → Job → Begun
begun_on g next number instance job =
    record { group = with_instance (record g { next_instance = next }) number instance; instance = number; job = job }

open_begins_numbered : (g : Group) (opener : Opener) (next number : ℕ) (instance : Instance) (job : Job) → IsNumbered g → g.entered < 2 ^ 32 →
    next ≤ g.entered + 1 + 1 → IsNumbered (open_begins g opener (begun_on g next number instance job))
open_begins_numbered g opener next number instance job is few nexts =
    let with_it : Group = record g { next_instance = next; instance = Some (number, instance) } in
    comes_numbered (with_session with_it opener.login number) (fresh_call (about_open g opener.area number) (Runs job)) few
    (session_below (g.entered + 1) with_it opener.login number (still_below g (Some (number, instance)) g.waiting next is nexts)
    (one_session_more g is)) (next_below g is)

made_numbered : (app : Application) (g : Group) (params : CopiedParams) (opener : Opener) → IsNumbered g → g.entered < 2 ^ 32 →
    IsNumbered (open_begins g opener (opens_made app g (start_of_open g params opener.login)))
made_numbered app g params opener is few =
    let start : Start = start_of_open g params opener.login in
    let next = g.next_instance in
    let one_more = is.instances in
    map_or-both (λ (begun : Begun). IsNumbered (open_begins g opener begun)) (opens_new app g start) (awaited_number g)
    (opens_new app (record g { next_instance = next + 1 }) start next)
    (λ number. open_begins_numbered g opener next number _ (opens_new app g start number).job is few (instances_below g is))
    (open_begins_numbered g opener (next + 1) next _ (opens_new app (record g { next_instance = next + 1 }) start next).job is few (omega (arith, one_more)))

opens_numbered : (app : Application) (g : Group) (params : CopiedParams) (opener : Opener) → IsNumbered g → g.entered < 2 ^ 32 → IsNumbered (opens app g params opener)
opens_numbered app g params opener is few =
    let start : Start = start_of_open g params opener.login in
    map_or-both IsNumbered (opens_there app g params opener) g.instance (open_begins g opener (opens_made app g start))
    (λ there.
    if-both IsNumbered (is_held there.1) (open_waits g params opener there.0) (open_begins g opener (opens_kept app g start there))
    (open_waits_numbered g params opener there.0 is few)
    (open_begins_numbered g opener g.next_instance there.0 _ (opens_kept app g start there).job is few (instances_below g is)))
    (made_numbered app g params opener is few)

opens_with_numbered : (app : Application) (g : Group) (input : OwnInput) (opener : Opener) → IsNumbered g → g.entered < 2 ^ 32 →
    IfAny IsNumbered (opens_with app g input opener)
opens_with_numbered app g (Copied params) opener is few = opens_numbered app g params opener is few
opens_with_numbered app g Faulty opener is few = settles_numbered g opener.area bad_parameters is few
opens_with_numbered app g Unread opener is few = tt

tested_numbered : (app : Application) (g : Group) (input : OwnInput) (opener : Opener) (limited : Bool) → IsNumbered g → g.entered < 2 ^ 32 →
    IfAny IsNumbered (opens_tested app g input opener limited)
tested_numbered app g input opener limited is few =
    if-both (IfAny IsNumbered) (is_dead g) (Some (settles g opener.area target_dead)) _ (settles_numbered g opener.area target_dead is few)
    (if-both (IfAny IsNumbered) (is_taken app g) (Some (settles g opener.area busy)) _ (settles_numbered g opener.area busy is few)
    (if-both (IfAny IsNumbered) limited (Some (settles g opener.area out_of_memory)) (opens_with app g input opener)
    (settles_numbered g opener.area out_of_memory is few) (opens_with_numbered app g input opener is few)))

invokes_with_numbered : (app : Application) (g : Group) (func : ℕ) (input : OwnInput) (area : Bool) (at : Home) → IsNumbered g → g.entered < 2 ^ 32 →
    at.number < g.entered + 1 → IfAny IsNumbered (invokes_with app g func input area at)
invokes_with_numbered app g func (Copied params) area at is few small =
    works_numbered app g (record { kind = kind.Invoke func; area = area }) at params (point.Invoke func ∷ []) is few small
invokes_with_numbered app g func Faulty area at is few small = settles_numbered g area bad_parameters is few
invokes_with_numbered app g func Unread area at is few small = tt

invokes_numbered : (app : Application) (g : Group) (func : ℕ) (input : OwnInput) (area : Bool) (at : Home) → IsNumbered g → g.entered < 2 ^ 32 →
    at.number < g.entered + 1 → IfAny IsNumbered (invokes app g func input area at)
invokes_numbered app g func input area at is few small =
    if-both (IfAny IsNumbered) at.instance.dead (Some (settles g area target_dead)) (invokes_with app g func input area at)
    (settles_numbered g area target_dead is few) (invokes_with_numbered app g func input area at is few small)

closes_numbered : (app : Application) (g : Group) (area : Bool) (at : Home) → IsNumbered g → g.entered < 2 ^ 32 → at.number < g.entered + 1 →
    IsNumbered (closes app g area at)
closes_numbered app g area at is few small =
    works_numbered app g (record { kind = kind.Close; area = area }) at no_params (closing_points app g at.number at.session.instance) is few small

-- ---- calls that come back

sees_numbered : (g : Group) (number done_by_now : ℕ) (call : GroupCall) → IsNumbered g → call.session < g.entered →
    IfAny IsNumbered (sees g number done_by_now call)
sees_numbered g number done_by_now call is small =
    if_any_map IsNumbered _ (phase_at (done_by_now - call.steps) call.phase)
    (λ phase there. call_numbered g g.instance g.waiting number (record call { seen = true; steps = done_by_now; phase = phase_seen phase }) is small)

room_numbered : (g : Group) (number : ℕ) (enough : Bool) (call : GroupCall) → IsNumbered g → call.session < g.entered →
    IfAny IsNumbered (finds_room g number enough call)
room_numbered g number enough call is small =
    if-both (IfAny IsNumbered) (finds_it_gone g call call.kind call.phase) (Some (with_call g number (record call { room = Some enough }))) None
    (call_numbered g g.instance g.waiting number (record call { room = Some enough }) is small) tt

gives_up_numbered : (g : Group) (w : Waiting) (code : ℕ) → IsNumbered g → w.call.session < g.entered → IsNumbered (gives_up g w code)
gives_up_numbered g w code is small =
    call_numbered g g.instance _ w.number (record w.call { phase = Ends (of_tee code) no_params false None }) is small

-- on an instance of this number
goes_on_numbered : (g : Group) (w : Waiting) (number : ℕ) (instance : Instance) (job : Job) → IsNumbered g → w.call.session < g.entered →
    IsNumbered (goes_on w (begun_on g g.next_instance number instance job))
goes_on_numbered g w number instance job is small =
    call_numbered g (Some (number, instance)) _ w.number (record w.call { phase = Runs job }) is small

again_numbered : (app : Application) (g : Group) (w : Waiting) (session : GroupSession) (call_kind : CallKind) (found : Option Instance) → IsNumbered g →
    w.call.session < g.entered → IfAny IsNumbered (begins_again app g w session call_kind found)
again_numbered app g w session kind.Open (Some instance) is small = goes_on_numbered g w w.call.instance _ _ is small
again_numbered app g w session kind.Open None is small =
    if_any_map IsNumbered (opens_again app g w session) w.call.room
    (λ enough told.
    if-both IsNumbered enough (goes_on w (opens_new app g (start_again g w session) w.call.instance)) (gives_up g w out_of_memory)
    (goes_on_numbered g w w.call.instance _ _ is small) (gives_up_numbered g w out_of_memory is small))
again_numbered app g w session (kind.Invoke func) (Some instance) is small = goes_on_numbered g w w.call.instance _ _ is small
again_numbered app g w session (kind.Invoke func) None is small = gives_up_numbered g w bad_parameters is small
again_numbered app g w session kind.Close (Some instance) is small = goes_on_numbered g w w.call.instance _ _ is small
again_numbered app g w session kind.Close None is small = gives_up_numbered g w bad_parameters is small
again_numbered app g w session kind.Settled found is small = gives_up_numbered g w bad_parameters is small

waits_on_numbered : (g : Group) (w : Waiting) → IsNumbered g → w.call.session < g.entered → IsNumbered (waits_on g w)
waits_on_numbered g w is small =
    if-both IsNumbered (is_no_buffer w.input) (gives_up g w out_of_memory) (with_call g w.number w.call) (gives_up_numbered g w out_of_memory is small)
    (call_numbered g g.instance g.waiting w.number w.call is small)

tested_again_numbered : (app : Application) (g : Group) (w : Waiting) (session : GroupSession) (found : Option Instance) → IsNumbered g → w.call.session < g.entered →
    IfAny IsNumbered (tested_again app g w session found)
tested_again_numbered app g w session found is small =
    if-both (IfAny IsNumbered) (option_map_or (λ (instance : Instance). instance.dead) found false && not (is_close w.call.kind))
    (Some (gives_up g w target_dead)) _ (gives_up_numbered g w target_dead is small)
    (if-both (IfAny IsNumbered) (option_map_or is_held found false) (Some (waits_on g w)) (begins_again app g w session w.call.kind found)
    (waits_on_numbered g w is small) (again_numbered app g w session w.call.kind found is small))

retests_numbered : (app : Application) (g : Group) (w : Waiting) → IsNumbered g → w.call.session < g.entered → IfAny IsNumbered (retests app g w)
retests_numbered app g w is small =
    map_or-both (IfAny IsNumbered) (λ (session : GroupSession). tested_again app g w session (instance_at g w.call.instance))
    (get g.sessions w.call.session) (Some (gives_up g w bad_parameters))
    (λ session. tested_again_numbered app g w session (instance_at g w.call.instance) is small) (gives_up_numbered g w bad_parameters is small)

back_in_numbered : (app : Application) (g : Group) (number : ℕ) (call : GroupCall) (input : BackInput) (phase : CallPhase) → IsNumbered g → call.session < g.entered →
    IfAny IsNumbered (comes_back_in app g number call input phase)
back_in_numbered app g number call input (Runs job) is small = tt
back_in_numbered app g number call input (Asks job wanted payload) is small = call_numbered g g.instance g.waiting number _ is small
back_in_numbered app g number call input (Waits params) is small =
    retests_numbered app g (record { number = number; call = call; params = params; input = input }) is small
back_in_numbered app g number call input (Ends result params told wakes) is small = call_numbered g g.instance g.waiting number _ is small

back_numbered : (app : Application) (g : Group) (number : ℕ) (input : BackInput) (call : GroupCall) → IsNumbered g → call.session < g.entered →
    IfAny IsNumbered (comes_back app g number input call)
back_numbered app g number input call is small = back_in_numbered app g number _ input call.phase is small

-- ---- calls that go out

-- the call and the others, before it goes out
record IsNumberedGoing (going : Going) : Type 0 where
  others : IsNumbered going.group
  call : going.call.session < going.group.entered

-- with other sessions of those numbers, and another instance
with_sessions : (g : Group) (sessions : NumberMap GroupSession) (instance : Option (ℕ × Instance)) → IsNumbered g → AreGiven g.next_session sessions →
    IsNumbered (record g { sessions = sessions; instance = instance })
with_sessions g sessions instance is are = record {
  few = is.few;
  rising = are.rising;
  given = are.given;
  called = is.called;
  sessions = is.sessions;
  instances = is.instances;
}

are_given : (g : Group) → IsNumbered g → AreGiven g.next_session g.sessions
are_given g is = record { rising = is.rising; given = is.given }

stopped_numbered : (g : Group) (call : GroupCall) (why : JobStop) → IsNumbered g → call.session < g.entered → IsNumberedGoing (stopped g call why)
stopped_numbered g call (steps.Ends end) is small = record {
  others = with_sessions g _ _ is (ended_given g.next_session call.kind g.sessions call.session end (are_given g is));
  call = small;
}
stopped_numbered g call (steps.Panics code) is small = record {
  others = with_sessions g _ _ is (panicked_given g.next_session call.kind g.sessions call.session (are_given g is));
  call = small;
}
stopped_numbered g call (steps.Asks wanted payload left) is small = record { others = is; call = small }

taken_numbered : (g : Group) (call : GroupCall) (grant : Grant) → IsNumbered g → call.session < g.entered → IfAny IsNumberedGoing (taken_on g call grant)
taken_numbered g call (Left job) is small = tt
taken_numbered g call (Stopped used why) is small = stopped_numbered g (record call { steps = call.steps + used }) why is small

going_numbered : (most : ℕ) (g : Group) (call : GroupCall) (phase : CallPhase) → IsNumbered g → call.session < g.entered → IfAny IsNumberedGoing (going_in most g call phase)
going_numbered most g call (Runs job) is small =
    if_any_then IsNumberedGoing (taken_on g call) (grant_of most job) (λ grant granted. taken_numbered g call grant is small)
going_numbered most g call (Asks job wanted payload) is small = record { others = is; call = small }
going_numbered most g call (Waits params) is small = record { others = is; call = small }
going_numbered most g call (Ends result params true wakes) is small = record { others = is; call = small }
going_numbered most g call (Ends result params false wakes) is small = record {
  others = with_sessions g _ g.instance is (unrun_given g.next_session call.kind g.sessions call.session (are_given g is));
  call = small;
}

abbrev IsNumberedThen : Answered → Type 0
IsNumberedThen answered = IsNumbered answered.0

out_numbered : (g : Group) (number : ℕ) (call : GroupCall) (phase : CallPhase) → IsNumbered g → call.session < g.entered → IfAny IsNumberedThen (goes_out_in g number call phase)
out_numbered g number call (Runs job) is small = tt
out_numbered g number call (Asks job wanted payload) is small = call_numbered g g.instance g.waiting number call is small
out_numbered g number call (Waits params) is small = call_numbered g g.instance g.waiting number call is small
out_numbered g number call (Ends result params told (Some woken)) is small = call_numbered g g.instance g.waiting number call is small
out_numbered g number call (Ends result params told None) is small =
    if-both IsNumberedThen call.buffer (with_call g number (record call { buffer = false }), _) (record g { calls = remove g.calls number }, _)
    (call_numbered g g.instance g.waiting number (record call { buffer = false }) is small) (gone_numbered g number is)

goes_out_numbered : (most : ℕ) (g : Group) (number : ℕ) (call : GroupCall) → IsNumbered g → call.session < g.entered → IfAny IsNumberedThen (goes_out most g number call)
goes_out_numbered most g number call is small =
    if_any_then IsNumberedThen (λ (going : Going). goes_out_in going.group number going.call going.call.phase) (going_in most g call call.phase)
    (λ going comes.
    let so = if_any_of IsNumberedGoing (going_in most g call call.phase) going (going_numbered most g call call.phase is small) comes in
    out_numbered going.group number going.call going.call.phase so.others so.call)

-- ---- events

silent_numbered : (o : Option Group) → IfAny IsNumbered o → IfAny IsNumberedThen (option_map silent o)
silent_numbered None is = tt
silent_numbered (Some g) is = is

step_numbered : (most : ℕ) (app : Application) (g : Group) (came : GroupEvent) → IsNumbered g → HasNumber g.entered came → IfAny IsNumberedThen (step most app g came)
step_numbered most app g (Open input login limited area) is few =
    let opener : Opener = record { login = login; area = area } in
    silent_numbered (opens_tested app g input opener limited) (tested_numbered app g input opener limited is few)
step_numbered most app g (Invoke session func input area) is few =
    silent_numbered (option_and_then (invokes app g func input area) (home g session))
    (if_any_then IsNumbered (invokes app g func input area) (home g session)
    (λ at there. invokes_numbered app g func input area at is few (home_given g session at is there)))
step_numbered most app g (Close session area) is few =
    if_any_map IsNumberedThen (λ (at : Home). silent (closes app g area at)) (home g session)
    (λ at there. closes_numbered app g area at is few (home_given g session at is there))
step_numbered most app g (Cancel session) is few =
    if_any_map IsNumberedThen (λ (at : Home). silent (settles g false success)) (home g session) (λ at there. settles_numbered g false success is few)
step_numbered most app g (Seen number done_by_now) is few =
    silent_numbered (option_and_then (sees g number done_by_now) (get g.calls number))
    (if_any_then IsNumbered (sees g number done_by_now) (get g.calls number)
    (λ call found. sees_numbered g number done_by_now call is (is.called number call found)))
step_numbered most app g (Room number enough) is few =
    silent_numbered (option_and_then (finds_room g number enough) (get g.calls number))
    (if_any_then IsNumbered (finds_room g number enough) (get g.calls number)
    (λ call found. room_numbered g number enough call is (is.called number call found)))
step_numbered most app g (Back number input) is few =
    silent_numbered (option_and_then (comes_back app g number input) (get g.calls number))
    (if_any_then IsNumbered (comes_back app g number input) (get g.calls number)
    (λ call found. back_numbered app g number input call is (is.called number call found)))
step_numbered most app g (Out number) is few =
    if_any_then IsNumberedThen (goes_out most g number) (get g.calls number)
    (λ call found. goes_out_numbered most g number call is (is.called number call found))

-- they are those that were given after each event, where a call that comes in has 32 bits for its number
pub numbered_after : (most : ℕ) (app : Application) (g next : Group) (came : GroupEvent) (told : Option GroupReply) → IsNumbered g → HasNumber g.entered came →
    step most app g came ≡ Some (next, told) → IsNumbered next
numbered_after most app g next came told is few e =
    if_any_of IsNumberedThen (step most app g came) (next, told) (step_numbered most app g came is few) e
