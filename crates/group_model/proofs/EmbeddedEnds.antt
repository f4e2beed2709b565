-- Calls that go out, in the machine of a session and in that of the group which has this one session.
use Rattle.std.proofs.Common.{◌≡◌, ℕ, ◌+◌, Bool, true, false, List, [], Option, Some, None, refl, ap, subst, sym, ◌∙◌}
use Rattle.std.specs.Prelude.{◌&&◌, ◌||◌, ◌==◌, find, map, not, slice_get, if◌then◌else◌}
use Rattle.std.specs.Option.{option_map, option_map_or, option_and_then}
use Rattle.base.specs.NumberMap.{NumberMap, remove}
use Rattle.job_model.specs.declared.call_kind.CallKind.{CallKind}
use Rattle.job_model.specs.declared.call_kind.CallKind.TheVariants as kind
use Rattle.job_model.specs.Job.{Job, of_tee}
use Rattle.job_model.specs.Point.{no_params}
use Rattle.job_model.specs.Steps.{End, Grant, JobStop, Left, Stopped, grant_of}
use Rattle.job_model.specs.Steps as steps
use Rattle.rpc_msgs.specs.Place.{is_placed}
use Rattle.rpc_msgs.specs.declared.rpc.Rpc.{Rpc}
use Rattle.rpc_msgs.specs.declared.rpc.Rpc.TheVariants as rpc
use Rattle.ta_params.specs.declared.call_result.CallResult.{CallResult}
use Rattle.ta_params.specs.declared.copied_params.CopiedParams.{CopiedParams}
use Rattle.kernel_model.specs.Codes.{success, target_dead}
use Rattle.kernel_model.specs.Instances.{given_back, is_held, killed}
use Rattle.kernel_model.specs.Kernel.{Asks, CallPhase, Ends, Instance, Runs, Waits}
use Rattle.own_model.proofs.InOrder.{IfAny, if_any_of, if_any_then}
use Rattle.own_model.specs.InOrder.{Fits}
use Rattle.own_model.specs.Own.{ended}
use Rattle.own_model.specs.Solo.{OwnCall, OwnSession, Solo, is_opened, session_ended, session_panicked, session_unrun}
use Rattle.own_model.specs.Solo as own
use Rattle.own_model.specs.declared.own_reply.OwnReply.{OwnReply}
use Rattle.own_model.specs.declared.own_reply.OwnReply.TheVariants as reply
use Rattle.group_model.specs.Group.{Answered, Going, Group, GroupCall, GroupSession, GroupWaiter, asks, gives_back}
use Rattle.group_model.specs.Group.{goes_out, goes_out_in, going_in, has_opened, instance_at, instance_back, leaves, opened_by, opened_with}
use Rattle.group_model.specs.Group.{sessions_ended, sessions_panicked, sessions_unrun, shows, stopped, taken_on, woken_by}
use Rattle.group_model.specs.declared.group_reply.GroupReply.{GroupReply}
use Rattle.group_model.specs.Embedding.{call_as, instance_as, instance_of, opened_as}
use Rattle.group_model.specs.Embedding.{sessions_as, waiter_as}
use Rattle.group_model.proofs.EmbeddedParts.{first_as, found-mapped, if-mapped, remove_as, then-mapped}
use Rattle.group_model.proofs.EmbeddedCalls.{instance_there}
use Rattle.group_model.proofs.EmbeddedReturns.{with_call_as}

-- ---- what an end leaves

opened_at : (test : Bool) (session : OwnSession) (context : ℕ)
    → (if test
    then opened_with (sessions_as (Some session)) 0 context
    else remove (sessions_as (Some session)) 0)
    ≡ sessions_as (if test then Some (record session { context = context; opened = true }) else None)
opened_at true session context = refl
opened_at false session context = refl

none_at : (test : Bool) (context : ℕ)
    → (if test then opened_with [] 0 context else remove [] 0) ≡ []
none_at true context = refl
none_at false context = refl

ended_as : (call_kind : CallKind) (end : End) (session : Option OwnSession)
    → sessions_ended call_kind (sessions_as session) 0 end
    ≡ sessions_as (option_and_then (session_ended call_kind end) session)
ended_as kind.Open end None = none_at (end.result.result == success) end.context
ended_as kind.Open end (Some session) = opened_at (end.result.result == success) session end.context
ended_as (kind.Invoke func) end None = refl
ended_as (kind.Invoke func) end (Some session) = refl
ended_as kind.Close end None = refl
ended_as kind.Close end (Some session) = refl
ended_as kind.Settled end None = refl
ended_as kind.Settled end (Some session) = refl

panicked_as : (call_kind : CallKind) (session : Option OwnSession)
    → sessions_panicked call_kind (sessions_as session) 0
    ≡ sessions_as (option_and_then (session_panicked call_kind) session)
panicked_as kind.Open None = refl
panicked_as kind.Open (Some session) = refl
panicked_as (kind.Invoke func) None = refl
panicked_as (kind.Invoke func) (Some session) = refl
panicked_as kind.Close None = refl
panicked_as kind.Close (Some session) = refl
panicked_as kind.Settled None = refl
panicked_as kind.Settled (Some session) = refl

unrun_as : (call_kind : CallKind) (session : Option OwnSession)
    → sessions_unrun call_kind (sessions_as session) 0 ≡ sessions_as (option_and_then (session_unrun call_kind) session)
unrun_as kind.Open None = refl
unrun_as kind.Open (Some session) = refl
unrun_as (kind.Invoke func) None = refl
unrun_as (kind.Invoke func) (Some session) = refl
unrun_as kind.Close None = refl
unrun_as kind.Close (Some session) = refl
unrun_as kind.Settled None = refl
unrun_as kind.Settled (Some session) = refl

alone_opened : (test : Bool) → (test || false) ≡ test
alone_opened true = refl
alone_opened false = refl

opened_same : (session : Option OwnSession) → has_opened (sessions_as session) 1 ≡ is_opened session
opened_same None = refl
opened_same (Some session) = alone_opened session.opened

kept_at : (test : Bool) (instance : Instance)
    → (if test then None else Some (1, instance)) ≡ instance_as (if test then None else Some instance)
kept_at true instance = refl
kept_at false instance = refl

-- the instance as a call gives it back
back_as : (session : Option OwnSession) (is_last : Bool) (change : Instance → Instance) (found : Option Instance)
    → option_map_or (λ (instance : Instance). instance_back (sessions_as session) is_last 1 (change instance))
    (option_and_then (λ (there : ℕ × Instance). if there.0 == 1 then Some there.1 else None) (instance_as found))
    (instance_as found)
    ≡ instance_as (option_and_then (λ (instance : Instance). own.instance_back session is_last (change instance)) found)
back_as session is_last change None = refl
back_as session is_last change (Some instance) =
    ap (λ (opened : Bool). if is_last || ((change instance).dead && not opened) then None else Some (1, change instance))
    (opened_same session)
    ∙ kept_at (is_last || ((change instance).dead && not (is_opened session))) (change instance)

gives_back_as : (z : Solo) (call : OwnCall) (session : Option OwnSession) (is_last : Bool) (change : Instance → Instance)
    → instance_of call.kind ≡ 1
    → gives_back (opened_as z) (call_as call) (sessions_as session) is_last change
    ≡ opened_as (own.gives_back z session is_last change)
gives_back_as z call session is_last change there =
    ap (λ (number : ℕ). gives_back (opened_as z) (record (call_as call) { instance = number }) (sessions_as session) is_last change)
    there
    ∙ ap (λ (found : Option (ℕ × Instance)). record (opened_as z) { sessions = sessions_as session; instance = found })
    (back_as session is_last change z.instance)

-- ---- whom an end wakes

woken_there : (z : Solo)
    → (if option_map_or is_held (instance_at (opened_as z) 1) false
    then None
    else option_map (λ (waiter : GroupWaiter). waiter.call)
    (find (λ (waiter : GroupWaiter). waiter.instance == 1) (map waiter_as z.waiting)))
    ≡ (if option_map_or is_held z.instance false then None else slice_get z.waiting 0)
woken_there z =
    ap (λ (found : Option Instance). if option_map_or is_held found false
    then None
    else option_map (λ (waiter : GroupWaiter). waiter.call)
    (find (λ (waiter : GroupWaiter). waiter.instance == 1) (map waiter_as z.waiting))) (instance_there z.instance)
    ∙ ap (λ (first : Option ℕ). if option_map_or is_held z.instance false then None else first) (first_as z.waiting)

woken_as : (z : Solo) (call : OwnCall) (call_kind : CallKind)
    → woken_by (opened_as z) (call_as (record call { kind = call_kind })) call_kind ≡ own.woken_by z call_kind
woken_as z call kind.Open = woken_there z
woken_as z call (kind.Invoke func) = woken_there z
woken_as z call kind.Close = woken_there z
woken_as z call kind.Settled = refl

-- ---- calls before they go out

abbrev pub going_as : own.Going → Going
going_as going = record { group = opened_as going.solo; call = call_as going.call }

-- a call that has this result and wakes this one
abbrev shown_with : Group → GroupCall → CallResult → CopiedParams → Option ℕ → Going
shown_with g call result params woken =
    record { group = g; call = record call { phase = Ends result params true woken } }

shows_as : (z : Solo) (call : OwnCall) (result : CallResult) (params : CopiedParams)
    → shows (opened_as z) (call_as call) result params ≡ going_as (own.shows z call result params)
shows_as z call result params =
    ap (λ (woken : Option ℕ). shown_with (opened_as z) (call_as call) result params woken)
    (woken_as z call call.kind)

-- a job that stops is of a call that has the instance
runs_there : (call_kind : CallKind) (job : Job) → Fits call_kind (Runs job) → instance_of call_kind ≡ 1
runs_there kind.Open job fits = refl
runs_there (kind.Invoke func) job fits = refl
runs_there kind.Close job fits = refl
runs_there kind.Settled job fits = absurd fits

stopped_as : (z : Solo) (call : OwnCall) (why : JobStop) → instance_of call.kind ≡ 1
    → stopped (opened_as z) (call_as call) why ≡ going_as (own.stopped z call why)
stopped_as z call (steps.Ends end) there =
    let session : Option OwnSession = option_and_then (session_ended call.kind end) z.session in
    let change : Instance → Instance = given_back end.memory end.objects in
    ap (λ (sessions : NumberMap GroupSession).
    shows (gives_back (opened_as z) (call_as call) sessions end.is_last change) (call_as call) end.result end.params)
    (ended_as call.kind end z.session)
    ∙ ap (λ (g : Group). shows g (call_as call) end.result end.params)
    (gives_back_as z call session end.is_last change there)
    ∙ shows_as (own.gives_back z session end.is_last change) call end.result end.params
stopped_as z call (steps.Panics code) there =
    let session : Option OwnSession = option_and_then (session_panicked call.kind) z.session in
    ap (λ (sessions : NumberMap GroupSession).
    shows (gives_back (opened_as z) (call_as call) sessions false killed) (call_as call) (of_tee target_dead) no_params)
    (panicked_as call.kind z.session)
    ∙ ap (λ (g : Group). shows g (call_as call) (of_tee target_dead) no_params)
    (gives_back_as z call session false killed there)
    ∙ shows_as (own.gives_back z session false killed) call (of_tee target_dead) no_params
stopped_as z call (steps.Asks wanted payload left) there = refl

taken_as : (z : Solo) (call : OwnCall) (grant : Grant) → instance_of call.kind ≡ 1
    → taken_on (opened_as z) (call_as call) grant ≡ option_map going_as (own.taken_on z call grant)
taken_as z call (Left job) there = refl
taken_as z call (Stopped used why) there =
    ap (λ (going : Going). Some going) (stopped_as z (record call { steps = call.steps + used }) why there)

going_in_as : (most : ℕ) (z : Solo) (call : OwnCall) (phase : CallPhase) → Fits call.kind phase
    → going_in most (opened_as z) (call_as call) phase ≡ option_map going_as (own.going_in most z call phase)
going_in_as most z call (Runs job) fits =
    then-mapped going_as (grant_of most job) (own.taken_on z call) (taken_on (opened_as z) (call_as call))
    (λ grant. taken_as z call grant (runs_there call.kind job fits))
going_in_as most z call (Asks job wanted payload) fits = refl
going_in_as most z call (Waits params) fits = refl
going_in_as most z call (Ends result params true wakes) fits = refl
going_in_as most z call (Ends result params false wakes) fits =
    let session : Option OwnSession = option_and_then (session_unrun call.kind) z.session in
    ap (λ (sessions : NumberMap GroupSession).
    Some (shows (record (opened_as z) { sessions = sessions }) (call_as call) result params))
    (unrun_as call.kind z.session)
    ∙ ap (λ (going : Going). Some going) (shows_as (record z { session = session }) call result params)

-- it keeps its kind
abbrev KeepsKind : OwnCall → own.Going → Type 0
KeepsKind call going = going.call.kind ≡ call.kind

kind_taken : (z : Solo) (call : OwnCall) (grant : Grant) → IfAny (KeepsKind call) (own.taken_on z call grant)
kind_taken z call (Left job) = tt
kind_taken z call (Stopped used (steps.Ends end)) = refl
kind_taken z call (Stopped used (steps.Panics code)) = refl
kind_taken z call (Stopped used (steps.Asks wanted payload left)) = refl

kind_kept : (most : ℕ) (z : Solo) (call : OwnCall) (phase : CallPhase)
    → IfAny (KeepsKind call) (own.going_in most z call phase)
kind_kept most z call (Runs job) =
    if_any_then (KeepsKind call) (own.taken_on z call) (grant_of most job) (λ grant _. kind_taken z call grant)
kind_kept most z call (Asks job wanted payload) = refl
kind_kept most z call (Waits params) = refl
kind_kept most z call (Ends result params true wakes) = refl
kind_kept most z call (Ends result params false wakes) = refl

-- ---- calls that go out

-- the session that is opened where a call of this kind is told this: the one that there is
abbrev pub opened_by_kind : Option CallKind → OwnReply → Option ℕ
opened_by_kind (Some kind.Open) (reply.Ended result origin outputs) = if result == success then Some 0 else None
opened_by_kind _ told = None

abbrev pub reply_by_kind : Option CallKind → OwnReply → GroupReply
reply_by_kind call_kind told = record { reply = told; opened = opened_by_kind call_kind told }

-- what the machine of the group does where a call of this kind goes out
abbrev pub answered_as : Option CallKind → own.Answered → Answered
answered_as call_kind answered = (opened_as answered.0, option_map (reply_by_kind call_kind) answered.1)

-- it is told this, with which this session is opened
abbrev telling : Group → OwnReply → Option ℕ → Answered
telling g told opened = (g, Some (record { reply = told; opened = opened }))

-- a reply with which no session is opened
pub record IsPlain (told : OwnReply) : Type 0 where
  pub opens : (call_kind : CallKind) → opened_by_kind (Some call_kind) told ≡ None

placed_as : (call_kind : CallKind) (test : Bool) (told : OwnReply) → IsPlain told
    → opened_by_kind (Some call_kind) (if test then told else reply.Alloc) ≡ None
placed_as call_kind true told plain = plain.opens call_kind
placed_as kind.Open false told plain = refl
placed_as (kind.Invoke func) false told plain = refl
placed_as kind.Close false told plain = refl
placed_as kind.Settled false told plain = refl

asks_as : (z : Solo) (number : ℕ) (call : OwnCall) (call_kind : CallKind) (wanted : Rpc) (told : OwnReply) → IsPlain told
    → asks (opened_as z) number (call_as call) wanted told
    ≡ answered_as (Some call_kind) (own.asks z number call wanted told)
asks_as z number call call_kind wanted told plain =
    let now : OwnReply = if is_placed call.area call.buffer wanted then told else reply.Alloc in
    ap (λ (g : Group). telling g now None) (with_call_as z number call)
    ∙ ap (λ (opened : Option ℕ). telling (opened_as (own.with_call z number call)) now opened)
    (sym (placed_as call_kind (is_placed call.area call.buffer wanted) told plain))

asked_plain : (wanted : Rpc) (payload : List ℕ) → IsPlain (reply.Ask wanted payload)
asked_plain wanted payload = record { opens = by_kind }
  where
    by_kind : (call_kind : CallKind) → opened_by_kind (Some call_kind) (reply.Ask wanted payload) ≡ None
    by_kind kind.Open = refl
    by_kind (kind.Invoke func) = refl
    by_kind kind.Close = refl
    by_kind kind.Settled = refl

sleep_plain : IsPlain reply.Sleep
sleep_plain = record { opens = by_kind }
  where
    by_kind : (call_kind : CallKind) → opened_by_kind (Some call_kind) reply.Sleep ≡ None
    by_kind kind.Open = refl
    by_kind (kind.Invoke func) = refl
    by_kind kind.Close = refl
    by_kind kind.Settled = refl

wake_plain : (woken : ℕ) → IsPlain (reply.Wake woken)
wake_plain woken = record { opens = by_kind }
  where
    by_kind : (call_kind : CallKind) → opened_by_kind (Some call_kind) (reply.Wake woken) ≡ None
    by_kind kind.Open = refl
    by_kind (kind.Invoke func) = refl
    by_kind kind.Close = refl
    by_kind kind.Settled = refl

free_plain : (call_kind : CallKind) → opened_by_kind (Some call_kind) reply.Free ≡ None
free_plain kind.Open = refl
free_plain (kind.Invoke func) = refl
free_plain kind.Close = refl
free_plain kind.Settled = refl

-- an end tells the session that it opens
ended_told : (call_kind : CallKind) (result : CallResult) (params : CopiedParams)
    → opened_by call_kind 0 result ≡ opened_by_kind (Some call_kind) (ended result params)
ended_told kind.Open result params = refl
ended_told (kind.Invoke func) result params = refl
ended_told kind.Close result params = refl
ended_told kind.Settled result params = refl

leaves_as : (z : Solo) (number : ℕ) (call : OwnCall) (result : CallResult) (params : CopiedParams)
    → leaves (opened_as z) number (call_as call) result params
    ≡ answered_as (Some call.kind) (own.leaves z number call (ended result params))
leaves_as z number call result params =
    let without : OwnCall = record call { buffer = false } in
    let told : OwnReply = ended result params in
    if-mapped (answered_as (Some call.kind)) call.buffer (own.with_call z number without, Some reply.Free)
    (record z { calls = remove z.calls number }, Some told) _ _
    (ap (λ (g : Group). telling g reply.Free None) (with_call_as z number without)
    ∙ ap (λ (opened : Option ℕ). telling (opened_as (own.with_call z number without)) reply.Free opened)
    (sym (free_plain call.kind)))
    (ap (λ (calls : NumberMap GroupCall).
    telling (record (opened_as z) { calls = calls }) told (opened_by call.kind 0 result)) (remove_as z.calls number)
    ∙ ap (λ (opened : Option ℕ). telling (opened_as (record z { calls = remove z.calls number })) told opened)
    (ended_told call.kind result params))

out_in_as : (z : Solo) (number : ℕ) (call : OwnCall) (phase : CallPhase)
    → goes_out_in (opened_as z) number (call_as call) phase
    ≡ option_map (answered_as (Some call.kind)) (own.goes_out_in z number call phase)
out_in_as z number call (Runs job) = refl
out_in_as z number call (Asks job wanted payload) =
    ap (λ (answered : Answered). Some answered)
    (asks_as z number call call.kind wanted (reply.Ask wanted payload) (asked_plain wanted payload))
out_in_as z number call (Waits params) =
    ap (λ (answered : Answered). Some answered) (asks_as z number call call.kind (rpc.Sleep number) reply.Sleep sleep_plain)
out_in_as z number call (Ends result params told (Some woken)) =
    ap (λ (answered : Answered). Some answered)
    (asks_as z number call call.kind (rpc.Wake woken) (reply.Wake woken) (wake_plain woken))
out_in_as z number call (Ends result params told None) =
    ap (λ (answered : Answered). Some answered) (leaves_as z number call result params)

pub out_as : (most : ℕ) (z : Solo) (number : ℕ) (call : OwnCall) → Fits call.kind call.phase
    → goes_out most (opened_as z) number (call_as call)
    ≡ option_map (answered_as (Some call.kind)) (own.goes_out most z number call)
out_as most z number call fits =
    let onward : Going → Option Answered =
    λ (going : Going). goes_out_in going.group number going.call going.call.phase in
    let own_onward : own.Going → Option own.Answered =
    λ (going : own.Going). own.goes_out_in going.solo number going.call going.call.phase in
    ap (λ (o : Option Going). option_and_then onward o) (going_in_as most z call call.phase fits)
    ∙ found-mapped (answered_as (Some call.kind)) going_as (own.going_in most z call call.phase) own_onward onward
    (λ going there. subst (λ (k : CallKind). onward (going_as going) ≡ option_map (answered_as (Some k)) (own_onward going))
    (if_any_of (KeepsKind call) (own.going_in most z call call.phase) going (kind_kept most z call call.phase) there)
    (out_in_as going.solo number going.call going.call.phase))
