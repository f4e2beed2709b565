-- Calls that come back, in the machine of a session and in that of the group which has this one session.
use Rattle.std.proofs.Common.{◌≡◌, ℕ, ◌-◌, true, false, List, [], ◌∷◌, Option, Some, None, refl, ap, ◌∙◌}
use Rattle.std.specs.Prelude.{◌&&◌, ◌||◌, if◌then◌else◌}
use Rattle.std.specs.Option.{option_map, option_map_or, option_and_then}
use Rattle.base.specs.NumberMap.{NumberMap, get}
use Rattle.job_model.specs.declared.call_kind.CallKind.{CallKind}
use Rattle.job_model.specs.declared.call_kind.CallKind.TheVariants as kind
use Rattle.job_model.specs.declared.entry_point.EntryPoint.{EntryPoint}
use Rattle.job_model.specs.declared.entry_point.EntryPoint.TheVariants as point
use Rattle.job_model.specs.Job.{of_tee}
use Rattle.job_model.specs.Point.{no_params}
use Rattle.ta_params.specs.declared.copied_params.CopiedParams.{CopiedParams}
use Rattle.kernel_model.specs.Application.{Application}
use Rattle.kernel_model.specs.Codes.{bad_parameters, out_of_memory, target_dead}
use Rattle.kernel_model.specs.Instances.{held_by, is_held, is_single}
use Rattle.kernel_model.specs.Kernel.{Asks, CallPhase, Ends, Instance, Runs, Waits}
use Rattle.kernel_model.specs.Resume.{phase_seen}
use Rattle.own_model.specs.InOrder.{Fits}
use Rattle.own_model.specs.Solo.{OwnCall, OwnSession, Solo, is_buffer, is_no_buffer, phase_at, phase_back, points_of}
use Rattle.own_model.specs.Solo.{wake_left}
use Rattle.own_model.specs.Solo as own
use Rattle.own_model.specs.declared.own_event.BackInput.{BackInput}
use Rattle.group_model.specs.Group.{Group, GroupCall, GroupSession, GroupWaiter, Start, Waiting, closing_points, comes_back}
use Rattle.group_model.specs.Group.{comes_back_in, gives_up, goes_on, begins_on, instance_at, job_on, retests, sees}
use Rattle.group_model.specs.Group.{start_again, tested_again, waits_on, with_call, without_waiter}
use Rattle.group_model.specs.Embedding.{call_as, instance_of, opened_as, session_as, sessions_as}
use Rattle.group_model.proofs.EmbeddedParts.{if-mapped, insert_as, map-mapped, without_as}
use Rattle.group_model.proofs.EmbeddedCalls.{closing_same, instance_there}

-- ---- one call changes

pub with_call_as : (z : Solo) (number : ℕ) (call : OwnCall)
    → with_call (opened_as z) number (call_as call) ≡ opened_as (own.with_call z number call)
with_call_as z number call =
    ap (λ (calls : NumberMap GroupCall). record (opened_as z) { calls = calls }) (insert_as z.calls number call)

some_as : (z : Solo) (number : ℕ) (call : OwnCall)
    → Some (with_call (opened_as z) number (call_as call)) ≡ Some (opened_as (own.with_call z number call))
some_as z number call = ap (λ (g : Group). Some g) (with_call_as z number call)

-- ---- a call sees that it was cancelled

pub sees_as : (z : Solo) (number done_by_now : ℕ) (call : OwnCall)
    → sees (opened_as z) number done_by_now (call_as call) ≡ option_map opened_as (own.sees z number done_by_now call)
sees_as z number done_by_now call =
    map-mapped opened_as (phase_at (done_by_now - call.steps) call.phase) _ _
    (λ phase. with_call_as z number (record call { seen = true; steps = done_by_now; phase = phase_seen phase }))

-- ---- a call that waited

-- the call is left out of those that wait, and is this
left_as : (z : Solo) (number : ℕ) (call : OwnCall)
    → with_call (without_waiter (opened_as z) number) number (call_as call)
    ≡ opened_as (own.with_call (own.without_waiter z number) number call)
left_as z number call =
    ap (λ (line : List GroupWaiter). with_call (record (opened_as z) { waiting = line }) number (call_as call))
    (without_as z.waiting number)
    ∙ with_call_as (own.without_waiter z number) number call

-- a call of this kind that waits, in both
abbrev own_waiting : ℕ → OwnCall → CallKind → CopiedParams → BackInput → own.Waiting
own_waiting number call call_kind params input =
    record { number = number; call = record call { kind = call_kind }; params = params; input = input }

abbrev waiting_as : own.Waiting → Waiting
waiting_as w = record { number = w.number; call = call_as w.call; params = w.params; input = w.input }

gives_up_as : (z : Solo) (w : own.Waiting) (code : ℕ)
    → gives_up (opened_as z) (waiting_as w) code ≡ opened_as (own.gives_up z w.number w.call code)
gives_up_as z w code =
    left_as z w.number (record w.call { phase = Ends (of_tee code) no_params false None })

waits_on_as : (z : Solo) (w : own.Waiting) → waits_on (opened_as z) (waiting_as w) ≡ opened_as (own.waits_on z w)
waits_on_as z w =
    if-mapped opened_as (is_no_buffer w.input) (own.gives_up z w.number w.call out_of_memory)
    (own.with_call z w.number w.call) _ _ (gives_up_as z w out_of_memory) (with_call_as z w.number w.call)

-- it begins with these entry points
goes_on_as : (app : Application) (z : Solo) (w : own.Waiting) (at : OwnSession × Instance) (points : List EntryPoint)
    → points ≡ points_of w.call.kind
    → goes_on (waiting_as w)
    (begins_on app (opened_as z) (start_again (opened_as z) (waiting_as w) (session_as at.0)) 1 at.1 points)
    ≡ opened_as (own.goes_on app z w at)
goes_on_as app z w at points same =
    let start : Start = start_again (opened_as z) (waiting_as w) (session_as at.0) in
    let held : Solo = record z { instance = Some (held_by w.number at.1) } in
    ap (λ (all : List EntryPoint). with_call (without_waiter (opened_as held) w.number) w.number
    (record (call_as w.call) { phase = Runs (job_on app start at.1 all) })) same
    ∙ left_as held w.number
    (record w.call { phase = Runs (job_on app start at.1 (points_of w.call.kind)) })

-- what is tested of it where session and instance are these
tested_as : (app : Application) (z : Solo) (number : ℕ) (call : OwnCall) (call_kind : CallKind) (params : CopiedParams)
    (input : BackInput) (session : OwnSession) (found : Option Instance) → is_single app ≡ false
    → Fits call_kind (Waits params)
    → tested_again app (opened_as z) (waiting_as (own_waiting number call call_kind params input))
    (session_as session) found
    ≡ Some (opened_as (option_map_or (own.tests_again app z (own_waiting number call call_kind params input))
    (option_map (λ (instance : Instance). (session, instance)) found)
    (own.gives_up z number (record call { kind = call_kind }) bad_parameters)))
tested_as app z number call kind.Open params input session found alone fits = absurd fits
tested_as app z number call kind.Settled params input session found alone fits = absurd fits
tested_as app z number call (kind.Invoke func) params input session None alone fits =
    ap (λ (g : Group). Some g) (gives_up_as z (own_waiting number call (kind.Invoke func) params input) bad_parameters)
tested_as app z number call kind.Close params input session None alone fits =
    ap (λ (g : Group). Some g) (gives_up_as z (own_waiting number call kind.Close params input) bad_parameters)
tested_as app z number call (kind.Invoke func) params input session (Some instance) alone fits =
    let w : own.Waiting = own_waiting number call (kind.Invoke func) params input in
    if-mapped (λ (after : Solo). Some (opened_as after)) (instance.dead && true) (own.gives_up z number w.call target_dead)
    (if is_held instance then own.waits_on z w else own.goes_on app z w (session, instance)) _ _
    (ap (λ (g : Group). Some g) (gives_up_as z w target_dead))
    (if-mapped (λ (after : Solo). Some (opened_as after)) (is_held instance) (own.waits_on z w)
    (own.goes_on app z w (session, instance)) _ _
    (ap (λ (g : Group). Some g) (waits_on_as z w))
    (ap (λ (g : Group). Some g) (goes_on_as app z w (session, instance) (point.Invoke func ∷ []) refl)))
tested_as app z number call kind.Close params input session (Some instance) alone fits =
    let w : own.Waiting = own_waiting number call kind.Close params input in
    if-mapped (λ (after : Solo). Some (opened_as after)) (instance.dead && false) (own.gives_up z number w.call target_dead)
    (if is_held instance then own.waits_on z w else own.goes_on app z w (session, instance)) _ _
    (ap (λ (g : Group). Some g) (gives_up_as z w target_dead))
    (if-mapped (λ (after : Solo). Some (opened_as after)) (is_held instance) (own.waits_on z w)
    (own.goes_on app z w (session, instance)) _ _
    (ap (λ (g : Group). Some g) (waits_on_as z w))
    (ap (λ (g : Group). Some g)
    (goes_on_as app z w (session, instance) (closing_points app (opened_as z) 0 1) (closing_same app z alone))))

-- and where the session is this, or gone
tests_as : (app : Application) (z : Solo) (number : ℕ) (call : OwnCall) (call_kind : CallKind) (params : CopiedParams)
    (input : BackInput) (session : Option OwnSession) (found : Option Instance) → is_single app ≡ false
    → Fits call_kind (Waits params)
    → option_map_or (λ (one : GroupSession).
    tested_again app (opened_as z) (waiting_as (own_waiting number call call_kind params input)) one found)
    (get (sessions_as session) 0)
    (Some (gives_up (opened_as z) (waiting_as (own_waiting number call call_kind params input)) bad_parameters))
    ≡ Some (opened_as (option_map_or (own.tests_again app z (own_waiting number call call_kind params input))
    (option_and_then (λ (one : OwnSession). option_map (λ (instance : Instance). (one, instance)) found) session)
    (own.gives_up z number (record call { kind = call_kind }) bad_parameters)))
tests_as app z number call call_kind params input None found alone fits =
    ap (λ (g : Group). Some g) (gives_up_as z (own_waiting number call call_kind params input) bad_parameters)
tests_as app z number call call_kind params input (Some session) found alone fits =
    tested_as app z number call call_kind params input session found alone fits

-- a call that waits has the one instance
waits_there : (z : Solo) (call_kind : CallKind) (params : CopiedParams) → Fits call_kind (Waits params)
    → instance_at (opened_as z) (instance_of call_kind) ≡ z.instance
waits_there z kind.Open params fits = absurd fits
waits_there z (kind.Invoke func) params fits = instance_there z.instance
waits_there z kind.Close params fits = instance_there z.instance
waits_there z kind.Settled params fits = absurd fits

retests_as : (app : Application) (z : Solo) (w : own.Waiting) → is_single app ≡ false → Fits w.call.kind (Waits w.params)
    → retests app (opened_as z) (waiting_as w) ≡ Some (opened_as (own.retests app z w))
retests_as app z w alone fits =
    ap (λ (found : Option Instance). option_map_or (λ (one : GroupSession).
    tested_again app (opened_as z) (waiting_as w) one found) (get (sessions_as z.session) 0)
    (Some (gives_up (opened_as z) (waiting_as w) bad_parameters))) (waits_there z w.call.kind w.params fits)
    ∙ tests_as app z w.number w.call w.call.kind w.params w.input z.session z.instance alone fits

-- ---- a call that comes back

back_in_as : (app : Application) (z : Solo) (number : ℕ) (call : OwnCall) (input : BackInput) (phase : CallPhase)
    → is_single app ≡ false → Fits call.kind phase
    → comes_back_in app (opened_as z) number (call_as call) input phase
    ≡ option_map opened_as (own.comes_back_in app z number call input phase)
back_in_as app z number call input (Runs job) alone fits = refl
back_in_as app z number call input (Asks job wanted payload) alone fits =
    some_as z number (record call { phase = phase_back call.phase job input })
back_in_as app z number call input (Waits params) alone fits =
    retests_as app z (record { number = number; call = call; params = params; input = input }) alone fits
back_in_as app z number call input (Ends result params told wakes) alone fits =
    some_as z number (record call { phase = Ends result params told (wake_left wakes input) })

pub back_as : (app : Application) (z : Solo) (number : ℕ) (input : BackInput) (call : OwnCall) → is_single app ≡ false
    → Fits call.kind call.phase
    → comes_back app (opened_as z) number input (call_as call)
    ≡ option_map opened_as (own.comes_back app z number input call)
back_as app z number input call alone fits =
    back_in_as app z number (record call { buffer = is_buffer input || call.buffer }) input call.phase alone fits
