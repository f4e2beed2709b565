-- The parameters of a session's calls stay short, whatever happens to its machine that brings no longer ones.
use Rattle.std.proofs.Common.{◌≡◌, ◌≤◌, ℕ, ◌+◌, ◌-◌, Bool, true, false, List, [], ◌∷◌, Option, Some, None, refl, subst, sym, arith}
use Rattle.std.specs.Prelude.{◌==◌, ◌&&◌, not}
use Rattle.std.specs.List.{AllByRecursion}
use Rattle.std.specs.Option.{option_and_then, option_map, option_map_or}
use Rattle.base.specs.NumberMap.{NumberMap, get, insert, remove}
use Rattle.job_model.specs.declared.call_kind.CallKind.{CallKind}
use Rattle.job_model.specs.declared.call_kind.CallKind.TheVariants as kind
use Rattle.job_model.specs.Job.{Body, Job, Machine, Native, Nothing as NoBody}
use Rattle.job_model.specs.Point.{no_params}
use Rattle.job_model.specs.Steps.{Advance, Goes, Grant, JobStop, Left, Stopped, Stops, advance_on_answer, after, grant_of}
use Rattle.job_model.specs.Steps as steps
use Rattle.kernel_model.proofs.Parts.{if-both, map_or-both, option_map_some}
use Rattle.kernel_model.specs.Application.{Application}
use Rattle.kernel_model.specs.Codes.{bad_parameters, out_of_memory, success, target_dead}
use Rattle.kernel_model.specs.Instances.{is_held}
use Rattle.kernel_model.specs.Kernel.{Asks, CallPhase, Ends, Instance, Runs, Waits}
use Rattle.kernel_model.specs.Resume.{is_close, phase_after, phase_on_answer, phase_seen}
use Rattle.own_model.proofs.InOrder.{IfAny, if_any_of}
use Rattle.own_model.proofs.Maps.{get-inserted, get-removed}
use Rattle.own_model.specs.Own.{ended}
use Rattle.own_model.specs.Solo.{Answered, Going, OwnCall, OwnSession, Solo, Start, Waiting, begins, closes, comes_back, comes_back_in, counted, fresh_call, gives_up, goes_on, goes_out, goes_out_in, going_in, home, invokes, invokes_with, is_no_buffer, job_of, made, opens, opens_first, phase_at, phase_back, points_of, sees, settles, silent, start_with, step, stopped, taken_on, tests_again, waits, waits_on, with_call, without_waiter, works_or_waits}
use Rattle.own_model.specs.declared.own_event.BackInput.{BackInput}
use Rattle.own_model.specs.declared.own_event.BackInput.TheVariants.{Nothing, Buffer, NoBuffer, Reply}
use Rattle.own_model.specs.declared.own_event.OwnEvent.{OwnEvent}
use Rattle.own_model.specs.declared.own_event.OwnEvent.TheVariants.{Open, Invoke, Close, Cancel, Seen, Back, Out, Limited}
use Rattle.own_model.specs.declared.own_event.OwnInput.{OwnInput}
use Rattle.own_model.specs.declared.own_event.OwnInput.TheVariants.{Copied, Faulty, Unread}
use Rattle.own_model.specs.declared.own_reply.OwnReply.{OwnReply}
use Rattle.own_model.specs.declared.own_reply.OwnReply.TheVariants as reply
use Rattle.rpc_msgs.specs.Answer.{RpcAnswer}
use Rattle.rpc_msgs.specs.Answer as answer
use Rattle.solo.proofs.ShortJobs.{IsShortAdvance, IsShortGrant, IsShortStop, after_short, answered_short, begun_short, granted_short, none_short, seen_short}
use Rattle.solo.specs.Short.{AreShort, IsShort, IsShortBody, IsShortEvent, IsShortInput, IsShortJob, IsShortPhase, IsShortSolo}
use Rattle.ta_params.specs.declared.copied_params.CopiedParams.{CopiedParams}
use Rattle.ta_params.specs.declared.login.Login.{Login}
use Rattle.ta_step.specs.Shape.{shapes}

-- ---- what is short is short by a larger number too

more_shapes : (longest more : ℕ) → longest ≤ more → (all : List (ℕ × ℕ)) → AllByRecursion (IsShort longest) all → AllByRecursion (IsShort more) all
more_shapes longest more le [] short = tt
more_shapes longest more le (shape ∷ all) short =
    let one = short.0 in (omega (arith, le, one), more_shapes longest more le all short.1)

more_params : (longest more : ℕ) → longest ≤ more → (params : CopiedParams) → AreShort longest params → AreShort more params
more_params longest more le params short = more_shapes longest more le (shapes params) short

more_body : (longest more : ℕ) → longest ≤ more → (body : Body) → IsShortBody longest body → IsShortBody more body
more_body longest more le (Machine image point machine) short = more_params longest more le machine.params short
more_body longest more le (Native relation func) short = tt
more_body longest more le NoBody short = tt

more_job : (longest more : ℕ) → longest ≤ more → (job : Job) → IsShortJob longest job → IsShortJob more job
more_job longest more le job short =
    record { params = more_params longest more le job.params short.params; body = more_body longest more le job.body short.body }

more_phase : (longest more : ℕ) → longest ≤ more → (phase : CallPhase) → IsShortPhase longest phase → IsShortPhase more phase
more_phase longest more le (Runs job) short = more_job longest more le job short
more_phase longest more le (Asks job wanted payload) short = more_job longest more le job short
more_phase longest more le (Waits params) short = more_params longest more le params short
more_phase longest more le (Ends result params told wakes) short = more_params longest more le params short

pub more_solo : (longest more : ℕ) → longest ≤ more → (z : Solo) → IsShortSolo longest z → IsShortSolo more z
more_solo longest more le z short number call there = more_phase longest more le call.phase (short number call there)

-- ---- what may be there

if_any_then : {A B : Type 0} (P : B → Type 0) (f : A → Option B) (o : Option A) → ((a : A) → o ≡ Some a → IfAny P (f a)) → IfAny P (option_and_then f o)
if_any_then P f None holds = tt
if_any_then P f (Some a) holds = holds a refl

if_any_map : {A B : Type 0} (P : B → Type 0) (f : A → B) (o : Option A) → ((a : A) → o ≡ Some a → P (f a)) → IfAny P (option_map f o)
if_any_map P f None holds = tt
if_any_map P f (Some a) holds = holds a refl

module _ (longest : ℕ) where
  -- ---- calls by their numbers

  abbrev AllShort : NumberMap OwnCall → Type 0
  AllShort calls = (number : ℕ) (call : OwnCall) → get calls number ≡ Some call → IsShortPhase longest call.phase

  with_one : (calls : NumberMap OwnCall) (number : ℕ) (call : OwnCall) → AllShort calls → IsShortPhase longest call.phase → AllShort (insert calls number call)
  with_one calls number call all short other own there =
      get-inserted calls number call other own there (λ at same. subst (λ (c : OwnCall). IsShortPhase longest c.phase) same short) (all other own)

  without_one : (calls : NumberMap OwnCall) (number : ℕ) → AllShort calls → AllShort (remove calls number)
  without_one calls number all other own there = all other own (get-removed calls number other own there)

  -- ---- a call begins

  job_short : (app : Application) (call_kind : CallKind) (start : Start) → AreShort longest start.params → IsShortJob longest (job_of app call_kind start)
  job_short app call_kind start short = begun_short longest _ _ (points_of call_kind) (record { params = short; body = tt })

  begins_short : (app : Application) (z : Solo) (number : ℕ) (call : OwnCall) (start : Start) → IsShortSolo longest z → AreShort longest start.params →
      IsShortSolo longest (begins app z number call start)
  begins_short app z number call start all short = with_one z.calls number _ all (job_short app call.kind start short)

  settles_short : (z : Solo) (area : Bool) (code : ℕ) → IsShortSolo longest z → IsShortSolo longest (settles z area code)
  settles_short z area code all = with_one z.calls z.entered _ all (none_short longest)

  works_short : (app : Application) (z : Solo) (call_kind : CallKind) (area : Bool) (start : Start) → IsShortSolo longest z → AreShort longest start.params →
      IsShortSolo longest (works_or_waits app z call_kind area start)
  works_short app z call_kind area start all short =
      if-both (IsShortSolo longest) (is_held start.instance) (waits z call_kind area start.params)
      (begins app (counted z) z.entered (fresh_call call_kind area (Waits start.params)) start)
      (with_one z.calls z.entered _ all short)
      (begins_short app (counted z) z.entered (fresh_call call_kind area (Waits start.params)) start all short)

  -- ---- calls that come in

  opens_short : (app : Application) (z : Solo) (params : CopiedParams) (login : Login) (area : Bool) → IsShortSolo longest z → AreShort longest params →
      IfAny (IsShortSolo longest) (opens_first app z params login area)
  opens_short app z params login area all short =
      let session : OwnSession = record { login = login; context = 0; opened = false } in
      if-both (IfAny (IsShortSolo longest)) (z.entered == 0) (Some (opens app z params login area)) None
      (works_short app (record z { session = Some session }) kind.Open area (start_with z (session, made app) params) all short) tt

  invokes_short : (app : Application) (z : Solo) (func : ℕ) (input : OwnInput) (area : Bool) (at : OwnSession × Instance) → IsShortSolo longest z → IsShortInput longest input →
      IfAny (IsShortSolo longest) (invokes app z func input area at)
  invokes_short app z func input area at all short =
      if-both (IfAny (IsShortSolo longest)) at.1.dead (Some (settles z area target_dead)) (invokes_with app z func input area at) (settles_short z area target_dead all)
      (by_input input short)
    where
      by_input : (came : OwnInput) → IsShortInput longest came → IfAny (IsShortSolo longest) (invokes_with app z func came area at)
      by_input (Copied params) is = works_short app z (kind.Invoke func) area (start_with z at params) all is
      by_input Faulty is = settles_short z area bad_parameters all
      by_input Unread is = tt

  -- ---- calls that come back

  at_short : (more : ℕ) (before now : CallPhase) → phase_at more before ≡ Some now → IsShortPhase longest before → IsShortPhase longest now
  at_short more (Runs job) now e short =
      let left = option_map_some (λ (l : Job). Runs l) (after more job) now e in
      subst (IsShortPhase longest) left.2 (after_short longest more job left.0 left.1 short)
  at_short more (Asks job wanted payload) now e short = let same : Asks job wanted payload ≡ now = cc in subst (IsShortPhase longest) same short
  at_short more (Waits params) now e short = let same : Waits params ≡ now = cc in subst (IsShortPhase longest) same short
  at_short more (Ends result params told wakes) now e short = let same : Ends result params told wakes ≡ now = cc in subst (IsShortPhase longest) same short

  seen_phase : (before : CallPhase) → IsShortPhase longest before → IsShortPhase longest (phase_seen before)
  seen_phase (Runs job) short = seen_short longest job short
  seen_phase (Asks job wanted payload) short = seen_short longest job short
  seen_phase (Waits params) short = short
  seen_phase (Ends result params told wakes) short = short

  sees_short : (z : Solo) (number done_by_now : ℕ) (call : OwnCall) → IsShortSolo longest z → IsShortPhase longest call.phase → IfAny (IsShortSolo longest) (sees z number done_by_now call)
  sees_short z number done_by_now call all short =
      if_any_map (IsShortSolo longest) _ (phase_at (done_by_now - call.steps) call.phase)
      (λ phase there. with_one z.calls number _ all (seen_phase phase (at_short (done_by_now - call.steps) call.phase phase there short)))

  advanced : (before : CallPhase) (next : Advance) → IsShortPhase longest before → IsShortAdvance longest next → IsShortPhase longest (phase_after before next)
  advanced before (Goes job) had short = short
  advanced before (Stops (steps.Asks wanted payload left)) had short = short
  advanced before (Stops (steps.Ends end)) had short = had
  advanced before (Stops (steps.Panics code)) had short = had

  answered : (before : CallPhase) (job : Job) (came : RpcAnswer) → IsShortPhase longest before → IsShortJob longest job → IsShortPhase longest (phase_on_answer before job came)
  answered before job came had short = by (advance_on_answer came job) refl
    where
      by : (o : Option Advance) → advance_on_answer came job ≡ o → IsShortPhase longest (option_map_or (phase_after before) o before)
      by None is = had
      by (Some next) is = advanced before next had (answered_short longest job came next is short)

  back_phase : (before : CallPhase) (job : Job) (input : BackInput) → IsShortPhase longest before → IsShortJob longest job → IsShortPhase longest (phase_back before job input)
  back_phase before job Nothing had short = had
  back_phase before job Buffer had short = had
  back_phase before job NoBuffer had short = answered before job answer.NoBuffer had short
  back_phase before job (Reply told) had short = answered before job (answer.Replied told) had short

  gives_up_short : (z : Solo) (number : ℕ) (call : OwnCall) (code : ℕ) → IsShortSolo longest z → IsShortSolo longest (gives_up z number call code)
  gives_up_short z number call code all = with_one z.calls number _ all (none_short longest)

  tests_short : (app : Application) (z : Solo) (w : Waiting) (at : OwnSession × Instance) → IsShortSolo longest z → IsShortPhase longest w.call.phase → AreShort longest w.params →
      IsShortSolo longest (tests_again app z w at)
  tests_short app z w at all is short =
      if-both (IsShortSolo longest) (at.1.dead && not (is_close w.call.kind)) (gives_up z w.number w.call target_dead) _ (gives_up_short z w.number w.call target_dead all)
      (if-both (IsShortSolo longest) (is_held at.1) (waits_on z w) (goes_on app z w at)
      (if-both (IsShortSolo longest) (is_no_buffer w.input) (gives_up z w.number w.call out_of_memory) (with_call z w.number w.call)
      (gives_up_short z w.number w.call out_of_memory all)
      (with_one z.calls w.number w.call all is))
      (begins_short app (without_waiter z w.number) w.number w.call (record { session = at.0; instance = at.1; params = w.params; seen = w.call.seen; key = z.key }) all short))

  back_in_short : (app : Application) (z : Solo) (number : ℕ) (call : OwnCall) (input : BackInput) (phase : CallPhase) → IsShortSolo longest z → call.phase ≡ phase →
      IsShortPhase longest phase → IfAny (IsShortSolo longest) (comes_back_in app z number call input phase)
  back_in_short app z number call input (Runs job) all same short = tt
  back_in_short app z number call input (Asks job wanted payload) all same short =
      with_one z.calls number _ all (back_phase call.phase job input (subst (IsShortPhase longest) (sym same) short) short)
  back_in_short app z number call input (Waits params) all same short =
      let w : Waiting = record { number = number; call = call; params = params; input = input } in
      map_or-both (IsShortSolo longest) (tests_again app z w) (home z) (gives_up z number call bad_parameters)
      (λ at. tests_short app z w at all (subst (IsShortPhase longest) (sym same) short) short) (gives_up_short z number call bad_parameters all)
  back_in_short app z number call input (Ends result params told wakes) all same short = with_one z.calls number _ all short

  back_short : (app : Application) (z : Solo) (number : ℕ) (input : BackInput) (call : OwnCall) → IsShortSolo longest z → IsShortPhase longest call.phase →
      IfAny (IsShortSolo longest) (comes_back app z number input call)
  back_short app z number input call all short = back_in_short app z number _ input call.phase all refl short

  -- ---- calls that go out

  -- the call and the others, before it goes out
  pub record IsShortGoing (going : Going) : Type 0 where
    pub others : IsShortSolo longest going.solo
    pub call : IsShortPhase longest going.call.phase

  stopped_short : (z : Solo) (call : OwnCall) (why : JobStop) → IsShortSolo longest z → IsShortStop longest why → IsShortGoing (stopped z call why)
  stopped_short z call (steps.Ends end) all short = record { others = all; call = short }
  stopped_short z call (steps.Panics code) all short = record { others = all; call = none_short longest }
  stopped_short z call (steps.Asks wanted payload left) all short = record { others = all; call = short }

  taken_short : (z : Solo) (call : OwnCall) (grant : Grant) → IsShortSolo longest z → IsShortGrant longest grant → IfAny IsShortGoing (taken_on z call grant)
  taken_short z call (Left job) all short = tt
  taken_short z call (Stopped used why) all short = stopped_short z (record call { steps = call.steps + used }) why all short

  going_short : (most : ℕ) (z : Solo) (call : OwnCall) (phase : CallPhase) → IsShortSolo longest z → call.phase ≡ phase → IsShortPhase longest phase →
      IfAny IsShortGoing (going_in most z call phase)
  going_short most z call (Runs job) all same short =
      if_any_then IsShortGoing (taken_on z call) (grant_of most job) (λ grant granted. taken_short z call grant all (granted_short longest most job grant granted short))
  going_short most z call (Asks job wanted payload) all same short = record { others = all; call = subst (IsShortPhase longest) (sym same) short }
  going_short most z call (Waits params) all same short = record { others = all; call = subst (IsShortPhase longest) (sym same) short }
  going_short most z call (Ends result params true wakes) all same short = record { others = all; call = subst (IsShortPhase longest) (sym same) short }
  going_short most z call (Ends result params false wakes) all same short = record { others = all; call = short }

  -- the call of a number, as it goes out
  pub goes_short : (most : ℕ) (z : Solo) (number : ℕ) (call : OwnCall) (going : Going) → IsShortSolo longest z → get z.calls number ≡ Some call →
      going_in most z call call.phase ≡ Some going → IsShortPhase longest going.call.phase
  goes_short most z number call going all found e =
      (if_any_of IsShortGoing (going_in most z call call.phase) going (going_short most z call call.phase all refl (all number call found)) e).call

  abbrev IsShortThen : Answered → Type 0
  IsShortThen answered = IsShortSolo longest answered.0

  out_short : (z : Solo) (number : ℕ) (call : OwnCall) (phase : CallPhase) → IsShortSolo longest z → call.phase ≡ phase → IsShortPhase longest phase →
      IfAny IsShortThen (goes_out_in z number call phase)
  out_short z number call (Runs job) all same short = tt
  out_short z number call (Asks job wanted payload) all same short = with_one z.calls number call all (subst (IsShortPhase longest) (sym same) short)
  out_short z number call (Waits params) all same short = with_one z.calls number call all (subst (IsShortPhase longest) (sym same) short)
  out_short z number call (Ends result params told (Some woken)) all same short = with_one z.calls number call all (subst (IsShortPhase longest) (sym same) short)
  out_short z number call (Ends result params told None) all same short =
      if-both IsShortThen call.buffer (with_call z number (record call { buffer = false }), Some reply.Free)
      (record z { calls = remove z.calls number }, Some (ended result params))
      (with_one z.calls number _ all (subst (IsShortPhase longest) (sym same) short))
      (without_one z.calls number all)

  goes_out_short : (most : ℕ) (z : Solo) (number : ℕ) (call : OwnCall) → IsShortSolo longest z → IsShortPhase longest call.phase → IfAny IsShortThen (goes_out most z number call)
  goes_out_short most z number call all short =
      if_any_then IsShortThen (λ (going : Going). goes_out_in going.solo number going.call going.call.phase) (going_in most z call call.phase)
      (λ going comes.
      let is = if_any_of IsShortGoing (going_in most z call call.phase) going (going_short most z call call.phase all refl short) comes in
      out_short going.solo number going.call going.call.phase is.others refl is.call)

  -- ---- events

  silent_short : (o : Option Solo) → IfAny (IsShortSolo longest) o → IfAny IsShortThen (option_map silent o)
  silent_short None all = tt
  silent_short (Some z) all = all

  step_short : (most : ℕ) (app : Application) (z : Solo) (came : OwnEvent) → IsShortSolo longest z → IsShortEvent longest came → IfAny IsShortThen (step most app z came)
  step_short most app z (Open params login area) all short = silent_short (opens_first app z params login area) (opens_short app z params login area all short)
  step_short most app z (Invoke func input area) all short =
      silent_short (option_and_then (invokes app z func input area) (home z))
      (if_any_then (IsShortSolo longest) (invokes app z func input area) (home z) (λ at there. invokes_short app z func input area at all short))
  step_short most app z (Close area) all short =
      if_any_map IsShortThen (λ at. silent (closes app z area at)) (home z)
      (λ at there. works_short app z kind.Close area (start_with z at no_params) all (none_short longest))
  step_short most app z Cancel all short = settles_short z false success all
  step_short most app z (Seen number done_by_now) all short =
      silent_short (option_and_then (sees z number done_by_now) (get z.calls number))
      (if_any_then (IsShortSolo longest) (sees z number done_by_now) (get z.calls number)
      (λ call found. sees_short z number done_by_now call all (all number call found)))
  step_short most app z (Back number input) all short =
      silent_short (option_and_then (comes_back app z number input) (get z.calls number))
      (if_any_then (IsShortSolo longest) (comes_back app z number input) (get z.calls number)
      (λ call found. back_short app z number input call all (all number call found)))
  step_short most app z (Out number) all short =
      if_any_then IsShortThen (goes_out most z number) (get z.calls number)
      (λ call found. goes_out_short most z number call all (all number call found))
  step_short most app z Limited all short = all

  -- they are short after each event that brings none that are longer
  pub short_then : (most : ℕ) (app : Application) (z next : Solo) (came : OwnEvent) (told : Option OwnReply) → IsShortSolo longest z → IsShortEvent longest came →
      step most app z came ≡ Some (next, told) → IsShortSolo longest next
  short_then most app z next came told all short e =
      if_any_of IsShortThen (step most app z came) (next, told) (step_short most app z came all short) e
