-- What a call has brought along, until it ends: where the results of its parameters go, and how long its buffers are.
use Rattle.std.proofs.Common.{◌≡◌, ℕ, true, false, List, [], ◌∷◌, ◌++◌, Option, Some, None, refl, subst, arith}
use Rattle.std.specs.Prelude.{◌&&◌, not, if◌then◌else◌}
use Rattle.std.specs.Option.{option_map_or}
use Rattle.base.specs.NumberMap.{get}
use Rattle.job_model.specs.Job.{Job, idle_job}
use Rattle.job_model.specs.Owner.{owner_of}
use Rattle.job_model.specs.Point.{no_params}
use Rattle.job_model.specs.Steps.{Advance, Goes, Grant, JobStop, Left, Stopped, Stops, advance_on_answer, grant_of}
use Rattle.job_model.specs.Steps as steps
use Rattle.job_model.specs.declared.call_kind.CallKind.{CallKind}
use Rattle.job_model.specs.declared.call_kind.CallKind.TheVariants as kind
use Rattle.job_model.specs.declared.entry_point.EntryPoint.{EntryPoint}
use Rattle.job_model.specs.declared.entry_point.EntryPoint.TheVariants.{Create, Open, Invoke}
use Rattle.kernel_model.specs.Application.{Application, Booted, pages_in, program_of, uuid_of}
use Rattle.kernel_model.specs.Begin.{Beginner, InstanceFound, Opener, closing_points, has_pages_for, opening_job, opens_new, session_job}
use Rattle.kernel_model.specs.Codes.{bad_parameters, out_of_memory, target_dead}
use Rattle.kernel_model.specs.Exit.{after_grant, progress_in, shows_result, tables_unrun}
use Rattle.kernel_model.specs.Given.{Buffer, Given, NoBuffer, Nothing, Reply, call_given}
use Rattle.kernel_model.specs.Instances.{destroy_after, fresh_memory, is_held, program_on}
use Rattle.kernel_model.specs.Kernel.{Asks, Cancel, CallPhase, Ends, Instance, PendingCall, Progress, Runs, Tables, Waits, cancelled_call}
use Rattle.kernel_model.specs.Resume.{Resumed, app_of_call, begins, begins_in, begins_open, ends_with, goes_on, is_close, is_without_buffer, onward_in, onward_of}
use Rattle.kernel_model.specs.Resume.{phase_after, phase_on_answer, phase_seen, phase_when_given, resumed_call, sees, sleeps_on, tested_again, who_resumes}
use Rattle.kernel_model.proofs.Parts.{if-both, map_or-both, option_map_some}
use Rattle.param_copy.specs.declared.copied.Place.{Place}
use Rattle.rpc_msgs.specs.Answer.{RpcAnswer}
use Rattle.rpc_msgs.specs.Answer as rpc_answer
use Rattle.session_table.specs.declared.session.Session.{Session}
use Rattle.ta_params.specs.declared.copied_params.CopiedParams.{CopiedParams}
use Rattle.ta_step.specs.Shape.{shapes}
use Rattle.own_model.specs.Parameters.{params_of}
use Rattle.client_play.proofs.NewCalls.{lasting}
use Rattle.client_play.proofs.ShapesKept.{IsSo, IsSoAdvance, IsSoGrant, answered_so, begun_so, granted_so, seen_so}

-- ---- what a call has

-- where the results of its parameters go, and the types of these and how many bytes their buffers have
pub record Brought : Type 0 where
  pub places : List Place
  pub shapes : List (ℕ × ℕ)

-- what a call without parameters has
abbrev pub nothing_brought : Brought
nothing_brought = record { places = []; shapes = shapes no_params }

abbrev pub IsBrought : Brought → List Place → CopiedParams → Type 0
IsBrought b places params = (places ≡ b.places) × (shapes params ≡ b.shapes)

-- by its phase. One that has ended tells of its parameters only where an application returned its result
abbrev pub BringsIn : Brought → List Place → CallPhase → Type 0
BringsIn b places (Runs job) = IsBrought b places (params_of job)
BringsIn b places (Asks job wanted payload) = IsBrought b places (params_of job)
BringsIn b places (Waits params) = IsBrought b places params
BringsIn b places (Ends result params told wakes) = result.origin ≡ 4 → IsBrought b places params

abbrev pub Brings : Brought → PendingCall → Type 0
Brings b call = BringsIn b call.places call.phase

-- a later state of the same call
pub record Follows (was now : PendingCall) : Type 0 where
  pub same : lasting now ≡ lasting was
  pub brings : (b : Brought) → Brings b was → Brings b now

pub followed_by_itself : (call : PendingCall) → Follows call call
followed_by_itself call = record { same = refl; brings = λ b has. has }

-- a mark changes neither
pub cancelled_follows : (cancel : Cancel) (call : PendingCall) → Follows call (cancelled_call cancel call)
cancelled_follows cancel call = record { same = refl; brings = λ b has. has }

-- ---- by origin

-- the result of no application tells of no parameters
pub of_no_application : {P : Type 0} → ◌≡◌ {A = ℕ} 3 4 → P
of_no_application e = absurd (omega (arith, e))

module _ (b : Brought) (places : List Place) where
  -- ---- an exit

  granted_brings : (tables : Tables) (call : PendingCall) (granted : ℕ) (grant : Grant) → call.places ≡ b.places → IsSoGrant b.shapes grant
      → Brings b (after_grant tables call granted grant).call
  granted_brings tables call granted (Left job) there so = (there, so)
  granted_brings tables call granted (Stopped used (steps.Ends end)) there so = λ origin. (there, so)
  granted_brings tables call granted (Stopped used (steps.Panics code)) there so = λ origin. of_no_application origin
  granted_brings tables call granted (Stopped used (steps.Asks wanted payload job)) there so = (there, so)

  -- ---- a resume

  seen_brings : (phase : CallPhase) → BringsIn b places phase → BringsIn b places (phase_seen phase)
  seen_brings (Runs job) has = (has.0, seen_so b.shapes job has.1)
  seen_brings (Asks job wanted payload) has = (has.0, seen_so b.shapes job has.1)
  seen_brings (Waits params) has = has
  seen_brings (Ends result params told wakes) has = has

  after_brings : (before : CallPhase) (next : Advance) → BringsIn b places before → places ≡ b.places → IsSoAdvance b.shapes next
      → BringsIn b places (phase_after before next)
  after_brings before (Goes job) has there so = (there, so)
  after_brings before (Stops (steps.Asks wanted payload left)) has there so = (there, so)
  after_brings before (Stops (steps.Ends end)) has there so = has
  after_brings before (Stops (steps.Panics code)) has there so = has

  answer_brings : (before : CallPhase) (job : Job) (answer : RpcAnswer) → BringsIn b places before → places ≡ b.places → IsSo b.shapes job
      → BringsIn b places (phase_on_answer before job answer)
  answer_brings before job answer has there so = by (advance_on_answer answer job) refl
    where
      by : (found : Option Advance) → advance_on_answer answer job ≡ found → BringsIn b places (option_map_or (phase_after before) found before)
      by None e = has
      by (Some next) e = after_brings before next has there (answered_so b.shapes job answer next e so)

  given_brings : (before : CallPhase) (job : Job) (given : Given) → BringsIn b places before → places ≡ b.places → IsSo b.shapes job
      → BringsIn b places (phase_when_given before job given)
  given_brings before job Nothing has there so = has
  given_brings before job (Buffer buffer) has there so = has
  given_brings before job NoBuffer has there so = answer_brings before job rpc_answer.NoBuffer has there so
  given_brings before job (Reply reply) has there so = answer_brings before job (rpc_answer.Replied reply) has there so

-- ---- a job that begins with these parameters

pub opens_so : (b : Brought) (who : Beginner) (opener : Opener) (found : InstanceFound) → shapes opener.params ≡ b.shapes
    → IsSo b.shapes (opening_job who opener found)
opens_so b who opener found so =
    begun_so b.shapes (record { program = Some (program_of opener.app); memory = found.memory; seen = who.seen })
    (idle_job (owner_of (uuid_of opener.app) who.boot.key) opener.login 0 found.objects opener.params)
    (found.points ++ destroy_after opener.app who.tables.sessions found.number) so so

pub session_so : (b : Brought) (who : Beginner) (session : Session) (instance : Instance) (params : CopiedParams) (points : List EntryPoint)
    → shapes params ≡ b.shapes → IsSo b.shapes (session_job who session instance params points)
session_so b who session instance params points so =
    begun_so b.shapes (record { program = program_on who.boot instance; memory = instance.memory; seen = who.seen })
    (idle_job (owner_of instance.uuid who.boot.key) session.login session.context instance.objects params) points so so

-- ---- a call that waits for its instance

module _ (b : Brought) (r : Resumed) (there : r.call.places ≡ b.places) where
  abbrev StillBrings : Progress → Type 0
  StillBrings progress = Brings b progress.call

  settled : (code : ℕ) → StillBrings (ends_with r code)
  settled code = λ origin. of_no_application origin

  open_brings : (opener : Opener) (found : Option Instance) → shapes opener.params ≡ b.shapes → StillBrings (begins_open r opener found)
  open_brings opener (Some instance) so = (
    there,
    opens_so b (who_resumes r) opener
        (record { number = r.call.instance; memory = instance.memory; objects = instance.objects; points = Open ∷ [] }) so,
  )
  open_brings opener None so =
      if-both StillBrings (has_pages_for r.boot r.tables opener.app)
      (begins r (opens_new (who_resumes r) opener r.call.instance r.tables.next_instance)) (ends_with r out_of_memory) (
        there,
        opens_so b (who_resumes r) opener
            (record {
              number = r.call.instance;
              memory = fresh_memory (pages_in opener.app);
              objects = [];
              points = Create ∷ Open ∷ [];
            }) so,
      ) (settled out_of_memory)

  beginning_brings : (params : CopiedParams) (session : Session) (call_kind : CallKind) (found : Option Instance)
      → shapes params ≡ b.shapes → StillBrings (begins_in r params session call_kind found)
  beginning_brings params session kind.Open found so =
      map_or-both StillBrings
      (λ (app : Application). begins_open r (record { app = app; login = session.login; params = params }) found)
      (app_of_call r) (ends_with r bad_parameters)
      (λ app. open_brings (record { app = app; login = session.login; params = params }) found so) (settled bad_parameters)
  beginning_brings params session (kind.Invoke func) (Some instance) so =
      (there, session_so b (who_resumes r) session instance params (Invoke func ∷ []) so)
  beginning_brings params session (kind.Invoke func) None so = settled bad_parameters
  beginning_brings params session kind.Close (Some instance) so =
      (there, session_so b (who_resumes r) session instance params (closing_points (who_resumes r) r.call.session session instance) so)
  beginning_brings params session kind.Close None so = settled bad_parameters
  beginning_brings params session kind.Settled (Some instance) so = settled bad_parameters
  beginning_brings params session kind.Settled None so = settled bad_parameters

  again_brings : (params : CopiedParams) (session : Session) (found : Option Instance) → shapes params ≡ b.shapes
      → StillBrings (tested_again r params session found)
  again_brings params session found so =
      let dead = option_map_or (λ (instance : Instance). instance.dead) found false && not (is_close r.call.kind) in
      let held = option_map_or is_held found false in
      let begun = begins_in r params session r.call.kind found in
      if-both StillBrings dead (ends_with r target_dead) (if held then sleeps_on r params else begun) (settled target_dead)
      (if-both StillBrings held (sleeps_on r params) begun
      (if-both StillBrings (is_without_buffer r.given) (ends_with r out_of_memory) (goes_on r (Waits params)) (settled out_of_memory)
      (there, so))
      (beginning_brings params session r.call.kind found so))

-- ---- a resume

onward_brings : (b : Brought) (r : Resumed) (phase : CallPhase) → BringsIn b r.call.places phase → Brings b (onward_in r phase).call
onward_brings b r (Runs job) has = has
onward_brings b r (Asks job wanted payload) has = given_brings b r.call.places (Asks job wanted payload) job r.given has has.0 has.1
onward_brings b r (Waits params) has =
    map_or-both (StillBrings b r has.0)
    (λ (session : Session). tested_again r params session (get r.tables.instances r.call.instance))
    (get r.tables.sessions r.call.session) (ends_with r bad_parameters)
    (λ (session : Session). again_brings b r has.0 params session (get r.tables.instances r.call.instance) has.1)
    (settled b r has.0 bad_parameters)
onward_brings b r (Ends result params told wakes) has = has

sees_brings : (b : Brought) (call : PendingCall) → Brings b call → Brings b (sees call)
sees_brings b call has =
    if-both (Brings b) call.marked (record call { seen = true; phase = phase_seen call.phase }) call
    (seen_brings b call.places call.phase has) has

with_given : (b : Brought) (given : Given) (call : PendingCall) → Brings b call → Brings b (call_given given call)
with_given b Nothing call has = has
with_given b (Buffer buffer) call has = has
with_given b NoBuffer call has = has
with_given b (Reply reply) call has = has

pub resumed_brings : (b : Brought) (boot : Booted) (tables : Tables) (slot : ℕ) (call : PendingCall) (given : Given) → Brings b call
    → Brings b (onward_of (resumed_call boot tables slot call given)).call
resumed_brings b boot tables slot call given has =
    let r = resumed_call boot tables slot call given in
    onward_brings b r r.call.phase (with_given b given (sees call) (sees_brings b call has))

-- ---- an exit

pub exit_brings : (b : Brought) (tables : Tables) (call : PendingCall) (granted : ℕ) (phase : CallPhase) (progress : Progress)
    → progress_in tables call granted phase ≡ Some progress → call.phase ≡ phase → Brings b call → Brings b progress.call
exit_brings b tables call granted phase progress e is has = by phase progress e (subst (λ (p : CallPhase). BringsIn b call.places p) is has)
  where
    as_it_is : (one other : Progress) → Some one ≡ Some other → Brings b one.call → Brings b other.call
    as_it_is one other e has =
        let same : one ≡ other = cc in
        subst (λ (p : Progress). Brings b p.call) same has

    -- where it stays as it is
    stays : (progress : Progress) → Some (record { call = call; tables = tables }) ≡ Some progress → Brings b progress.call
    stays progress e = as_it_is (record { call = call; tables = tables }) progress e has

    by : (p : CallPhase) (progress : Progress) → progress_in tables call granted p ≡ Some progress → BringsIn b call.places p
        → Brings b progress.call
    by (Runs job) progress e had =
        let came = option_map_some (after_grant tables call granted) (grant_of granted job) progress e in
        subst (λ (p : Progress). Brings b p.call) came.2
        (granted_brings b call.places tables call granted came.0 had.0 (granted_so b.shapes granted job came.0 came.1 had.1))
    by (Asks job wanted payload) progress e had = stays progress e
    by (Waits params) progress e had = stays progress e
    by (Ends result params true wakes) progress e had = stays progress e
    by (Ends result params false wakes) progress e had = as_it_is (shows_result (tables_unrun tables call) call result params) progress e had
