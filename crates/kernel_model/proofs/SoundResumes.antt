-- What a resumed call comes to: each of its forms, with what its tests have shown.
use Rattle.std.proofs.Common.{◌≡◌, ℕ, Bool, true, false, List, [], ◌∷◌, Option, Some, None, refl}
use Rattle.std.specs.Prelude.{if◌then◌else◌, ◌&&◌, not}
use Rattle.std.specs.Option.{option_map_or}
use Rattle.base.specs.NumberMap.{get}
use Rattle.job_model.specs.Job.{Job}
use Rattle.job_model.specs.Steps.{Advance, advance_on_answer}
use Rattle.job_model.specs.declared.call_kind.CallKind.{CallKind}
use Rattle.job_model.specs.declared.call_kind.CallKind.TheVariants as kind
use Rattle.job_model.specs.declared.entry_point.EntryPoint.TheVariants.{Invoke}
use Rattle.rpc_msgs.specs.Answer.{RpcAnswer}
use Rattle.rpc_msgs.specs.Answer as rpc_answer
use Rattle.rpc_msgs.specs.declared.rpc.Rpc.{Rpc}
use Rattle.session_table.specs.declared.session.Session.{Session}
use Rattle.ta_params.specs.declared.call_result.CallResult.{CallResult}
use Rattle.ta_params.specs.declared.copied_params.CopiedParams.{CopiedParams}
use Rattle.kernel_model.specs.Application.{Application}
use Rattle.kernel_model.specs.Begin.{Opener, begins_on, closing_points, has_pages_for, opens_kept, opens_new}
use Rattle.kernel_model.specs.Codes.{bad_parameters, out_of_memory, target_dead}
use Rattle.kernel_model.specs.Given.{Buffer, Given, NoBuffer, Nothing, Reply}
use Rattle.kernel_model.specs.Instances.{is_held}
use Rattle.kernel_model.specs.Kernel.{Asks, CallPhase, Ends, Instance, Progress, Runs, Waits}
use Rattle.kernel_model.specs.Resume.{Resumed, app_of_call, begins, begins_in, begins_open, ends_with, goes_on, is_close, is_without_buffer, onward_in, onward_of, phase_after, phase_when_given, sleeps_on, still_wakes, tested_again, who_resumes}

-- a call that has waited, with its session
pub record IsAwake (r : Resumed) (params : CopiedParams) (session : Session) : Type 0 where
  pub waited : r.call.phase ≡ Waits params
  pub kept : get r.tables.sessions r.call.session ≡ Some session

-- with its instance too, which is alive and not held
pub record IsReady (r : Resumed) (params : CopiedParams) (session : Session) (instance : Instance) : Type 0 where
  pub awake : IsAwake r params session
  pub there : get r.tables.instances r.call.instance ≡ Some instance
  pub free : is_held instance ≡ false

abbrev pub opener_of : Application → Session → CopiedParams → Opener
opener_of app session params = record { app = app; login = session.login; params = params }

-- it holds of each form
pub record ResumeCases (r : Resumed) (P : Progress → Type 0) : Type 0 where
  pub runs : (job : Job) → r.call.phase ≡ Runs job → P (goes_on r (Runs job))
  pub asks_still : (job : Job) (wanted : Rpc) (payload : List ℕ) → r.call.phase ≡ Asks job wanted payload → P (goes_on r (Asks job wanted payload))
  pub answered : (job : Job) (wanted : Rpc) (payload : List ℕ) (answer : RpcAnswer) (advance : Advance) → r.call.phase ≡ Asks job wanted payload →
      advance_on_answer answer job ≡ Some advance → P (goes_on r (phase_after (Asks job wanted payload) advance))
  pub ends : (result : CallResult) (params : CopiedParams) (told : Bool) (wakes still : Option ℕ) → r.call.phase ≡ Ends result params told wakes →
      P (goes_on r (Ends result params told still))
  pub fails : (params : CopiedParams) (code : ℕ) → r.call.phase ≡ Waits params → P (ends_with r code)
  pub sleeps : (params : CopiedParams) → r.call.phase ≡ Waits params → P (goes_on r (Waits params))
  pub opens : (params : CopiedParams) (session : Session) (app : Application) (instance : Instance) → IsReady r params session instance →
      instance.dead ≡ false → r.call.kind ≡ kind.Open → app_of_call r ≡ Some app →
      P (begins r (opens_kept (who_resumes r) (opener_of app session params) (r.call.instance, instance)))
  pub opens_new : (params : CopiedParams) (session : Session) (app : Application) → IsAwake r params session →
      get r.tables.instances r.call.instance ≡ None → r.call.kind ≡ kind.Open → app_of_call r ≡ Some app →
      has_pages_for r.boot r.tables app ≡ true →
      P (begins r (opens_new (who_resumes r) (opener_of app session params) r.call.instance r.tables.next_instance))
  pub invokes : (params : CopiedParams) (session : Session) (instance : Instance) (func : ℕ) → IsReady r params session instance →
      instance.dead ≡ false → r.call.kind ≡ kind.Invoke func →
      P (begins r (begins_on (who_resumes r) session instance params (Invoke func ∷ [])))
  pub closes : (params : CopiedParams) (session : Session) (instance : Instance) → IsReady r params session instance → r.call.kind ≡ kind.Close →
      P (begins r (begins_on (who_resumes r) session instance params (closing_points (who_resumes r) r.call.session session instance)))

module _ (r : Resumed) (P : Progress → Type 0) (cases : ResumeCases r P) where
  if_test : (test : Bool) (first second : Progress) → (test ≡ true → P first) → (test ≡ false → P second) → P (if test then first else second)
  if_test true first second on_true on_false = on_true refl
  if_test false first second on_true on_false = on_false refl

  -- ---- a call that has asked

  on_answer : (job : Job) (wanted : Rpc) (payload : List ℕ) (answer : RpcAnswer) (o : Option Advance) → r.call.phase ≡ Asks job wanted payload
      → advance_on_answer answer job ≡ o
      → P (goes_on r (option_map_or (phase_after (Asks job wanted payload)) o (Asks job wanted payload)))
  on_answer job wanted payload answer None is e = cases.asks_still job wanted payload is
  on_answer job wanted payload answer (Some advance) is e = cases.answered job wanted payload answer advance is e

  when_given : (job : Job) (wanted : Rpc) (payload : List ℕ) (given : Given) → r.call.phase ≡ Asks job wanted payload
      → P (goes_on r (phase_when_given (Asks job wanted payload) job given))
  when_given job wanted payload Nothing is = cases.asks_still job wanted payload is
  when_given job wanted payload (Buffer buffer) is = cases.asks_still job wanted payload is
  when_given job wanted payload NoBuffer is = on_answer job wanted payload rpc_answer.NoBuffer (advance_on_answer rpc_answer.NoBuffer job) is refl
  when_given job wanted payload (Reply reply) is =
      on_answer job wanted payload (rpc_answer.Replied reply) (advance_on_answer (rpc_answer.Replied reply) job) is refl

  -- ---- a call that has waited

  opens_so : (params : CopiedParams) (session : Session) (app : Application) (found : Option Instance) → IsAwake r params session
      → get r.tables.instances r.call.instance ≡ found → option_map_or (λ (instance : Instance). instance.dead) found false ≡ false
      → option_map_or is_held found false ≡ false → r.call.kind ≡ kind.Open → app_of_call r ≡ Some app
      → P (begins_open r (opener_of app session params) found)
  opens_so params session app (Some instance) awake there alive free opening is =
      cases.opens params session app instance (record { awake = awake; there = there; free = free }) alive opening is
  opens_so params session app None awake there alive free opening is =
      if_test (has_pages_for r.boot r.tables app) _ (ends_with r out_of_memory)
      (λ pages. cases.opens_new params session app awake there opening is pages) (λ none. cases.fails params out_of_memory awake.waited)

  on_app : (params : CopiedParams) (session : Session) (o : Option Application) (found : Option Instance) → IsAwake r params session
      → get r.tables.instances r.call.instance ≡ found → option_map_or (λ (instance : Instance). instance.dead) found false ≡ false
      → option_map_or is_held found false ≡ false → r.call.kind ≡ kind.Open → app_of_call r ≡ o
      → P (option_map_or (λ (app : Application). begins_open r (opener_of app session params) found) o (ends_with r bad_parameters))
  on_app params session None found awake there alive free opening is = cases.fails params bad_parameters awake.waited
  on_app params session (Some app) found awake there alive free opening is = opens_so params session app found awake there alive free opening is

  dead_stays : (dead : Bool) (call_kind : CallKind) → (dead && not (is_close call_kind)) ≡ false → is_close call_kind ≡ false → dead ≡ false
  dead_stays true call_kind e is = absurd (contradiction (is_close call_kind) e is)
    where
      contradiction : (test : Bool) → not test ≡ false → test ≡ false → ⊥
      contradiction true e f = cc
      contradiction false e f = cc
  dead_stays false call_kind e is = refl

  begins_so : (params : CopiedParams) (session : Session) (call_kind : CallKind) (found : Option Instance) → IsAwake r params session
      → get r.tables.instances r.call.instance ≡ found
      → (option_map_or (λ (instance : Instance). instance.dead) found false && not (is_close call_kind)) ≡ false
      → option_map_or is_held found false ≡ false → r.call.kind ≡ call_kind → P (begins_in r params session call_kind found)
  begins_so params session kind.Open found awake there alive free is =
      on_app params session (app_of_call r) found awake there (dead_stays _ kind.Open alive refl) free is refl
  begins_so params session (kind.Invoke func) (Some instance) awake there alive free is =
      cases.invokes params session instance func (record { awake = awake; there = there; free = free }) (dead_stays _ (kind.Invoke func) alive refl) is
  begins_so params session (kind.Invoke func) None awake there alive free is = cases.fails params bad_parameters awake.waited
  begins_so params session kind.Close (Some instance) awake there alive free is =
      cases.closes params session instance (record { awake = awake; there = there; free = free }) is
  begins_so params session kind.Close None awake there alive free is = cases.fails params bad_parameters awake.waited
  begins_so params session kind.Settled found awake there alive free is = cases.fails params bad_parameters awake.waited

  tested_so : (params : CopiedParams) (session : Session) (found : Option Instance) → IsAwake r params session
      → get r.tables.instances r.call.instance ≡ found → P (tested_again r params session found)
  tested_so params session found awake there =
      if_test (option_map_or (λ (instance : Instance). instance.dead) found false && not (is_close r.call.kind)) (ends_with r target_dead) _
      (λ dead. cases.fails params target_dead awake.waited)
      (λ alive.
      if_test (option_map_or is_held found false) (sleeps_on r params) _
      (λ held.
      if_test (is_without_buffer r.given) (ends_with r out_of_memory) (goes_on r (Waits params))
      (λ none. cases.fails params out_of_memory awake.waited) (λ some. cases.sleeps params awake.waited))
      (λ free. begins_so params session r.call.kind found awake there alive free refl))

  waited_so : (params : CopiedParams) (found : Option Session) → r.call.phase ≡ Waits params → get r.tables.sessions r.call.session ≡ found
      → P (option_map_or (λ (session : Session). tested_again r params session (get r.tables.instances r.call.instance)) found (ends_with r bad_parameters))
  waited_so params None is kept = cases.fails params bad_parameters is
  waited_so params (Some session) is kept =
      tested_so params session (get r.tables.instances r.call.instance) (record { waited = is; kept = kept }) refl

  onward_so : (phase : CallPhase) → r.call.phase ≡ phase → P (onward_in r phase)
  onward_so (Runs job) is = cases.runs job is
  onward_so (Asks job wanted payload) is = when_given job wanted payload r.given is
  onward_so (Waits params) is = waited_so params (get r.tables.sessions r.call.session) is refl
  onward_so (Ends result params told wakes) is = cases.ends result params told wakes (still_wakes r.given wakes) is

-- it holds of what a call comes to where it holds of each form
pub resumes_all : (r : Resumed) (P : Progress → Type 0) → ResumeCases r P → P (onward_of r)
resumes_all r P cases = onward_so r P cases r.call.phase refl
