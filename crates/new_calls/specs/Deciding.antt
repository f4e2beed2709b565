-- What the code's words for a new call and for what becomes of it stand for in the kernel's definitions.
use Rattle.std.specs.Prelude.{◌≡◌, ℕ, [], List, Option, Some, None, Result, Ok, Err}
use Rattle.std.specs.Option.{option_map_or}
use Rattle.std.specs.Global.{Box, Vec}
use Rattle.base.specs.NumberMap.{get, insert, remove}
use Rattle.ns_ram.specs.declared.read.Read.{Read}
use Rattle.ns_ram.specs.Reader.{over_lane}
use Rattle.kernel_model.specs.Application.{Application, Booted, uuid_of}
use Rattle.kernel_model.specs.Argument.{Opening}
use Rattle.kernel_model.specs.Codes.{bad_parameters}
use Rattle.kernel_model.specs.Decision.{Taken, Tested}
use Rattle.kernel_model.specs.Kernel as kernel
use Rattle.kernel_model.specs.Located.{with_argument_pinned}
use Rattle.kernel_model.specs.NewCall as model
use Rattle.kernel_model.specs.NewCall.{cancels, closes, invokes, keeps_buffers, opens_or_waits, settles, settles_invoke, settles_open}
use Rattle.kernel_state.specs.Setup.{application_of, booted_of_setup}
use Rattle.kernel_state.specs.Tables.{tables_of}
use Rattle.msg_args.specs.declared.param.MsgParam.{MsgParam}
use Rattle.param_copy.specs.Copying.{Copies}
use Rattle.param_copy.specs.Outcome.{copies_in}
use Rattle.param_copy.specs.declared.taken.TakenParams.{TakenParams}
use Rattle.session_table.specs.declared.session.Session.{Session}
use Rattle.ta_params.specs.declared.login.Login.{Login}
use Rattle.new_calls.specs.declared.entered.Entered.{Entered}
use Rattle.new_calls.specs.declared.halt.Halt.{Halt}
use Rattle.new_calls.specs.declared.halt.Halt.TheVariants as halt
use Rattle.new_calls.specs.declared.halt.Settled.{Settled}
use Rattle.new_calls.specs.declared.halt.Settled.TheVariants as settled
use Rattle.new_calls.specs.declared.call.CallAtEntry.{CallAtEntry}
use Rattle.new_calls.specs.declared.plan.Plan.{Plan}
use Rattle.new_calls.specs.declared.plan.Plan.TheVariants as plan

-- ---- a call

-- one that came in with this, and goes by these tables
abbrev pub call_found : Booted → kernel.Tables → Entered → model.NewCall
call_found boot tables entered = record {
  boot = boot;
  tables = tables;
  slot = entered.slot;
  client = entered.client;
  arg = entered.arg;
  area = entered.area;
  head = entered.head;
}

-- one that found these tables: in those that it goes by, its slot pins the cookie that names its argument
abbrev pub call_with : Booted → kernel.Tables → Entered → model.NewCall
call_with boot tables entered = call_found boot (with_argument_pinned entered.cookie tables entered.slot) entered

abbrev pub call_of : CallAtEntry → model.NewCall
call_of call = call_with (booted_of_setup call.setup.now) (tables_of call.tables.now) call.entered

-- ---- what becomes of it

-- how it is settled, by a test that failed
abbrev pub settled_of : model.NewCall → Settled → Taken
settled_of c (settled.Call code) = settles c code
settled_of c (settled.Open app login code) = settles_open c (application_of app) login code
settled_of c (settled.Invoke code) = settles_invoke c code

-- what an open has asked for whose parameters were copied
abbrev pub asked_by : Application → Login → Opening
asked_by app login = record { uuid = uuid_of app; login = login; params = [] }

-- what begins in this session, on its instance
abbrev pub taken_in_session : model.NewCall → Session → (Session × kernel.Instance → Taken) → Taken
taken_in_session c session begins =
    option_map_or (λ instance. begins (session, instance)) (get c.tables.instances session.instance)
    (settles c bad_parameters)

-- what its slot is taken for
abbrev pub taken_of : model.NewCall → Plan → Taken
taken_of c (plan.Settles settled) = settled_of c settled
taken_of c (plan.Opens app login copies) =
    opens_or_waits c (asked_by (application_of app) login) (application_of app) (copies_in copies.value)
taken_of c (plan.Invokes session app copies) =
    taken_in_session c session (λ named. invokes c named (copies_in copies.value))
taken_of c (plan.Closes session app) = taken_in_session c session (λ named. closes c named)
taken_of c plan.Cancels = cancels c
taken_of c (plan.KeepsBuffer cookie buffer) = keeps_buffers c (insert c.tables.registered.buffers cookie buffer)
taken_of c (plan.DropsBuffer cookie) = keeps_buffers c (remove c.tables.registered.buffers cookie)

-- ---- tests over a lane

-- the tests come to this: a value, or how they settle the call. Want of memory says nothing of them
abbrev pub ComesTo : {A B : Type 0} → model.NewCall → Tested B → (A → B) → List ℕ → List Read → List Read →
    Result A (Halt) → Type 0
ComesTo c tests means lane before after (Ok value) = over_lane tests lane before ≡ Some (Ok (means value), after)
ComesTo c tests means lane before after (Err (halt.Settled settled)) =
    over_lane tests lane before ≡ Some (Err (settled_of c settled), after)
ComesTo c tests means lane before after (Err halt.Memory) = Unit {0}

-- the tests of a command come to this plan, or settle the call
abbrev pub Decides : CallAtEntry → (model.NewCall → Tested Taken) → List ℕ → List Read →
    List Read → Result (Plan) (Halt) → Type 0
Decides call tests lane before after decided =
    ComesTo (call_of call) (tests (call_of call)) (taken_of (call_of call)) lane before after decided

-- the parameters were read from these reads on, and say this
abbrev pub HaveSaid : {A : Type 0} → model.NewCall → (List MsgParam → Option A) → A → List ℕ → List Read → List Read → Type 0
HaveSaid c shape said lane before between =
    (params : List MsgParam) × (over_lane (model.parameters c) lane before ≡ Some (Ok params, between))
    × (shape params ≡ Some said)

-- the copied parameters, or else the slot is taken so
abbrev pub copies_or : Taken → Option (Box TakenParams) → Result Copies Taken
copies_or faulty None = Err faulty
copies_or faulty (Some copies) = Ok (copies_in copies.value)

-- the pages, or else the slot is taken so
abbrev pub pages_or : Taken → Option (Vec ℕ) → Result (List ℕ) Taken
pages_or faulty None = Err faulty
pages_or faulty (Some pages) = Ok pages.items
