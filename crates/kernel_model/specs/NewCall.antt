-- A new call, OPTEE_SMC_CALL_WITH_ARG, _WITH_RPC_ARG or _WITH_REGD_ARG: its tests in their order, of which the first that
-- fails decides. Tests 1 to 3 answer without a slot; 4 to 9 settle the call in its slot, with a result of TEE_ORIGIN_TEE;
-- by 10 it waits.
use Rattle.std.specs.Prelude.{ℕ, ◌+◌, ◌-◌, ◌%◌, ◌==◌, nat_le, nat_lt, Bool, false, not, ◌&&◌, ◌||◌, if◌then◌else◌, List}
use Rattle.std.specs.Prelude.{[], ◌∷◌, ◌++◌, length, fold, find, Option, Some, None, is_some, is_none}
use Rattle.std.specs.Option.{option_map, option_map_or, option_and_then}
use Rattle.base.specs.NumberMap.{NumberMap, get, insert, remove}
use Rattle.job_model.specs.declared.call_kind.CallKind.{CallKind}
use Rattle.job_model.specs.declared.call_kind.CallKind.TheVariants as kind
use Rattle.job_model.specs.Job.{Job, of_tee}
use Rattle.job_model.specs.declared.entry_point.EntryPoint.{EntryPoint}
use Rattle.job_model.specs.declared.entry_point.EntryPoint.TheVariants.{Invoke}
use Rattle.job_model.specs.Point.{no_params}
use Rattle.msg_args.specs.declared.head.MsgHead.{MsgHead}
use Rattle.msg_args.specs.declared.param.MsgParam.{MsgParam}
use Rattle.msg_args.specs.Layout.{params_at, params_len}
use Rattle.msg_args.specs.Reading.{head_at}
use Rattle.ns_ram.specs.Attempt.{Attempt, passes, ◌>>=◌, ◌>>◌, need, known, read, faultless}
use Rattle.ns_ram.specs.Pages.{Walk, walk}
use Rattle.ns_ram.specs.Reader.{Reader, take_bytes}
use Rattle.param_copy.specs.Copying.{Copies, copying}
use Rattle.param_copy.specs.declared.copied.Place.{Place}
use Rattle.session_table.specs.declared.session.Session.{Session}
use Rattle.session_table.specs.declared.waiters.Waiter.{Waiter}
use Rattle.session_table.specs.Session.{reserved_for}
use Rattle.session_table.specs.Sessions.{has_room}
use Rattle.shm_registry.specs.declared.page_buffer.PageBuffer.{PageBuffer}
use Rattle.shm_registry.specs.Pieces.{page_count}
use Rattle.shm_registry.specs.Registered.{with_pin, lowest_slot}
use Rattle.smc_abi.specs.declared.answer.Answer.{Answer}
use Rattle.ta_params.specs.declared.login.Login.{Login}
use Rattle.kernel_model.specs.Application.{Application, Booted, uuid_of}
use Rattle.kernel_model.specs.Begin.{Beginner, Opener, has_pages_for, opens_kept, opens_made, begins_on, closing_points}
use Rattle.kernel_model.specs.Argument.{client_in, params_in, Opening, opening, invocation, registering}
use Rattle.kernel_model.specs.Argument.{unregistering}
use Rattle.kernel_model.specs.Codes.{ethread_limit, ebadaddr, ebadcmd, success, bad_parameters, item_not_found}
use Rattle.kernel_model.specs.Codes.{out_of_memory, busy, target_dead}
use Rattle.kernel_model.specs.Decision.{Decision, Taken, Tested, taken_by, decided_by}
use Rattle.kernel_model.specs.Instances.{app_of, is_held, shared_instance, is_multi_session}
use Rattle.kernel_model.specs.Kernel.{CallPhase, Runs, Waits, Ends, PendingCall, Untold, AnOpen, AnInvoke, ACancel}
use Rattle.kernel_model.specs.Kernel.{Cancel, Instance, Kernel, Tables, lowest_free}
use Rattle.kernel_model.specs.Located.{Located, area_of, cookie_of, has_argument, has_head, located}
use Rattle.kernel_model.specs.Located.{with_argument_pinned}
use Rattle.kernel_model.specs.Sessions.{opened_by, has_session}

-- a call that has passed tests 1 to 3: the tables that it found, in which its slot pins the cookie that names its
-- argument, if one does; its slot, its client, its argument's address and head, and its area
pub record NewCall : Type 0 where
  pub boot : Booted
  pub tables : Tables
  pub slot : ℕ
  pub client : ℕ
  pub arg : ℕ
  pub area : Option ℕ
  pub head : MsgHead

-- ---- what is decided

-- a call in this phase that is about nothing
abbrev pub fresh_call : NewCall → CallPhase → PendingCall
fresh_call c phase = record {
  client = c.client;
  kind = kind.Settled;
  settled = Untold;
  uuid = None;
  arg = c.arg;
  area = c.area;
  places = [];
  session = 0;
  instance = 0;
  cancel_id = c.head.cancel_id;
  marked = false;
  seen = false;
  steps = 0;
  buffer = None;
  phase = phase;
}

-- a call with this result, which no application returned
abbrev pub settled_call : NewCall → ℕ → PendingCall
settled_call c code = fresh_call c (Ends (of_tee code) no_params false None)

-- the same, of an open of this application with this login, and of an invoke and a cancel in the named session
abbrev pub settled_open : NewCall → Application → Login → ℕ → PendingCall
settled_open c app login code =
    record (settled_call c code) { settled = AnOpen login; uuid = Some (uuid_of app) }

abbrev pub settled_invoke : NewCall → ℕ → PendingCall
settled_invoke c code = record (settled_call c code) { settled = AnInvoke c.head.func; session = c.head.session }

abbrev pub settled_cancel : NewCall → ℕ → PendingCall
settled_cancel c code = record (settled_call c code) { settled = ACancel; session = c.head.session }

-- what a call on an instance is about: its session and its instance, its application, and where its results go
pub record About : Type 0 where
  pub kind : CallKind
  pub session : ℕ
  pub instance : ℕ
  pub uuid : List ℕ
  pub places : List Place

-- such a call, in this phase
abbrev pub call_about : NewCall → About → CallPhase → PendingCall
call_about c about phase = record (fresh_call c phase) {
  kind = about.kind;
  uuid = Some about.uuid;
  places = about.places;
  session = about.session;
  instance = about.instance;
}

-- how it begins
abbrev pub beginner : NewCall → Beginner
beginner c = record { boot = c.boot; tables = c.tables; slot = c.slot; seen = false }

-- the slot works on this call, with these tables
abbrev pub takes : Tables → PendingCall → Taken
takes tables call = record { call = call; tables = tables; cancels = None }

-- the same, and the tables stay
abbrev pub takes_alone : NewCall → PendingCall → Taken
takes_alone c call = takes c.tables call

-- the call is settled with this result, and the tables stay
abbrev pub settles : NewCall → ℕ → Taken
settles c code = takes_alone c (settled_call c code)

-- an open of this application with this login, or an invoke in the named session, is
abbrev pub settles_open : NewCall → Application → Login → ℕ → Taken
settles_open c app login code = takes_alone c (settled_open c app login code)

abbrev pub settles_invoke : NewCall → ℕ → Taken
settles_invoke c code = takes_alone c (settled_invoke c code)

-- these cookies are pinned by the call's slot
abbrev pub with_pins : NewCall → Tables → List ℕ → Tables
with_pins c tables cookies =
    let pins = fold (λ pins cookie. with_pin pins cookie c.slot) tables.registered.pins cookies in
    record tables { registered = record tables.registered { pins = pins } }

-- the call runs this job, with these tables and pins
abbrev pub runs_in : NewCall → Tables → About → List ℕ → Job → Taken
runs_in c tables about cookies job = takes (with_pins c tables cookies) (call_about c about (Runs job))

-- the call waits for its instance, behind those that wait already
abbrev pub waits_in : NewCall → Tables → About → Copies → Taken
waits_in c tables about copies =
    let last : Waiter = record { instance = about.instance; uuid = about.uuid; slot = c.slot } in
    let after = record (with_pins c tables copies.cookies) { waiters = tables.waiters ++ last ∷ [] } in
    takes after (call_about c about (Waits copies.params))

-- ---- reading the argument

-- the parameters, of which each has to have a valid attribute
abbrev pub parameters : NewCall → Tested (List MsgParam)
parameters c = do
  bytes ← read (take_bytes (params_at c.arg) (params_len c.head.count))
  known (params_in c.head.count bytes) (settles c bad_parameters)

-- those of an open or invoke copied, of which the first has this number in the argument; or else the slot is taken so
abbrev pub copied_params : NewCall → List MsgParam → ℕ → Taken → Tested Copies
copied_params c params first faulty = faultless (copying c.tables.registered.buffers params first) faulty

-- ---- open: OPTEE_MSG_CMD_OPEN_SESSION

-- what it brings along
abbrev pub opener : Opening → Application → Copies → Opener
opener wanted app copies = record { app = app; login = wanted.login; params = copies.params }

-- what it is about: the session gets the next number
abbrev pub about_open : NewCall → Application → Copies → ℕ → About
about_open c app copies instance = record {
  kind = kind.Open;
  session = c.tables.next_session;
  instance = instance;
  uuid = uuid_of app;
  places = copies.places;
}

-- the tables with that session, which isn't opened yet
abbrev pub with_session : NewCall → Opening → Tables → ℕ → Tables
with_session c wanted tables instance =
    let session = c.tables.next_session in
    let reserved = reserved_for c.client wanted.login instance in
    record tables { sessions = insert tables.sessions session reserved; next_session = session + 1 }

-- the instance that it shares
abbrev pub shared_by : NewCall → Application → Option (ℕ × Instance)
shared_by c app = shared_instance c.tables.instances app

-- on the instance that it shares, or on a new one
abbrev pub opens : NewCall → Opening → Application → Copies → Taken
opens c wanted app copies =
    let who = beginner c in
    let brought = opener wanted app copies in
    let begun = option_map_or (opens_kept who brought) (shared_by c app) (opens_made who brought) in
    let about = about_open c app copies begun.instance in
    runs_in c (with_session c wanted begun.tables begun.instance) about copies.cookies begun.job

-- on an instance that another call holds
abbrev pub open_waits : NewCall → Opening → Application → Copies → ℕ × Instance → Taken
open_waits c wanted app copies kept =
    waits_in c (with_session c wanted c.tables kept.0) (about_open c app copies kept.0) copies

-- it waits where it shares an instance that is held
abbrev pub opens_or_waits : NewCall → Opening → Application → Copies → Taken
opens_or_waits c wanted app copies =
    let on_kept = λ (kept : ℕ × Instance).
    if is_held kept.1 then open_waits c wanted app copies kept else opens c wanted app copies in
    option_map_or on_kept (shared_by c app) (opens c wanted app copies)

-- the open shares an instance that passes this test
abbrev pub shares_one : NewCall → Application → (ℕ × Instance → Bool) → Bool
shares_one c app test = option_map_or test (shared_by c app) false

-- the application has one instance and one session at a time, and that session is there
abbrev pub is_taken : NewCall → Application → Bool
is_taken c app = not (is_multi_session app) && shares_one c app (λ kept. has_session c.tables.sessions kept.0)

-- there is room for another session
abbrev pub has_session_room : NewCall → Bool
has_session_room c = has_room (record { kept = c.tables.sessions; next = c.tables.next_session })

-- there are pages for the instance, where one is to be made
abbrev pub has_pages : NewCall → Application → Bool
has_pages c app = is_some (shared_by c app) || has_pages_for c.boot c.tables app

-- the tests of an open, and what it begins
abbrev pub open_session : NewCall → Tested Taken
open_session c = do
  params ← parameters c  -- 4, the shape
  wanted ← known (opening params) (settles c bad_parameters)
  app ← known (app_of c.boot wanted.uuid) (settles c item_not_found)  -- 5, the application
  need (not (shares_one c app (λ kept. kept.1.dead))) (settles_open c app wanted.login target_dead)  -- 6, a dead instance
  need (not (is_taken c app)) (settles_open c app wanted.login busy)  -- 7, a session that has the instance alone
  need (has_session_room c) (settles_open c app wanted.login out_of_memory)  -- 8, shared limits
  need (has_pages c app) (settles_open c app wanted.login out_of_memory)
  copies ← copied_params c wanted.params 2 (settles_open c app wanted.login bad_parameters)  -- 9, copying
  passes (opens_or_waits c wanted app copies)  -- 10, a held instance

-- ---- invoke and close: OPTEE_MSG_CMD_INVOKE_COMMAND, OPTEE_MSG_CMD_CLOSE_SESSION

-- the session that the argument names, opened by the caller, with its instance
abbrev pub named_session : NewCall → Option (Session × Instance)
named_session c =
    let beside = λ (session : Session).
    option_map (λ instance. (session, instance)) (get c.tables.instances session.instance) in
    option_and_then beside (opened_by c.tables.sessions c.head.session c.client)

-- what a call in that session is about
abbrev pub about_session : NewCall → CallKind → Session → Instance → Copies → About
about_session c call_kind session instance copies = record {
  kind = call_kind;
  session = c.head.session;
  instance = session.instance;
  uuid = instance.uuid;
  places = copies.places;
}

-- the call holds the instance and runs these entry points, or waits where another call holds it
abbrev pub works_or_waits : NewCall → CallKind → Session → Instance → Copies → List EntryPoint → Taken
works_or_waits c call_kind session instance copies points =
    let about = about_session c call_kind session instance copies in
    let begun = begins_on (beginner c) session instance copies.params points in
    if is_held instance
    then waits_in c c.tables about copies
    else runs_in c begun.tables about copies.cookies begun.job

-- an invoke of the function in the named session
abbrev pub invokes : NewCall → Session × Instance → Copies → Taken
invokes c named copies =
    works_or_waits c (kind.Invoke c.head.func) named.0 named.1 copies (Invoke c.head.func ∷ [])

-- the tests of an invoke, and what it begins
abbrev pub invoke_command : NewCall → Tested Taken
invoke_command c = do
  params ← parameters c  -- 4, the shape
  invoked ← known (invocation params) (settles c bad_parameters)
  named ← known (named_session c) (settles c bad_parameters)  -- 5, the session
  need (not named.1.dead) (settles_invoke c target_dead)  -- 6, a dead instance
  copies ← copied_params c invoked 0 (settles_invoke c bad_parameters)  -- 9, copying
  passes (invokes c named copies)  -- 10, a held instance

-- a close has no parameters
abbrev pub no_copies : Copies
no_copies = record { params = no_params; places = []; cookies = [] }

-- a close of the named session
abbrev pub closes : NewCall → Session × Instance → Taken
closes c named =
    let points = closing_points (beginner c) c.head.session named.0 named.1 in
    works_or_waits c kind.Close named.0 named.1 no_copies points

-- the tests of a close, and what it begins: its parameters are ignored, and its instance may be dead
abbrev pub close_session : NewCall → Tested Taken
close_session c = do
  named ← known (named_session c) (settles c bad_parameters)  -- 5, the session
  passes (closes c named)  -- 10, a held instance

-- ---- cancel: OPTEE_MSG_CMD_CANCEL

-- it succeeds, and those calls are cancelled
abbrev pub cancels : NewCall → Taken
cancels c =
    let meant : Cancel = record { session = c.head.session; cancel_id = c.head.cancel_id } in
    record (takes_alone c (settled_cancel c success)) { cancels = Some meant }

-- the pending calls of the session that have the number are marked, and the cancel succeeds, also where there are none;
-- its parameters are ignored
abbrev pub cancel_calls : NewCall → Tested Taken
cancel_calls c = do
  named ← known (named_session c) (settles c bad_parameters)  -- 5, the session
  passes (cancels c)

-- ---- register and unregister: OPTEE_MSG_CMD_REGISTER_SHM, OPTEE_MSG_CMD_UNREGISTER_SHM

-- the low twelve bits of p are the offset in the first page, the rest is the address of the first page list
abbrev pub offset_in : MsgParam → ℕ
offset_in param = param.p % 4096

-- how many pages the buffer touches
abbrev pub pages_touched : MsgParam → ℕ
pages_touched param = page_count (offset_in param) param.q

-- its pages, by the lists of their addresses
abbrev pub listed_pages : MsgParam → Reader Walk
listed_pages param = walk (param.p - offset_in param) (pages_touched param)

-- the call succeeds, and these are the registered buffers
abbrev pub keeps_buffers : NewCall → NumberMap PageBuffer → Taken
keeps_buffers c buffers =
    let registered = record c.tables.registered { buffers = buffers } in
    takes (record c.tables { registered = registered }) (settled_call c success)

-- the buffer of these pages is kept under its cookie
abbrev pub keeps_buffer : NewCall → MsgParam → List ℕ → Taken
keeps_buffer c param pages =
    let buffer : PageBuffer = record { pages = pages; offset = offset_in param; size = param.q } in
    keeps_buffers c (insert c.tables.registered.buffers param.s buffer)

-- the tests of a register, and what it changes
abbrev pub register_memory : NewCall → Tested Taken
register_memory c = do
  params ← parameters c  -- 4, the shape
  param ← known (registering params) (settles c bad_parameters)
  need (is_none (get c.tables.registered.buffers param.s)) (settles c bad_parameters)  -- the cookie is new
  need (nat_lt 0 param.q) (settles c bad_parameters)  -- some bytes
  need (nat_le (pages_touched param) 1024) (settles c bad_parameters)  -- and not too many pages
  need (nat_lt (length c.tables.registered.buffers) 64) (settles c out_of_memory)  -- room for one more
  pages ← faultless (listed_pages param) (settles c bad_parameters)  -- pages of RAM
  passes (keeps_buffer c param pages)

-- the buffer is kept no more
abbrev pub drops_buffer : NewCall → MsgParam → Taken
drops_buffer c param = keeps_buffers c (remove c.tables.registered.buffers param.s)

-- the tests of an unregister, and what it changes
abbrev pub unregister_memory : NewCall → Tested Taken
unregister_memory c = do
  params ← parameters c  -- 4, the shape
  param ← known (unregistering params) (settles c bad_parameters)
  need (is_some (get c.tables.registered.buffers param.s)) (settles c bad_parameters)  -- the cookie is kept
  need (is_none (lowest_slot c.tables.registered.pins param.s)) (settles c busy)  -- and no call pins it
  passes (drops_buffer c param)

-- ---- the call

-- the commands of optee_msg.h, each with its tests from the fourth on
abbrev pub commands : List (ℕ × (NewCall → Tested Taken))
commands =
    (0, open_session)
    ∷ (1, invoke_command)
    ∷ (2, close_session)
    ∷ (3, cancel_calls)
    ∷ (4, register_memory)
    ∷ (5, unregister_memory)
    ∷ []

-- the command of a number, where it has a row
abbrev pub command_of : ℕ → Option (NewCall → Tested Taken)
command_of cmd = option_map (λ row. row.1) (find (λ row. row.0 == cmd) commands)

-- a new call in a slot, with its argument and its head there
abbrev pub new_call_of : Booted → Tables → List ℕ → ℕ → Located → List ℕ → NewCall
new_call_of boot tables regs slot at bytes = record {
  boot = boot;
  tables = with_argument_pinned (cookie_of at) tables slot;
  slot = slot;
  client = client_in regs;
  arg = at.addr;
  area = area_of at (head_at bytes);
  head = head_at bytes;
}

-- the tests of every call behind that of a free slot, and then those of its command
abbrev pub new_call_in : Booted → Tables → List ℕ → ℕ → Attempt Answer Taken
new_call_in boot tables regs slot = do
  at ← known (located tables regs) ebadaddr  -- 2, where the argument is, with its head, its parameters and its area
  need (has_head at) ebadaddr
  bytes ← read (take_bytes at.addr 32)
  need (has_argument at (head_at bytes)) ebadaddr
  command ← known (command_of (head_at bytes).cmd) ebadcmd  -- 3, the command
  read (taken_by (command (new_call_of boot tables regs slot at bytes)))

-- where this is the lowest free slot, if one is free
abbrev pub new_call_with : Booted → Tables → List ℕ → Option ℕ → Attempt Answer (ℕ × Taken)
new_call_with boot tables regs free = do
  slot ← known free ethread_limit  -- 1, a free slot
  taken ← new_call_in boot tables regs slot
  passes (slot, taken)

-- the tests of every call, and then those of its command
abbrev pub new_call : Booted → Kernel → List ℕ → Reader Decision
new_call boot kernel regs = decided_by (new_call_with boot kernel.tables regs (lowest_free kernel.slots))
