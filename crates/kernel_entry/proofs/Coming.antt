-- A call that comes to its instance: it begins there, or waits.
use Rattle.std.proofs.Common.{◌≡◌, ℕ, ◌+◌, Bool, true, false, List, Option, Some, None, refl, sym, ap, ◌∙◌}
use Rattle.std.specs.Prelude.{if◌then◌else◌}
use Rattle.std.specs.Option.{option_map_or}
use Rattle.job_model.specs.declared.entry_point.EntryPoint.{EntryPoint}
use Rattle.kernel_model.specs.Begin.{Beginner, Begun, Opener, awaited_number, begins_on, opens_kept, opens_new}
use Rattle.kernel_model.specs.Instances.{is_held}
use Rattle.kernel_model.specs.Kernel as model
use Rattle.kernel_model.specs.Kernel.{CallPhase, Instance, Runs, Asks, Waits, Ends}
use Rattle.kernel_model.specs.NewCall.{About, NewCall, call_about}
use Rattle.rpc_cont.specs.Advancing.{CanAdvance}
use Rattle.rpc_cont.specs.Beginning.{IsEntered, IsFresh}
use Rattle.rpc_cont.specs.declared.call_entry.CallEntry.{CallEntry}
use Rattle.rpc_cont.specs.declared.cont.Cont.{Cont}
use Rattle.session_table.specs.declared.session.Session.{Session}
use Rattle.ta_params.specs.declared.copied_params.CopiedParams.{CopiedParams}
use Rattle.begin_call.specs.Begins.{HasBegun}
use Rattle.kernel_state.specs.Calls.{IsCall, IsInPhase, IsWaiting, bytes_of}
use Rattle.kernel_state.specs.declared.tables.Tables.{Tables}
use Rattle.kernel_entry.specs.Applying.{Came, HasCome, began, open_comes, queued, session_comes}

-- ---- by what it comes to

pub has_begun : (after : Tables) (old new : Cont (List ℕ)) (uuid : List ℕ) (begun : Begun) →
    HasBegun after old new uuid begun → HasCome after old new uuid (began begun)
has_begun after old new uuid begun has = record {
  tables = has.tables;
  phase = has.runs;
  app = has.app;
  instance = has.instance;
  stays = has.stays;
}

-- ---- the call

-- what an entry has of a call on an instance
pub record IsEntryAbout (c : NewCall) (about : About) (entry : CallEntry) : Type 0 where
  pub client : entry.client ≡ c.client
  pub kind : entry.kind ≡ about.kind
  pub arg : entry.arg ≡ c.arg
  pub area : entry.area ≡ c.area
  pub places : entry.places.items ≡ about.places
  pub session : entry.session ≡ about.session

pub call_come : (c : NewCall) (about : About) (entry : CallEntry) (after : Tables) (old new : Cont (List ℕ)) (came : Came) →
    IsEntryAbout c about entry → IsEntered entry old → HasCome after old new about.uuid came → about.instance ≡ came.instance →
    IsCall new (call_about c about came.phase)
call_come c about entry after old new came is entered has same = record {
  client = ap (λ cont. cont.client) has.stays ∙ entered.client ∙ is.client;
  kind = ap (λ cont. cont.kind) has.stays ∙ entered.kind ∙ is.kind;
  app = has.app;
  login = λ login settled opens. absurd cc;
  arg = ap (λ cont. cont.arg) has.stays ∙ entered.arg ∙ is.arg;
  area = ap (λ cont. cont.area) has.stays ∙ entered.area ∙ is.area;
  places = ap (λ cont. cont.places.items) has.stays ∙ ap (λ places. places.items) entered.places ∙ is.places;
  session = ap (λ cont. cont.session) has.stays ∙ entered.session ∙ is.session;
  instance = has.instance ∙ sym same;
  seen = ap (λ cont. cont.cancelled) has.stays ∙ entered.cancelled;
  steps = ap (λ cont. cont.steps) has.stays ∙ entered.steps;
  buffer = ap (λ cont. cont.buffer) has.stays ∙ entered.buffer;
  phase = has.phase;
}

-- ---- its session, given afterwards

-- it runs or waits
abbrev pub IsAtStart : CallPhase → Type 0
IsAtStart (Runs job) = Unit {0}
IsAtStart (Asks job wanted payload) = ⊥
IsAtStart (Waits params) = Unit {0}
IsAtStart (Ends result params told wakes) = ⊥

abbrev pub with_number : Cont (List ℕ) → ℕ → Cont (List ℕ)
with_number cont number = record cont { session = number }

fresh_numbered : (cont : Cont (List ℕ)) (number : ℕ) → IsFresh cont → IsFresh (with_number cont number)
fresh_numbered cont number fresh = record {
  idle = record {
    machine = fresh.idle.machine;
    memory = fresh.idle.memory;
    request = fresh.idle.request;
    object = fresh.idle.object;
  };
  point = fresh.point;
  points = fresh.points;
}

advance_numbered : (cont : Cont (List ℕ)) (number : ℕ) → CanAdvance bytes_of cont → CanAdvance bytes_of (with_number cont number)
advance_numbered cont number can = record {
  phase = can.phase;
  runs = record {
    memory = can.runs.memory;
    request = can.runs.request;
    object = can.runs.object;
    runs = can.runs.runs;
  };
}

waiting_numbered : (cont : Cont (List ℕ)) (number : ℕ) (params : CopiedParams) → IsWaiting cont params → IsWaiting (with_number cont number) params
waiting_numbered cont number params is = record {
  phase = is.phase;
  app = is.app;
  fresh = fresh_numbered cont number is.fresh;
  params = is.params;
  result = is.result;
}

phase_numbered : (cont : Cont (List ℕ)) (number : ℕ) (phase : CallPhase) → IsAtStart phase → IsInPhase cont phase → IsInPhase (with_number cont number) phase
phase_numbered cont number (Runs job) start is = (is.0, advance_numbered cont number is.1)
phase_numbered cont number (Asks job wanted payload) start is = absurd start
phase_numbered cont number (Waits params) start is = waiting_numbered cont number params is
phase_numbered cont number (Ends result params told wakes) start is = absurd start

pub call_numbered : (c : NewCall) (about : About) (cont : Cont (List ℕ)) (number : ℕ) (phase : CallPhase) → IsAtStart phase →
    IsCall cont (call_about c about phase) → IsCall (with_number cont number) (call_about c (record about { session = number }) phase)
call_numbered c about cont number phase start is = record {
  client = is.client;
  kind = is.kind;
  app = is.app;
  login = is.login;
  arg = is.arg;
  area = is.area;
  places = is.places;
  session = refl;
  instance = is.instance;
  seen = is.seen;
  steps = is.steps;
  buffer = is.buffer;
  phase = phase_numbered cont number phase start is.phase;
}

-- ---- what stays

-- sessions and buffers are as they were, and the call is at its start
pub record LeavesThose (before : model.Tables) (came : Came) : Type 0 where
  pub sessions : came.tables.sessions ≡ before.sessions
  pub next : came.tables.next_session ≡ before.next_session
  pub registered : came.tables.registered ≡ before.registered
  pub start : IsAtStart came.phase

made_leaves : (who : Beginner) (opener : Opener) (next : ℕ) (o : Option ℕ) →
    LeavesThose who.tables (began (option_map_or (λ number. opens_new who opener number next) o (opens_new who opener next (next + 1))))
made_leaves who opener next None = record { sessions = refl; next = refl; registered = refl; start = tt }
made_leaves who opener next (Some number) = record { sessions = refl; next = refl; registered = refl; start = tt }

kept_leaves : (held : Bool) (who : Beginner) (opener : Opener) (kept : ℕ × Instance) (uuid : List ℕ) →
    LeavesThose who.tables (if held then queued who kept.0 uuid opener.params else began (opens_kept who opener kept))
kept_leaves true who opener kept uuid = record { sessions = refl; next = refl; registered = refl; start = tt }
kept_leaves false who opener kept uuid = record { sessions = refl; next = refl; registered = refl; start = tt }

pub open_leaves : (who : Beginner) (opener : Opener) (shared : Option (ℕ × Instance)) → LeavesThose who.tables (open_comes who opener shared)
open_leaves who opener None = made_leaves who opener who.tables.next_instance (awaited_number who.tables opener.app)
open_leaves who opener (Some kept) = kept_leaves (is_held kept.1) who opener kept _

session_leaves_if : (held : Bool) (who : Beginner) (session : Session) (instance : Instance) (params : CopiedParams) (points : List EntryPoint) →
    LeavesThose who.tables (if held then queued who session.instance instance.uuid params else began (begins_on who session instance params points))
session_leaves_if true who session instance params points = record { sessions = refl; next = refl; registered = refl; start = tt }
session_leaves_if false who session instance params points = record { sessions = refl; next = refl; registered = refl; start = tt }

pub session_leaves : (who : Beginner) (session : Session) (instance : Instance) (params : CopiedParams) (points : List EntryPoint) →
    LeavesThose who.tables (session_comes who session instance params points)
session_leaves who session instance params points = session_leaves_if (is_held instance) who session instance params points
