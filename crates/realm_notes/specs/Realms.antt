-- Whose notes are taken, and in what one session and all sessions of an application differ, as far as the code sees it.
use Rattle.std.specs.Prelude.{ℕ, ◌==◌, ◌&&◌, not, Bool, true, false, if◌then◌else◌, List, Option, Some, None, bytes_eq, is_some}
use Rattle.base.specs.NumberMap.{get}
use Rattle.group_model.specs.declared.group_event.GroupEvent.{GroupEvent}
use Rattle.job_model.specs.declared.call_kind.CallKind.{CallKind}
use Rattle.job_model.specs.declared.call_kind.CallKind.TheVariants as kind
use Rattle.kernel_model.specs.Application.{Booted, uuid_of}
use Rattle.kernel_model.specs.Begin.{has_pages_for}
use Rattle.kernel_model.specs.Kernel.{CallPhase, Runs, Kernel, PendingCall, Tables}
use Rattle.kernel_state.specs.Setup.{application_of}
use Rattle.kernel_state.specs.declared.carried.Carried.{Carried}
use Rattle.kernel_state.specs.declared.carried.Carried.TheVariants.{Nothing, Resting, Running}
use Rattle.own_model.specs.Own.{is_limit, is_of_client}
use Rattle.realm_model.specs.Realm.{AllSessions, OneSession, Realm, client_of}
use Rattle.realm_notes.specs.declared.calls.NewOpen.{NewOpen}
use Rattle.realm_notes.specs.declared.realm.Realm.{Realm as CodeRealm}
use Rattle.realm_notes.specs.declared.realm.Realm.TheVariants as code
use Rattle.rpc_cont.specs.declared.cont.Cont.{Cont}
use Rattle.rpc_cont.specs.declared.phase.Phase.{Phase}
use Rattle.rpc_cont.specs.declared.phase.Phase.TheVariants as phase
use Rattle.smc_abi.specs.declared.answer.Answer.{Answer}

-- the realm that the code's stands for
abbrev pub realm_of : CodeRealm → Realm
realm_of (code.OneSession member) = OneSession member
realm_of (code.AllSessions app) = AllSessions (application_of app)

-- ---- new calls

-- an open may be an event of the realm: of one session where it gets a session, of all sessions where it names their application
abbrev pub takes_open : Realm → NewOpen → Bool
takes_open (OneSession member) call = call.reserves
takes_open (AllSessions app) call = bytes_eq call.uuid (uuid_of app)

-- an open of one session counts only where it runs at once
abbrev pub is_at_once : CallKind → CallPhase → Bool
is_at_once kind.Open (Runs job) = true
is_at_once kind.Open _ = false
is_at_once _ phase = true

-- the event that a new call may be counts where the call is in the one session
abbrev pub counted : Realm → PendingCall → Option GroupEvent → Option GroupEvent
counted (OneSession member) call came = if (call.session == member) && is_at_once call.kind call.phase then came else None
counted (AllSessions app) call came = came

abbrev pub is_not_open : CallKind → Bool
is_not_open kind.Open = false
is_not_open _ = true

abbrev pub is_in_session : ℕ → Carried → Bool
is_in_session member Nothing = false
is_in_session member (Running cont) = cont.value.session == member
is_in_session member (Resting cont) = (cont.value.session == member) && is_not_open cont.value.kind

-- a new call that a processor carries counts
abbrev pub counts : Realm → Carried → Bool
counts (OneSession member) carried = is_in_session member carried
counts (AllSessions app) carried = true

-- ---- calls that come back

abbrev pub is_open : CallKind → Bool
is_open kind.Open = true
is_open _ = false

abbrev pub is_waiting : Phase → Bool
is_waiting phase.Waits = true
is_waiting _ = false

-- it is an open that has waited, and its instance is gone
abbrev pub finds_gone : Tables → Cont (List ℕ) → Bool
finds_gone tables cont = is_open cont.kind && is_waiting cont.phase && not (is_some (get tables.instances cont.instance))

-- where that is asked: whether there are pages for a new one
abbrev pub room_as : Realm → Booted → Tables → Cont (List ℕ) → Option Bool
room_as (OneSession member) boot tables cont = None
room_as (AllSessions app) boot tables cont = if finds_gone tables cont then Some (has_pages_for boot tables app) else None

-- ---- calls that are turned away

-- a processor whose answer was fixed comes in with a call of this session's client, and is turned away
abbrev pub is_away_for : Kernel → List ℕ → Answer → Option ℕ → Bool
is_away_for kernel regs answer None = false
is_away_for kernel regs answer (Some session) = is_limit answer && is_of_client kernel session regs

abbrev pub is_turned_away : Kernel → Realm → List ℕ → Answer → Bool
is_turned_away kernel realm regs answer = is_away_for kernel regs answer (client_of realm)
