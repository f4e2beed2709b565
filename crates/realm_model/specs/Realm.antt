-- Those who share an instance: one session of an application whose sessions share none, or all sessions of an application
-- whose sessions share one. What differs in what is read of the two is said by the few functions of this file. This project's own.
use Rattle.std.specs.Prelude.{ℕ, ◌==◌, Bool, false, Option, Some, None, is_some, if◌then◌else◌}
use Rattle.base.specs.NumberMap.{NumberMap, get}
use Rattle.ta_params.specs.declared.call_result.CallResult.{CallResult}
use Rattle.ta_params.specs.declared.login.Login.{Login}
use Rattle.kernel_model.specs.Application.{Application, Booted}
use Rattle.kernel_model.specs.Begin.{has_pages_for}
use Rattle.kernel_model.specs.Kernel.{CallPhase, Runs, PendingCall, Tables}
use Rattle.own_model.specs.Parameters.{params_of}
use Rattle.own_model.specs.declared.own_event.OwnInput.TheVariants.{Copied}
use Rattle.group_model.specs.Read.{finds_it_gone, is_open_of, open_event_in, settled_open_event}
use Rattle.group_model.specs.declared.group_event.GroupEvent.{GroupEvent}
use Rattle.group_model.specs.declared.group_event.GroupEvent.TheVariants.{Open}

-- the session of this number, or all sessions of the application
pub data Realm : Type 0 where
  OneSession : (member : ℕ) → Realm
  AllSessions : (app : Application) → Realm

-- ---- who is a member

-- the number that the realm gives to a session of its own: one session is number 0, and others are numbered by their opens
abbrev pub number_in : Realm → NumberMap ℕ → ℕ → Option ℕ
number_in (OneSession member) numbers session = if session == member then Some 0 else None
number_in (AllSessions app) numbers session = get numbers session

-- the event of an open that comes in, where it is a member's: the one that opens the one session, which runs at once since
-- nobody else has its instance; or each that names the application
abbrev pub open_of : Realm → Tables → PendingCall → CallPhase → Option GroupEvent
open_of (OneSession member) tables call (Runs job) =
    if call.session == member then Some (Open (Copied (params_of job)) job.login false (is_some call.area)) else None
open_of (OneSession member) tables call _ = None
open_of (AllSessions app) tables call phase =
    if is_open_of app call then open_event_in tables call phase else None

-- that of an open that was settled as it came in: it has no session, so that it is no one session's
abbrev pub settled_open_of : Realm → PendingCall → Login → CallResult → Option GroupEvent
settled_open_of (OneSession member) call login result = None
settled_open_of (AllSessions app) call login result =
    if is_open_of app call then Some (settled_open_event login result (is_some call.area)) else None

-- ---- who else may sit on its instances

-- a call that comes back is an open which has waited and finds its instance gone: whether there are pages for a new one. One
-- session's open never waits, as nobody else sits on its instance
abbrev pub room_of : Realm → Booted → Tables → PendingCall → Option Bool
room_of (OneSession member) boot tables call = None
room_of (AllSessions app) boot tables call =
    if finds_it_gone tables call call.kind call.phase then Some (has_pages_for boot tables app) else None

-- ---- whose client is told that no thread was free

-- the session for whose client that is noted: of all sessions of an application it is noted for none, as a group has no such
-- event
abbrev pub client_of : Realm → Option ℕ
client_of (OneSession member) = Some member
client_of (AllSessions app) = None
