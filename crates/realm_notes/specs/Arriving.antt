-- What an entry is for a realm, by what the kernel decides of it.
use Rattle.std.specs.Prelude.{◌≡◌, ℕ, ◌&&◌, not, Bool, false, if◌then◌else◌, List, [], Option, Some, None, slice_get}
use Rattle.std.specs.Global.{Box}
use Rattle.std.specs.Option.{option_map, option_or}
use Rattle.group_model.specs.declared.group_event.GroupEvent.{GroupEvent}
use Rattle.group_model.specs.declared.group_event.GroupEvent.TheVariants as group
use Rattle.kernel_model.specs.Application.{Booted}
use Rattle.kernel_model.specs.Argument.{reg, thread_in}
use Rattle.kernel_model.specs.Decision.{Decision, Answers, Takes}
use Rattle.kernel_model.specs.Entry.{decision_of}
use Rattle.kernel_model.specs.Given.{Given, given_to}
use Rattle.kernel_model.specs.Kernel.{Free, Kernel, PendingCall, Suspended, Tables}
use Rattle.kernel_model.specs.Leaving.{Leaving, Interrupted, leaving_of}
use Rattle.kernel_state.specs.Setup.{booted_of_setup}
use Rattle.kernel_state.specs.Tables.{tables_of}
use Rattle.kernel_state.specs.declared.cancellation.Cancellation.{Cancellation}
use Rattle.kernel_state.specs.declared.parts.Parts.{Parts}
use Rattle.ns_ram.specs.Reader.{Reader, over_lane, reading}
use Rattle.ns_ram.specs.declared.read.Read.{Read}
use Rattle.own_model.specs.Own.{input_of}
use Rattle.own_model.specs.declared.own_event.BackInput.{BackInput}
use Rattle.realm_model.specs.Reading.{Notes, event_of, number_of, sessions_with, uuid_by}
use Rattle.realm_model.specs.Realm.{Realm, room_of}
use Rattle.realm_model.specs.declared.realm_event.RealmEvent.TheVariants.{Comes}
use Rattle.realm_notes.specs.Noted.{with_session_if}
use Rattle.realm_notes.specs.Realms.{counted, room_as, takes_open}
use Rattle.realm_notes.specs.declared.arriving.Arrival.{Arrival}
use Rattle.realm_notes.specs.declared.arriving.Arrival.TheVariants as arrival
use Rattle.realm_notes.specs.declared.arriving.Back.{Back}
use Rattle.realm_notes.specs.declared.arriving.NewEvent.{NewEvent}
use Rattle.realm_notes.specs.declared.arriving.Resumed.{Resumed}
use Rattle.realm_notes.specs.declared.calls.ArrivingCall.{ArrivingCall}
use Rattle.realm_notes.specs.declared.calls.ArrivingCall.TheVariants.{Opens, InSession}
use Rattle.realm_notes.specs.declared.calls.SessionCall.{SessionCall}
use Rattle.realm_notes.specs.declared.calls.SessionCall.TheVariants as in_session
use Rattle.resumed_calls.specs.Deciding.{IsHandedOut}
use Rattle.rpc_cont.specs.declared.cont.Cont.{Cont}
use Rattle.rpc_cont.specs.declared.phase.Phase.{Phase}
use Rattle.rpc_cont.specs.declared.phase.Phase.TheVariants as phase
use Rattle.smc_abi.specs.Call.{call_of}

-- ---- new calls

-- a call in the realm's session of this number
abbrev pub event_in : SessionCall → ℕ → GroupEvent
event_in (in_session.Invoke func came area) session = group.Invoke session func came area
event_in (in_session.Close area) session = group.Close session area
event_in in_session.Cancel session = group.Cancel session

-- what a new call whose argument names this session of the kernel's may be as an event of the realm
abbrev pub event_as : Realm → Notes → ℕ → ArrivingCall → Option GroupEvent
event_as realm notes session (Opens call) =
    if takes_open realm call then Some (group.Open call.input call.login call.limited call.area) else None
event_as realm notes session (InSession call) = option_map (event_in call) (number_of realm notes session)

-- the UUID of the application that it opens
abbrev pub opens_in : ArrivingCall → Option (List ℕ)
opens_in (Opens call) = Some call.uuid
opens_in (InSession call) = None

abbrev pub gets_session : ArrivingCall → Bool
gets_session (Opens call) = call.reserves
gets_session (InSession call) = false

abbrev pub sessions_as : Notes → ℕ → ArrivingCall → Notes
sessions_as notes session call = with_session_if (gets_session call) notes session

abbrev pub new_event : ArrivingCall → GroupEvent → NewEvent
new_event call event = record { event = Comes event; opens = opens_in call; gets = gets_session call }

abbrev pub arrival_of : ArrivingCall → Option GroupEvent → Arrival
arrival_of call None = arrival.Nothing
arrival_of call (Some event) = arrival.New (new_event call event)

-- what a new call may be for the realm
abbrev pub arrival_as : Realm → Notes → ℕ → Option ArrivingCall → Arrival
arrival_as realm notes session None = arrival.Nothing
arrival_as realm notes session (Some call) = arrival_of call (event_as realm notes session call)

-- the boot, the realm that is read, what is noted of it, and the kernel before an entry
pub record Watch : Type 0 where
  pub boot : Booted
  pub realm : Realm
  pub noted : Notes
  pub kernel : Kernel

abbrev pub watch : Booted → Realm → Notes → Kernel → Watch
watch boot realm noted kernel = record { boot = boot; realm = realm; noted = noted; kernel = kernel }

-- a call has come into a free slot, with these tables behind its entry, and is no event of the realm
pub record IsNothing (w : Watch) (tables : Tables) (slot : ℕ) (call : PendingCall) : Type 0 where
  pub free : slice_get w.kernel.slots slot ≡ Some Free
  pub none : event_of w.realm tables w.noted call call.kind ≡ None

-- or it is this one, where it counts
pub record IsNew (w : Watch) (tables : Tables) (slot : ℕ) (call : PendingCall) (came : NewEvent) : Type 0 where
  pub free : slice_get w.kernel.slots slot ≡ Some Free
  pub event : GroupEvent
  pub is : came.event ≡ Comes event
  pub counts : event_of w.realm tables w.noted call call.kind ≡ counted w.realm call (Some event)
  pub sessions : (notes : Notes) → sessions_with call.kind notes call ≡ with_session_if came.gets notes call.session
  pub names : uuid_by event call w.noted ≡ option_or came.opens w.noted.uuid

-- ---- calls that come back

-- the steps that it had done, where it sees only now that it was cancelled
abbrev pub seen_then : PendingCall → PendingCall → Option ℕ
seen_then before now = if now.seen && not before.seen then Some before.steps else None

-- what it is given that was left so; one that was interrupted had asked for nothing
abbrev pub input_then : Leaving → Given → Option BackInput
input_then Interrupted came = None
input_then _ came = Some (input_of came)

-- an entry with these registers and reads has brought a call back
pub record IsBack (kernel : Kernel) (regs : List ℕ) (reads : List Read) (slot : ℕ) (now : PendingCall)
    (back : Back) : Type 0 where
  pub client : ℕ
  pub before : PendingCall
  pub held : slice_get kernel.slots slot ≡ Some (Suspended client before)
  pub given : Given
  pub reads_it : reading (given_to regs slot before) reads ≡ Some given
  pub seen : back.seen ≡ seen_then before now
  pub input : back.input ≡ input_then (leaving_of slot before) given

-- and it is asked for pages, or not
pub record IsResumed (w : Watch) (regs : List ℕ) (reads : List Read) (slot : ℕ) (now : PendingCall)
    (came : Resumed) : Type 0 where
  pub back : IsBack w.kernel regs reads slot now came.back
  pub room : came.room ≡ room_of w.realm w.boot w.kernel.tables back.before

-- ---- both

-- the slot works on this call, with these tables behind the entry
abbrev pub IsArrivalIn : Watch → List ℕ → List Read → ℕ → PendingCall → Tables → Arrival → Type 0
IsArrivalIn w regs reads slot call tables arrival.Nothing = IsNothing w tables slot call
IsArrivalIn w regs reads slot call tables (arrival.New came) = IsNew w tables slot call came
IsArrivalIn w regs reads slot call tables (arrival.Back came) = IsResumed w regs reads slot call came

-- by what was decided: of an answer nothing is said
abbrev pub IsArrivalBy : Watch → List ℕ → List Read → Arrival → Decision → Type 0
IsArrivalBy w regs reads came (Answers answer) = Unit {0}
IsArrivalBy w regs reads came (Takes slot taken) = IsArrivalIn w regs reads slot taken.call taken.tables came

-- what this reader decides of a lane
pub record IsArrivalFrom (w : Watch) (regs lane : List ℕ) (reader : Reader Decision) (came : Arrival) : Type 0 where
  pub decision : Decision
  pub reads : List Read
  pub decides : over_lane reader lane [] ≡ Some (decision, reads)
  pub is : IsArrivalBy w regs reads came decision

-- what the kernel decides of a lane with these registers
abbrev pub IsArrival : Watch → List ℕ → List ℕ → Arrival → Type 0
IsArrival w regs lane came = IsArrivalFrom w regs lane (decision_of w.boot w.kernel regs (call_of (reg regs 0))) came

-- ---- calls as data

-- what a call comes back with, by how far it has come
abbrev pub input_at : Phase → Given → Option BackInput
input_at phase.Runs given = None
input_at _ given = Some (input_of given)

-- that was cancelled or not, and is given this
abbrev pub back_as : Cont (List ℕ) → Bool → Given → Back
back_as cont marked given = record {
  seen = if marked && not cont.cancelled then Some cont.steps else None;
  input = input_at cont.phase given;
}

-- the call that these registers name comes back with this, if it is given that
abbrev pub IsBackIn : Parts → List ℕ → Given → Back → Type 0
IsBackIn parts regs given back = (cont : Box (Cont (List ℕ))) (beside : Cancellation) →
    IsHandedOut parts.slots regs cont → slice_get parts.cancellations.items (thread_in regs) ≡ Some beside →
    back ≡ back_as cont.value beside.marked given

-- whether there are pages for its instance, where that is asked
abbrev pub IsRoomIn : Parts → Realm → List ℕ → Option Bool → Type 0
IsRoomIn parts realm regs room = (cont : Box (Cont (List ℕ))) → IsHandedOut parts.slots regs cont →
    room ≡ room_as realm (booted_of_setup parts.setup) (tables_of parts.tables) cont.value
