-- What the code's notes of a realm stand for, and what is noted of a call that comes in, comes back or goes out.
use Rattle.std.specs.Prelude.{◌≡◌, ℕ, ◌+◌, ◌^◌, ◌<◌, ◌==◌, ◌&&◌, Bool, false, if◌then◌else◌, List, [], ◌∷◌, ◌++◌, Option, Some, None, slice_get}
use Rattle.std.specs.List.{list_any}
use Rattle.std.specs.Option.{option_and_then, option_map_or, option_or}
use Rattle.base.specs.NumberMap.{insert}
use Rattle.group_model.specs.declared.group_event.GroupEvent.TheVariants.{Back, Out, Room, Seen}
use Rattle.group_model.specs.declared.group_reply.GroupReply.{GroupReply}
use Rattle.job_model.specs.declared.call_kind.CallKind.{CallKind}
use Rattle.kernel_model.specs.Codes.{success}
use Rattle.kernel_model.specs.Exit.{slot_left}
use Rattle.kernel_model.specs.Kernel.{CallPhase, Runs, Asks, Waits, Ends, Free, PendingCall, Suspended}
use Rattle.kernel_model.specs.Leaving.{leaving_of}
use Rattle.kernel_state.specs.Calls.{IsCall}
use Rattle.kernel_state.specs.declared.carried.Carried.{Carried}
use Rattle.kernel_state.specs.declared.carried.Carried.TheVariants.{Nothing, Resting, Running}
use Rattle.own_model.specs.Own as own
use Rattle.own_model.specs.declared.own_event.BackInput.{BackInput}
use Rattle.own_model.specs.declared.own_reply.OwnReply.{OwnReply}
use Rattle.own_model.specs.declared.own_reply.OwnReply.TheVariants as reply
use Rattle.realm_model.specs.Reading as realm
use Rattle.realm_model.specs.Realm.{Realm}
use Rattle.realm_model.specs.declared.realm_event.RealmEvent.TheVariants.{Comes}
use Rattle.realm_notes.specs.Numbers.{AreNumbers}
use Rattle.realm_notes.specs.Realms.{is_open}
use Rattle.realm_notes.specs.declared.arriving.NewEvent.{NewEvent}
use Rattle.realm_notes.specs.declared.arriving.Resumed.{Resumed}
use Rattle.realm_notes.specs.declared.notes.Notes.{Notes}
use Rattle.rpc_cont.specs.declared.cont.Cont.{Cont}

-- ---- notes

-- the processor is among those whose call was turned away
abbrev pub is_away : List ℕ → ℕ → Bool
is_away away cpu = list_any (λ one. one == cpu) away

-- the notes are the definitions'
pub record AreNoted (code : Notes) (notes : realm.Notes) : Type 0 where
  pub uuid : code.uuid ≡ notes.uuid
  pub sessions : code.sessions.entries ≡ notes.sessions
  pub next_session : code.next_session ≡ notes.next_session
  pub numbering : AreNumbers code.numbering notes.numbering
  pub turned_away : (cpu : ℕ) → cpu < 8 → slice_get code.turned_away cpu ≡ Some (is_away notes.turned_away cpu)
  pub log : code.log.items ≡ notes.log

-- notes with another log
abbrev pub listing : realm.Notes → List realm.Logged → realm.Notes
listing notes log = record notes { log = log }

-- the next call and the next session of the realm get numbers of 32 bits, and so would those behind them
pub record HasNumbersLeft (notes : Notes) : Type 0 where
  pub calls : notes.numbering.entered + 1 < 2 ^ 32
  pub sessions : notes.next_session + 1 < 2 ^ 32

-- a processor is turned away
abbrev pub with_away : realm.Notes → ℕ → realm.Notes
with_away notes cpu = record notes { turned_away = cpu ∷ notes.turned_away }

-- ---- a call that comes in

-- an open that got this session of the kernel's gives it the realm's next number
abbrev pub with_session : realm.Notes → ℕ → realm.Notes
with_session notes session = record notes {
  sessions = insert notes.sessions session notes.next_session;
  next_session = notes.next_session + 1;
}

abbrev pub with_session_if : Bool → realm.Notes → ℕ → realm.Notes
with_session_if gets notes session = if gets then with_session notes session else notes

-- this event of the realm comes into a slot, by a call in the kernel's session of this number
abbrev pub has_entered : realm.Notes → ℕ → ℕ → NewEvent → realm.Notes
has_entered notes slot session came =
    let listed : realm.Notes = record notes { log = notes.log ++ (came.event, None) ∷ [] } in
    record (with_session_if came.gets listed session) {
      uuid = option_or came.opens notes.uuid;
      numbering = own.next_in notes.numbering slot;
    }

-- the kernel's session of the call that a processor carries
abbrev pub session_of : Carried → ℕ
session_of Nothing = 0
session_of (Resting cont) = cont.value.session
session_of (Running cont) = cont.value.session

-- ---- a call that comes back

-- it sees only now that it was cancelled, after so many steps
abbrev pub with_seen : realm.Notes → ℕ → Option ℕ → realm.Notes
with_seen notes number seen = option_map_or (λ steps. realm.with_event notes (Seen number steps)) seen notes

-- it finds its instance gone
abbrev pub with_room : realm.Notes → ℕ → Option Bool → realm.Notes
with_room notes number room = option_map_or (λ enough. realm.with_event notes (Room number enough)) room notes

-- it is given what it had gone out for
abbrev pub with_input : realm.Notes → ℕ → Option BackInput → realm.Notes
with_input notes number input = option_map_or (λ came. realm.with_event notes (Back number came)) input notes

-- the call of this number comes back: first comes what it sees, then whether its instance is gone, then what it is given
abbrev pub with_resumed : realm.Notes → ℕ → Resumed → realm.Notes
with_resumed notes number came =
    with_input (with_room (with_seen notes number came.back.seen) number came.room) number came.back.input

-- ---- a call that goes out

-- the slot was left with the call as data
pub record IsLeft (slot : ℕ) (call : PendingCall) (cont : Cont (List ℕ)) : Type 0 where
  pub left : PendingCall
  pub in_slot : slot_left call (leaving_of slot call) ≡ Suspended call.client left
  pub is : IsCall cont left

-- what is told of a call in this phase, where it goes out ended
abbrev pub ended_in : CallPhase → Option OwnReply
ended_in (Runs job) = None
ended_in (Asks job wanted payload) = None
ended_in (Waits params) = None
ended_in (Ends result params told wakes) = Some (own.ended result params)

-- the slot was left free, and this is told
pub record HasFinished (slot : ℕ) (call : PendingCall) (reply : OwnReply) : Type 0 where
  pub free : slot_left call (leaving_of slot call) ≡ Free
  pub told : ended_in call.phase ≡ Some reply

-- the log with what the call of this number goes out with, if something is told of it
abbrev pub with_told : List realm.Logged → ℕ → Option OwnReply → List realm.Logged
with_told log number None = log
with_told log number (Some told) = log ++ (Comes (Out number), Some (record { reply = told; opened = None })) ∷ []

-- the reply is that of a call which has succeeded
abbrev pub has_succeeded : OwnReply → Bool
has_succeeded (reply.Ended result origin outputs) = result == success
has_succeeded _ = false

-- an open in this session that has ended with this reply has opened it
abbrev pub opened_so : CallKind → ℕ → OwnReply → Option ℕ
opened_so call_kind session told = if is_open call_kind && has_succeeded told then Some session else None

-- so has the call that a processor carries
abbrev pub opened_by : Carried → OwnReply → Option ℕ
opened_by Nothing told = None
opened_by (Resting cont) told = opened_so cont.value.kind cont.value.session told
opened_by (Running cont) told = opened_so cont.value.kind cont.value.session told

-- the slot was left free, this is told, and the realm's number of the session that the call has opened, if it has opened one
pub record HasFinishedAs (of : Realm) (notes : realm.Notes) (slot : ℕ) (call : PendingCall) (told : GroupReply) : Type 0 where
  pub finished : HasFinished slot call told.reply
  pub opened : told.opened ≡ option_and_then (realm.number_of of notes) (opened_so call.kind call.session told.reply)
