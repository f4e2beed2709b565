-- Isolation of realms: whatever else happens in a legal history, the machine of a realm, which has the realm's events alone,
-- answers as the realm was answered. This project's own.
use Rattle.std.specs.Prelude.{◌≡◌, ℕ, ◌*◌, ◌≤◌, ◌++◌, IsSome, List, [], ◌∷◌, Some, filter_map, map, slice_get, take}
use Rattle.base.specs.NumberMap.{get}
use Rattle.event_journal.specs.declared.event.Event.{Event}
use Rattle.event_journal.specs.declared.event.Event.TheVariants.{Entry}
use Rattle.ns_ram.specs.declared.read.Read.{Read}
use Rattle.smc_abi.specs.declared.regs.Regs.{Regs}
use Rattle.kernel_model.specs.Application.{Application, Booted}
use Rattle.kernel_model.specs.Argument.{IsNew}
use Rattle.kernel_model.specs.History.{IsLegal, kernel_after}
use Rattle.kernel_model.specs.Kernel.{Active, Asks, CallPhase, Ends, InSlot, Inside, Kernel, PendingCall, Runs, Waits}
use Rattle.kernel_model.specs.Sound.{AreGranted}
use Rattle.own_model.specs.Isolation.{IsSessionOf, steps_in}
use Rattle.group_model.specs.Group.{Answered, Group, GroupCall, group_machine_replies, nobody_there, step}
use Rattle.group_model.specs.InOrder.{IsInOrder}
use Rattle.group_model.specs.Isolation.{IsGroupOf}
use Rattle.group_model.specs.Laws.{IsSound}
use Rattle.group_model.specs.OneLaw.{IsKept}
use Rattle.group_model.specs.declared.group_event.GroupEvent.{GroupEvent}
use Rattle.group_model.specs.declared.group_event.GroupEvent.TheVariants.{Open, Invoke, Close, Cancel, Seen, Room, Back, Out}
use Rattle.group_model.specs.declared.group_reply.GroupReply.{GroupReply}
use Rattle.realm_model.specs.Realm.{AllSessions, OneSession, Realm}
use Rattle.realm_model.specs.Reading.{Logged, Notes, event_of, noted, number_of, realm_events, realm_replies}
use Rattle.realm_model.specs.declared.realm_event.RealmEvent.{RealmEvent}
use Rattle.realm_model.specs.Laws.{About, AreFitting, ComesAs, GoesAlongWith, IsRealm}

-- ---- each event

-- what is known of a kernel that a legal history has come to, and of the machine then, after so many events
pub record IsReady (about : About) (events : ℕ) (kernel : Kernel) (g : Group) : Type 0 where
  pub sound : IsSound kernel
  pub fitting : AreFitting about.members kernel
  pub steps : AreGranted events kernel
  pub most : 1000000 * events ≤ about.most
  pub order : IsInOrder g

-- a new call of the realm that comes in with the event comes as one of it does
abbrev pub ComesSo : About → Kernel → Event → Notes → Type 0
ComesSo about next happened notes =
    (cpu steps slot : ℕ) (regs : Regs) (reads : List Read) (now : PendingCall) (came : GroupEvent) →
    happened ≡ Entry cpu regs steps reads → IsNew regs.a →
    slice_get next.processors cpu ≡ Some (Inside regs.a steps (InSlot slot)) →
    slice_get next.slots slot ≡ Some (Active cpu now) →
    event_of about.members.realm next.tables notes now now.kind ≡ Some came →
    ComesAs about.members.realm about.members.app notes now now.kind

-- the machine goes along with each event
abbrev pub EventsKeepTied : Type 0
EventsKeepTied = (boot : Booted) (about : About) (events : ℕ) (kernel next : Kernel) (happened : Event) (notes : Notes)
    (g : Group) → IsRealm boot about.members → about.key ≡ boot.key → IsReady about events kernel g →
    ComesSo about next happened notes → GoesAlongWith boot about kernel next happened notes g

-- ---- whole histories

-- the realm is of this application, in a legal history
abbrev pub IsRealmOf : Booted → List Event → Realm → Application → Type 0
IsRealmOf boot history (OneSession member) app = IsSessionOf boot history member app
IsRealmOf boot history (AllSessions of) app = (of ≡ app) × IsGroupOf boot history app

-- it is answered as its machine answers to its events
abbrev pub AnsweredAsARealm : Type 0
AnsweredAsARealm = (boot : Booted) (history : List Event) (realm : Realm) (app : Application) →
    IsRealmOf boot history realm app →
    group_machine_replies (steps_in history) app boot.key (realm_events boot history realm)
    ≡ Some (realm_replies boot history realm)

-- ---- what its machine has room for

-- a call whose job runs has done no more steps
abbrev pub DidAtMost : ℕ → ℕ → CallPhase → Type 0
DidAtMost most done_by_now (Runs job) = done_by_now ≤ most
DidAtMost most done_by_now (Asks job wanted payload) = Unit {0}
DidAtMost most done_by_now (Waits params) = Unit {0}
DidAtMost most done_by_now (Ends result params told wakes) = Unit {0}

-- a call that comes in finds that no more have come, and one that goes out has done no more steps
abbrev pub IsWithin : (calls most : ℕ) → Group → GroupEvent → Type 0
IsWithin calls most g (Open input login limited area) = g.entered ≤ calls
IsWithin calls most g (Invoke session func input area) = g.entered ≤ calls
IsWithin calls most g (Close session area) = g.entered ≤ calls
IsWithin calls most g (Cancel session) = g.entered ≤ calls
IsWithin calls most g (Seen number done_by_now) = Unit {0}
IsWithin calls most g (Room number enough) = Unit {0}
IsWithin calls most g (Back number input) = Unit {0}
IsWithin calls most g (Out number) =
    (call : GroupCall) → get g.calls number ≡ Some call → DidAtMost most call.steps call.phase

-- each of these events, when those before it have come
abbrev pub AllWithin : (calls most : ℕ) → Application → Group → List GroupEvent → Type 0
AllWithin calls most app g [] = Unit {0}
AllWithin calls most app g (came ∷ events) =
    IsWithin calls most g came
    × ((answered : Answered) → step most app g came ≡ Some answered → AllWithin calls most app answered.0 events)

-- so its machine has taken no more calls than were noted in the end, at each event, and a call of it that goes out, and runs
-- then, has done no more than a million steps for each event of the history
abbrev pub RealmsStayWithin : Type 0
RealmsStayWithin = (boot : Booted) (history : List Event) (realm : Realm) (app : Application) →
    IsRealmOf boot history realm app →
    AllWithin (noted boot history realm).numbering.entered (steps_in history) app (nobody_there boot.key)
    (realm_events boot history realm)

-- ---- two worlds

-- so in two worlds: after any two legal histories, of any two boots that have the same key, realms of one application to which
-- the same has happened were answered the same
abbrev pub SameRealmEventsSameReplies : Type 0
SameRealmEventsSameReplies = (boot another : Booted) (history other : List Event) (realm second : Realm) (app : Application) →
    boot.key ≡ another.key → IsRealmOf boot history realm app → IsRealmOf another other second app →
    realm_events boot history realm ≡ realm_events another other second →
    realm_replies boot history realm ≡ realm_replies another other second

-- what happened first to a realm, and what it was answered to that: by the first entries of what is noted of it
abbrev pub first_happened : Booted → List Event → Realm → ℕ → List RealmEvent
first_happened boot history realm count = map (λ (logged : Logged). logged.0) (take count (noted boot history realm).log)

abbrev pub first_answered : Booted → List Event → Realm → ℕ → List GroupReply
first_answered boot history realm count =
    filter_map (λ (logged : Logged). logged.1) (take count (noted boot history realm).log)

-- and wherever the same has happened to them, not only in the end: they were answered the same so far
abbrev pub SameRealmBeginningsSameReplies : Type 0
SameRealmBeginningsSameReplies =
    (boot another : Booted) (history other : List Event) (realm second : Realm) (count : ℕ) (app : Application) →
    boot.key ≡ another.key → IsRealmOf boot history realm app → IsRealmOf another other second app →
    first_happened boot history realm count ≡ first_happened another other second count →
    first_answered boot history realm count ≡ first_answered another other second count

-- ---- the sessions that this is about

-- the session is a member of the realm, which has a number for it
abbrev pub IsMember : Booted → List Event → Realm → ℕ → Type 0
IsMember boot history realm session = IsSome (number_of realm (noted boot history realm) session)

-- a realm of this application that the session is a member of
pub record HasRealm (boot : Booted) (history : List Event) (session : ℕ) (app : Application) : Type 0 where
  pub realm : Realm
  pub is : IsRealmOf boot history realm app
  pub member : IsMember boot history realm session

-- after a legal history each session that the kernel keeps on its instance is a member of one, and whatever comes then, it
-- keeps its number there
pub record KeptSessionsHaveRealms : Type 0 where
  pub known : (boot : Booted) (history : List Event) (kernel : Kernel) (session : ℕ) (app : Application) →
      IsLegal boot history → kernel_after boot history ≡ Some kernel → IsKept boot kernel session app →
      HasRealm boot history session app
  pub stays : (boot : Booted) (history more : List Event) (session number : ℕ) (realm : Realm) (app : Application) →
      IsLegal boot (history ++ more) → IsRealmOf boot history realm app →
      number_of realm (noted boot history realm) session ≡ Some number →
      IsRealmOf boot (history ++ more) realm app
      × (number_of realm (noted boot (history ++ more) realm) session ≡ Some number)
