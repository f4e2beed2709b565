-- One law: whatever else happens in a legal history, those who share an instance are answered as the machine of a group which
-- has what happened to them alone. They are the sessions of an application that share one, or one session of an application
-- whose sessions share none. This project's own.
use Rattle.std.specs.Prelude.{◌≡◌, ◌++◌, ℕ, List, [], ◌∷◌, Option, Some, IsSome, filter_map}
use Rattle.std.specs.Option.{option_and_then}
use Rattle.base.specs.NumberMap.{get}
use Rattle.event_journal.specs.declared.event.Event.{Event}
use Rattle.kernel_model.specs.Application.{Application, Booted}
use Rattle.kernel_model.specs.History.{IsLegal, kernel_after}
use Rattle.kernel_model.specs.Instances.{app_of}
use Rattle.kernel_model.specs.Kernel.{Instance, Kernel, PendingCall, Tables}
use Rattle.session_table.specs.declared.session.Session.{Session}
use Rattle.own_model.specs.Isolation.{BringsCall, HasPendingOpen, IsSessionOf, steps_in}
use Rattle.own_model.specs.Own.{own_events, own_replies}
use Rattle.own_model.specs.Own as own
use Rattle.own_model.specs.Solo.{unopened}
use Rattle.group_model.specs.Group.{group_machine_replies}
use Rattle.group_model.specs.Isolation.{IsGroupOf}
use Rattle.group_model.specs.Read.{event_of, group_events, group_replies, noted}
use Rattle.group_model.specs.declared.group_event.GroupEvent.{GroupEvent}
use Rattle.group_model.specs.declared.group_reply.GroupReply.{GroupReply}
use Rattle.group_model.specs.Embedding.{CanAllCome, event_as, replies_as}

-- ---- a session's events

-- of a session whose application's sessions share no instance: all that has happened to it could come, one after the other
abbrev pub OwnEventsCanCome : Type 0
OwnEventsCanCome = (boot : Booted) (history : List Event) (session : ℕ) (app : Application) →
    IsSessionOf boot history session app →
    CanAllCome (steps_in history) app (unopened boot.key) (own_events boot history session)

-- ---- those who share an instance

-- the session of this number, or all sessions of the application
pub data Realm : Type 0 where
  OneSession : ℕ → Realm
  AllSessions : Realm

-- they are of this application, in a legal history
abbrev pub IsRealmOf : Booted → List Event → Realm → Application → Type 0
IsRealmOf boot history (OneSession session) app = IsSessionOf boot history session app
IsRealmOf boot history AllSessions app = IsGroupOf boot history app

-- what happens to them, and what they are answered
abbrev pub realm_events : Booted → List Event → Realm → Application → List GroupEvent
realm_events boot history (OneSession session) app = filter_map event_as (own_events boot history session)
realm_events boot history AllSessions app = group_events boot history app

abbrev pub realm_replies : Booted → List Event → Realm → Application → List GroupReply
realm_replies boot history (OneSession session) app =
    replies_as (own_events boot history session) (own_replies boot history session)
realm_replies boot history AllSessions app = group_replies boot history app

-- ---- the law

abbrev pub AnsweredAsARealm : Type 0
AnsweredAsARealm = (boot : Booted) (history : List Event) (realm : Realm) (app : Application) →
    IsRealmOf boot history realm app →
    group_machine_replies (steps_in history) app boot.key (realm_events boot history realm app)
    ≡ Some (realm_replies boot history realm app)

-- so in two worlds: after any two legal histories, of any two boots that have the same key, those to whom the same has
-- happened were answered the same
abbrev pub SameRealmEventsSameReplies : Type 0
SameRealmEventsSameReplies = (boot another : Booted) (history other : List Event) (realm second : Realm) (app : Application) →
    boot.key ≡ another.key → IsRealmOf boot history realm app → IsRealmOf another other second app →
    realm_events boot history realm app ≡ realm_events another other second app →
    realm_replies boot history realm app ≡ realm_replies another other second app

-- ---- the sessions that this is about

-- the session is one of these: the one that there is, or one that has a number in the group
abbrev pub IsIn : Booted → List Event → ℕ → Realm → Application → Type 0
IsIn boot history session (OneSession number) app = session ≡ number
IsIn boot history session AllSessions app = IsSome (get (noted boot history app).sessions session)

-- a realm that the session is in
pub record HasRealm (boot : Booted) (history : List Event) (session : ℕ) (app : Application) : Type 0 where
  pub realm : Realm
  pub is : IsRealmOf boot history realm app
  pub has : IsIn boot history session realm app

-- the kernel keeps the session, on an instance of this application
pub record IsKept (boot : Booted) (kernel : Kernel) (session : ℕ) (app : Application) : Type 0 where
  pub kept : Session
  pub there : get kernel.tables.sessions session ≡ Some kept
  pub instance : Instance
  pub has : get kernel.tables.instances kept.instance ≡ Some instance
  pub of_app : app_of boot instance.uuid ≡ Some app

-- after a legal history each session that the kernel keeps is in one, and whatever comes then, it stays in that
pub record KeptSessionsHaveRealms : Type 0 where
  pub known : (boot : Booted) (history : List Event) (kernel : Kernel) (session : ℕ) (app : Application) →
      IsLegal boot history → kernel_after boot history ≡ Some kernel → IsKept boot kernel session app →
      HasRealm boot history session app
  pub stays : (boot : Booted) (history more : List Event) (session : ℕ) (realm : Realm) (app : Application) →
      IsLegal boot (history ++ more) → IsRealmOf boot history realm app → IsIn boot history session realm app →
      IsRealmOf boot (history ++ more) realm app × IsIn boot (history ++ more) session realm app

-- and so is each that the kernel keeps at all, whatever became of its instance; one whose open hasn't ended is in a realm of the
-- application that the open names
pub record EachKeptSessionHasARealm : Type 0 where
  pub each : (boot : Booted) (history : List Event) (kernel : Kernel) (session : ℕ) (kept : Session) →
      IsLegal boot history → kernel_after boot history ≡ Some kernel → get kernel.tables.sessions session ≡ Some kept →
      (app : Application) × HasRealm boot history session app
  pub opening : (boot : Booted) (history : List Event) (kernel : Kernel) (session : ℕ) (app : Application) →
      IsLegal boot history → kernel_after boot history ≡ Some kernel → HasPendingOpen boot kernel session app →
      HasRealm boot history session app

-- ---- their calls

-- the event of the realm that a new call is, if it is one, with the tables behind its entry
abbrev pub realm_event : Booted → List Event → Tables → Realm → Application → PendingCall → Option GroupEvent
realm_event boot history tables (OneSession session) app call = option_and_then event_as (own.event_of session call)
realm_event boot history tables AllSessions app call = event_of app tables (noted boot history app) call call.kind

-- each call in one of the sessions is the last of the realm's events as it comes in, the open among them
abbrev pub CallsAreInRealms : Type 0
CallsAreInRealms =
    (boot : Booted) (history : List Event) (happened : Event) (call : PendingCall) (realm : Realm) (app : Application) →
    (brings : BringsCall boot history happened call) → IsRealmOf boot (history ++ happened ∷ []) realm app →
    IsIn boot (history ++ happened ∷ []) call.session realm app →
    (came : GroupEvent) × (realm_event boot history brings.next.tables realm app call ≡ Some came)
    × (realm_events boot (history ++ happened ∷ []) realm app ≡ realm_events boot history realm app ++ came ∷ [])
