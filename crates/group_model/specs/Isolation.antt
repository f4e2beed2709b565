-- Isolation of groups: whatever else happens, the sessions of a single-instance application are answered as the machine of
-- their group, which has the group's events alone. This project's own.
use Rattle.std.specs.Prelude.{◌≡◌, ℕ, true, List, [], ◌∷◌, ◌++◌, Some, IsSome, take}
use Rattle.base.specs.NumberMap.{get}
use Rattle.event_journal.specs.declared.event.Event.{Event}
use Rattle.session_table.specs.declared.session.Session.{Session}
use Rattle.kernel_model.specs.Application.{Application, Booted, uuid_of}
use Rattle.kernel_model.specs.History.{IsLegal, kernel_after}
use Rattle.kernel_model.specs.Instances.{app_of, is_single}
use Rattle.kernel_model.specs.Kernel.{Instance, Kernel, PendingCall}
use Rattle.own_model.specs.Isolation.{BringsCall, GrowsBy, HasPendingOpen, steps_in}
use Rattle.group_model.specs.Group.{group_machine_replies}
use Rattle.group_model.specs.Read.{Logged, event_of, group_events, group_replies, noted}
use Rattle.group_model.specs.Laws.{events_in, replies_in}

-- a legal history of a boot that has this application, whose sessions share one instance
pub record IsGroupOf (boot : Booted) (history : List Event) (app : Application) : Type 0 where
  pub legal : IsLegal boot history
  pub has : app_of boot (uuid_of app) ≡ Some app
  pub shares : is_single app ≡ true

-- its sessions are answered as their machine answers to their events
abbrev pub AnsweredAsAGroup : Type 0
AnsweredAsAGroup = (boot : Booted) (history : List Event) (app : Application) → IsGroupOf boot history app →
    group_machine_replies (steps_in history) app boot.key (group_events boot history app)
    ≡ Some (group_replies boot history app)

-- the kernel keeps the session, on an instance of this application, whose sessions share one
pub record IsKeptTogether (boot : Booted) (kernel : Kernel) (session : ℕ) (app : Application) : Type 0 where
  pub kept : Session
  pub there : get kernel.tables.sessions session ≡ Some kept
  pub instance : Instance
  pub has : get kernel.tables.instances kept.instance ≡ Some instance
  pub of_app : app_of boot instance.uuid ≡ Some app
  pub shares : is_single app ≡ true

-- after each history that the kernel can have, each such session is one of the group's: it has its number there. And whatever
-- comes then, it keeps that number
pub record KeptSessionsAreOfTheGroup : Type 0 where
  pub known : (boot : Booted) (history : List Event) (kernel : Kernel) (session : ℕ) (app : Application) →
      kernel_after boot history ≡ Some kernel → IsKeptTogether boot kernel session app →
      IsSome (get (noted boot history app).sessions session)
  pub stays : (boot : Booted) (history more : List Event) (session number : ℕ) (app : Application) →
      IsGroupOf boot (history ++ more) app → get (noted boot history app).sessions session ≡ Some number →
      get (noted boot (history ++ more) app).sessions session ≡ Some number

-- so is each session whose open hasn't ended, of the application that the open names: also while it waits for an instance that is
-- gone by now
abbrev pub PendingOpensAreOfTheGroup : Type 0
PendingOpensAreOfTheGroup = (boot : Booted) (history : List Event) (kernel : Kernel) (session : ℕ) (app : Application) →
    kernel_after boot history ≡ Some kernel → HasPendingOpen boot kernel session app → is_single app ≡ true →
    IsSome (get (noted boot history app).sessions session)

-- each call of one of the group's sessions is the last event in the group's log as it comes in, the open among them
abbrev pub CallsAreInTheLog : Type 0
CallsAreInTheLog = (boot : Booted) (history : List Event) (happened : Event) (call : PendingCall) (app : Application) →
    (brings : BringsCall boot history happened call) → IsGroupOf boot (history ++ happened ∷ []) app →
    IsSome (get (noted boot (history ++ happened ∷ []) app).sessions call.session) →
    GrowsBy (noted boot history app).log (noted boot (history ++ happened ∷ []) app).log
    (event_of app brings.next.tables (noted boot history app) call call.kind)

-- so in two worlds: after any two legal histories, of any two boots that have the same key, the group of one application
-- to which the same has happened was answered the same
abbrev pub SameGroupEventsSameReplies : Type 0
SameGroupEventsSameReplies = (boot another : Booted) (history other : List Event) (app : Application) →
    boot.key ≡ another.key → IsGroupOf boot history app → IsGroupOf another other app →
    group_events boot history app ≡ group_events another other app →
    group_replies boot history app ≡ group_replies another other app

-- the first entries of what is noted of a group: its events with their replies
abbrev pub first_entries : Booted → List Event → Application → ℕ → List Logged
first_entries boot history app count = take count (noted boot history app).log

-- and wherever the same has happened to it, not only in the end: it was answered the same so far
abbrev pub SameGroupBeginningsSameReplies : Type 0
SameGroupBeginningsSameReplies =
    (boot another : Booted) (history other : List Event) (count : ℕ) (app : Application) →
    boot.key ≡ another.key → IsGroupOf boot history app → IsGroupOf another other app →
    events_in (first_entries boot history app count) ≡ events_in (first_entries another other app count) →
    replies_in (first_entries boot history app count) ≡ replies_in (first_entries another other app count)
