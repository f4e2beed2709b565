-- What holds of a play's history by one law for those who share an instance: one session, or all sessions of an application.
-- This project's own.
use Rattle.std.specs.Prelude.{◌≡◌, ℕ, List, ◌++◌, Some, IsSome}
use Rattle.base.specs.NumberMap.{get}
use Rattle.event_journal.specs.declared.event.Event.{Event}
use Rattle.group_model.specs.Group.{group_machine_replies}
use Rattle.group_model.specs.OneLaw.{HasRealm, IsIn, IsRealmOf, Realm, realm_events, realm_replies}
use Rattle.kernel_model.specs.Application.{Application, Booted}
use Rattle.kernel_model.specs.History.{IsLegal, kernel_after}
use Rattle.kernel_model.specs.Kernel.{Kernel}
use Rattle.own_model.specs.Isolation.{steps_in}

-- after the first events of a history a session is in a realm, and it is in the same one after all
pub record KeepsRealm (boot : Booted) (before history : List Event) (session : ℕ) : Type 0 where
  pub app : Application
  pub first : HasRealm boot before session app
  pub is : IsRealmOf boot history first.realm app
  pub has : IsIn boot history session first.realm app

pub record RealmsIn (boot : Booted) (history : List Event) : Type 0 where
  -- each realm was answered as the machine of a group which has what happened to the realm alone
  pub answered : (realm : Realm) (app : Application) → IsRealmOf boot history realm app →
      group_machine_replies (steps_in history) app boot.key (realm_events boot history realm app)
      ≡ Some (realm_replies boot history realm app)
  -- that is said of each session which the kernel keeps at any place of the history, whatever became of its instance: it is in a
  -- realm from there on
  pub known : (before behind : List Event) (kernel : Kernel) (session : ℕ) →
      history ≡ before ++ behind → kernel_after boot before ≡ Some kernel → IsSome (get kernel.tables.sessions session) →
      KeepsRealm boot before history session

-- so it is of each legal history, and with that of each play's
abbrev pub HistoriesHaveRealms : Type 0
HistoriesHaveRealms = (boot : Booted) (history : List Event) → IsLegal boot history → RealmsIn boot history
