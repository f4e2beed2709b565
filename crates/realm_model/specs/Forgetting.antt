-- One reader for both: what is noted of a session is what is noted of its realm with the numbers of sessions forgotten, and
-- what is noted of a group is what is noted of its realm. This project's own.
use Rattle.std.specs.Prelude.{◌≡◌, ℕ, Bool, List, Option, Some, None, filter_map}
use Rattle.std.specs.Option.{option_map}
use Rattle.event_journal.specs.declared.event.Event.{Event}
use Rattle.kernel_model.specs.Application.{Application, Booted}
use Rattle.own_model.specs.Own as own
use Rattle.own_model.specs.declared.own_event.OwnEvent.{OwnEvent}
use Rattle.own_model.specs.declared.own_event.OwnEvent.TheVariants as own_event
use Rattle.own_model.specs.declared.own_event.OwnInput.{OwnInput}
use Rattle.own_model.specs.declared.own_event.OwnInput.TheVariants.{Copied, Faulty, Unread}
use Rattle.ta_params.specs.declared.login.Login.{Login}
use Rattle.group_model.specs.Embedding.{event_as}
use Rattle.group_model.specs.Read as group
use Rattle.group_model.specs.declared.group_event.GroupEvent.{GroupEvent}
use Rattle.group_model.specs.declared.group_event.GroupEvent.TheVariants.{Open, Invoke, Close, Cancel, Seen, Room, Back}
use Rattle.group_model.specs.declared.group_event.GroupEvent.TheVariants.{Out}
use Rattle.group_model.specs.declared.group_reply.GroupReply.{GroupReply}
use Rattle.realm_model.specs.Realm.{AllSessions, OneSession}
use Rattle.realm_model.specs.Reading.{Logged, Notes, happened, noted, of_machine}
use Rattle.realm_model.specs.declared.realm_event.RealmEvent.{RealmEvent}
use Rattle.realm_model.specs.declared.realm_event.RealmEvent.TheVariants.{Comes, TurnedAway}
use Rattle.realm_model.specs.Reading.{realm_events, realm_replies}

-- ---- a session's

-- its open's parameters were always copied
abbrev pub open_forgotten : OwnInput → Login → Bool → Option OwnEvent
open_forgotten (Copied params) login area = Some (own_event.Open params login area)
open_forgotten Faulty login area = None
open_forgotten Unread login area = None

-- an event with the number of its session forgotten; whether there are pages is asked of no session
abbrev pub forgotten : GroupEvent → Option OwnEvent
forgotten (Open input login limited area) = open_forgotten input login area
forgotten (Invoke session func input area) = Some (own_event.Invoke func input area)
forgotten (Close session area) = Some (own_event.Close area)
forgotten (Cancel session) = Some own_event.Cancel
forgotten (Seen call steps) = Some (own_event.Seen call steps)
forgotten (Room call enough) = None
forgotten (Back call input) = Some (own_event.Back call input)
forgotten (Out call) = Some (own_event.Out call)

abbrev pub own_event_of : RealmEvent → Option OwnEvent
own_event_of (Comes came) = forgotten came
own_event_of TurnedAway = Some own_event.Limited

-- with its reply
abbrev pub own_logged : Logged → Option own.Logged
own_logged logged =
    option_map (λ came. (came, option_map (λ (told : GroupReply). told.reply) logged.1)) (own_event_of logged.0)

-- what is noted of a session
abbrev pub own_part : Notes → own.Notes
own_part notes = record {
  uuid = notes.uuid;
  numbering = notes.numbering;
  turned_away = notes.turned_away;
  log = filter_map own_logged notes.log;
}

-- ---- a group's

abbrev pub group_part : Notes → group.Notes
group_part notes = record {
  sessions = notes.sessions;
  next_session = notes.next_session;
  numbering = notes.numbering;
  log = filter_map of_machine notes.log;
}

-- ---- the laws, of every history and every boot

-- a session is a realm with the numbers of sessions forgotten
pub record SessionsAreRealms : Type 0 where
  pub noted_so : (boot : Booted) (history : List Event) (session : ℕ) →
      own.noted boot history session ≡ own_part (noted boot history (OneSession session))
  -- so its events are the realm's with its number forgotten
  pub events : (boot : Booted) (history : List Event) (session : ℕ) →
      own.own_events boot history session ≡ filter_map own_event_of (happened boot history (OneSession session))

-- and a group is a realm
pub record GroupsAreRealms : Type 0 where
  pub noted_so : (boot : Booted) (history : List Event) (app : Application) →
      group.noted boot history app ≡ group_part (noted boot history (AllSessions app))
  pub events : (boot : Booted) (history : List Event) (app : Application) →
      group.group_events boot history app ≡ realm_events boot history (AllSessions app)
  pub replies : (boot : Booted) (history : List Event) (app : Application) →
      group.group_replies boot history app ≡ realm_replies boot history (AllSessions app)

-- and told as events of a group, where the one session has number 0, the events of a session are its realm's
abbrev pub SessionEventsAreRealms : Type 0
SessionEventsAreRealms = (boot : Booted) (history : List Event) (session : ℕ) →
    filter_map event_as (own.own_events boot history session) ≡ realm_events boot history (OneSession session)
