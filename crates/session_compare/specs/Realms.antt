-- How far the log of a realm was read, and what is shown of it.
use Rattle.std.specs.Prelude.{ℕ, Bool, true, false, if◌then◌else◌, List, Option}
use Rattle.std.specs.Option.{option_and_then}
use Rattle.compare_model.specs.Comparing.{Shown, if_shared, unless_shared}
use Rattle.event_journal.specs.declared.event.Event.{Event}
use Rattle.group_model.specs.declared.group_reply.GroupReply.{GroupReply}
use Rattle.journal_notes.specs.Logs.{replies_in}
use Rattle.kernel_model.specs.Application.{Application, Booted}
use Rattle.kernel_model.specs.Instances.{is_single}
use Rattle.realm_model.specs.Reading.{happened, noted}
use Rattle.realm_model.specs.Realm.{AllSessions, OneSession, Realm}
use Rattle.realm_model.specs.declared.realm_event.RealmEvent.{RealmEvent}
use Rattle.realm_notes.specs.Reading.{IsReading, app_by, boot_of, events_of, its_realm, log_of}
use Rattle.realm_notes.specs.Realms.{realm_of}
use Rattle.realm_notes.specs.declared.log_reader.LogReader.{LogReader}
use Rattle.realm_notes.specs.declared.realm.Realm.{Realm as CodeRealm}
use Rattle.session_compare.specs.Reading.{SoFar}

abbrev pub read_so_far : LogReader → SoFar CodeRealm RealmEvent GroupReply
read_so_far reader = record {
  boot = boot_of reader;
  events = events_of reader;
  whose = its_realm reader;
  log = log_of reader;
  fits = IsReading reader;
}

abbrev pub is_of_one : Realm → Bool
is_of_one (OneSession member) = true
is_of_one (AllSessions app) = false

-- the application, where one session is compared whose instance is its own, or all sessions that share one
abbrev pub if_compared : Bool → Application → Option Application
if_compared one = if one then unless_shared else if_shared

-- of a realm
abbrev pub shown_by : Booted → List Event → Realm → Shown RealmEvent GroupReply
shown_by boot events realm = record {
  app = option_and_then (if_compared (is_of_one realm)) (app_by realm boot (noted boot events realm));
  events = happened boot events realm;
  replies = replies_in (noted boot events realm).log;
}

abbrev pub shown_of : Booted → List Event → CodeRealm → Shown RealmEvent GroupReply
shown_of boot events realm = shown_by boot events (realm_of realm)

-- in which journal, 1 or 2, all sessions are the first not to be there, where the second has no application of their UUID
abbrev pub absent_by : Realm → ℕ
absent_by (OneSession member) = 1
absent_by (AllSessions app) = if is_single app then 2 else 1
