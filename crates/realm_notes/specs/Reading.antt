-- How far a reader has read the log of a realm off a journal.
use Rattle.std.specs.Prelude.{◌≡◌, ℕ, List, [], ◌∷◌, ◌++◌, Option, None, Some, Result, Ok, Err}
use Rattle.std.specs.Global.{Vec}
use Rattle.std.specs.Option.{option_and_then}
use Rattle.audit_model.specs.Verdicts.{IsFaultless}
use Rattle.base.specs.declared.no_memory.NoMemory.{NoMemory}
use Rattle.event_journal.specs.declared.event.Event.{Event}
use Rattle.journal_notes.specs.Replaying as replay
use Rattle.kernel_model.specs.Application.{Application, Booted}
use Rattle.kernel_model.specs.Instances.{app_of}
use Rattle.kernel_state.specs.Setup.{application_of}
use Rattle.kernel_state.specs.declared.setup.Application.{Application as CodeApp}
use Rattle.realm_model.specs.Reading as realm
use Rattle.realm_model.specs.Reading.{noted}
use Rattle.realm_model.specs.Realm.{AllSessions, OneSession, Realm}
use Rattle.realm_notes.specs.Noted.{AreNoted, listing}
use Rattle.realm_notes.specs.Realms.{realm_of}
use Rattle.realm_notes.specs.declared.log_reader.LogReader.{LogReader}
use Rattle.realm_notes.specs.declared.realm.Realm.{Realm as CodeRealm}
use Rattle.realm_notes.specs.declared.realm.Realm.TheVariants as code

-- what the journal's core was booted with, and the events that were read
abbrev pub boot_of : LogReader → Booted
boot_of reader = replay.boot_of reader.replay

abbrev pub events_of : LogReader → List Event
events_of reader = replay.done_by reader.replay

-- whose log it is
abbrev pub its_realm : LogReader → CodeRealm
its_realm reader = reader.notes.realm

-- what is noted of the realm by these
abbrev pub noted_by : LogReader → realm.Notes
noted_by reader = noted (boot_of reader) (events_of reader) (realm_of (its_realm reader))

abbrev pub log_of : LogReader → List realm.Logged
log_of reader = (noted_by reader).log

-- that stands in the reader, but for the log, which was told event by event: a bare fact, as the one that a core keeps
abbrev pub IsReading : LogReader → Type 0
IsReading reader = ∥ AreNoted reader.notes (listing (noted_by reader) []) ∥₁

-- it has read these events of the journal of a core of this boot
pub record IsReadingOf (boot : Booted) (history : List Event) (of : CodeRealm) (reader : LogReader) : Type 0 where
  pub booted : boot_of reader ≡ boot
  pub events : events_of reader ≡ history
  pub of_realm : its_realm reader ≡ of
  pub reading : IsReading reader

-- ---- the application

-- of one session, once its open has come in; all sessions have theirs from the boot on
abbrev pub app_by : Realm → Booted → realm.Notes → Option Application
app_by (OneSession member) boot notes = option_and_then (app_of boot) notes.uuid
app_by (AllSessions app) boot notes = Some app

-- it reads the log of all sessions of this UUID's application, off a journal of which nothing is read so far; or there is no such
-- application
pub record IsReaderOf (boot : Booted) (uuid : List ℕ) (reader : LogReader) : Type 0 where
  pub app : CodeApp
  pub there : app_of boot uuid ≡ Some (application_of app)
  pub reads : IsReadingOf boot [] (code.AllSessions app) reader

abbrev pub IsReader : Booted → List ℕ → Option LogReader → Type 0
IsReader boot uuid None = app_of boot uuid ≡ None
IsReader boot uuid (Some reader) = IsReaderOf boot uuid reader

-- ---- an event

-- the event was read behind the others, and this is what it adds to the log
pub record HasRead (old new : LogReader) (event : Event) (news : List realm.Logged) : Type 0 where
  pub boot : boot_of new ≡ boot_of old
  pub events : events_of new ≡ events_of old ++ event ∷ []
  pub realm : its_realm new ≡ its_realm old
  pub reading : IsReading new
  pub log : log_of new ≡ log_of old ++ news

-- by the answer: the event was read; no legal and steady history goes on with it; or memory was wanting
abbrev pub Reads : LogReader → LogReader → Event → Result (Option (Vec realm.Logged)) NoMemory → Type 0
Reads old new event (Ok (Some news)) = HasRead old new event news.items
Reads old new event (Ok None) = IsFaultless (boot_of old) (events_of old ++ event ∷ []) → ⊥
Reads old new event (Err error) = Unit {0}
