-- The log of a realm, as one of those that are read off two journals.
use Rattle.std.proofs.Common.{◌≡◌, ℕ, List, [], Option, None, Some, refl, subst}
use Rattle.std.specs.Global.{Vec}
use Rattle.std.specs.Prelude.{Result, Ok, Err}
use Rattle.audit.proofs.Next.{replays_are_faultless}
use Rattle.base.specs.declared.no_memory.NoMemory.{NoMemory}
use Rattle.event_journal.specs.declared.event.Event.{Event}
use Rattle.kernel_model.specs.Application.{Booted}
use Rattle.kernel_model.specs.Instances.{app_of}
use Rattle.realm_model.specs.Reading.{Logged}
use Rattle.realm_notes.proofs.ReadOn.{none_read}
use Rattle.realm_notes.specs.Reading as realm
use Rattle.realm_notes.specs.Reading.{IsReader, IsReaderOf, IsReadingOf}
use Rattle.realm_notes.specs.declared.log_reader.LogReader.{LogReader}
use Rattle.realm_notes.specs.declared.realm.Realm.{Realm as CodeRealm}
use Rattle.session_compare.specs.Reading.{IsBegun, Reads}
use Rattle.session_compare.specs.Realms.{read_so_far}

-- an event is read
pub read_so : (old new : LogReader) (event : Event) (result : Result (Option (Vec Logged)) NoMemory) → realm.Reads old new event result
    → Reads (read_so_far old) (read_so_far new) event result
read_so old new event (Ok (Some news)) has = record {
  read = record {
    boot = has.boot;
    whose = has.realm;
    events = has.events;
    fits = has.reading;
    faultless = replays_are_faultless new.replay;
  };
  log = has.log;
}
read_so old new event (Ok None) cannot = cannot
read_so old new event (Err error) is = is

-- nothing was read
pub begun_so : (boot : Booted) (its : CodeRealm) (reader : LogReader) → IsReadingOf boot [] its reader → IsBegun boot (read_so_far reader)
begun_so boot its reader is = record {
  boot = is.booted;
  unread = record {
    reading = record {
      boot = refl;
      whose = refl;
      events = is.events;
      fits = is.reading;
      faultless = replays_are_faultless reader.replay;
    };
    log = none_read boot its reader is;
  };
}

-- ---- a reader of all sessions that was made, or none

module _ (boot : Booted) (uuid : List ℕ) (made : Option LogReader) (is : IsReader boot uuid made) where
  pub no_app : made ≡ None → app_of boot uuid ≡ None
  no_app none = subst (IsReader boot uuid) none is

  pub made_so : (reader : LogReader) → made ≡ Some reader → IsReaderOf boot uuid reader
  made_so reader some = subst (IsReader boot uuid) some is
