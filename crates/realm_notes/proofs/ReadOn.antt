-- What is taken of notes, and a reader that has read on.
use Rattle.std.proofs.Common.{◌≡◌, List, [], ◌++◌, Option, Some, None, ap, sym, subst, ◌∙◌}
use Rattle.std.proofs.Math.Logic.{∥∥₁_elim, ∥∥₁_map}
use Rattle.std.specs.Global.{Vec}
use Rattle.std.specs.Prelude.{Result, Ok, Err, slice_get}
use Rattle.base.specs.declared.no_memory.NoMemory.{NoMemory}
use Rattle.event_journal.specs.declared.event.Event.{Event}
use Rattle.realm_model.specs.Reading as realm
use Rattle.realm_notes.proofs.Further.{noted_on_core}
use Rattle.realm_notes.proofs.GoneOut.{log_prop}
use Rattle.realm_notes.proofs.LogsGrow.{Adds, event_adds}
use Rattle.realm_notes.specs.Noted.{AreNoted, listing}
use Rattle.realm_notes.specs.Meaning.{meaning}
use Rattle.realm_notes.specs.Reading.{IsReadingOf, Reads, boot_of, its_realm, log_of}
use Rattle.realm_notes.specs.Replaying.{IsNoted}
use Rattle.realm_notes.specs.declared.log_reader.LogReader.{LogReader}
use Rattle.realm_notes.specs.declared.notes.Notes.{Notes}
use Rattle.realm_notes.specs.Numbers.{AreNumbers}
use Rattle.realm_notes.specs.declared.numbering.Numbering.{Numbering}
use Rattle.journal_notes.specs.Meaning.{Goes, HasTaken}
use Rattle.journal_notes.specs.Reading.{Reader}
use Rattle.journal_notes.specs.Reading as reading
use Rattle.kernel_model.specs.Application.{Booted}
use Rattle.kernel_model.specs.Kernel.{Kernel}
use Rattle.kernel_state.proofs.CoreEvents.{some_kernel}
use Rattle.kernel_state.specs.Meaning.{booted_of}
use Rattle.kernel_state.specs.Meaning as core
use Rattle.realm_model.specs.Realm.{Realm}
use Rattle.realm_notes.specs.Realms.{realm_of}
use Rattle.realm_notes.specs.declared.realm.Realm.{Realm as CodeRealm}
use Rattle.kernel_state.specs.declared.kernel_core.Core.{Core}

-- ---- an event

-- notes of which the list was taken
taken_noted : (code taken : Notes) (notes : realm.Notes) (log : List realm.Logged) → AreNoted code (listing notes log)
    → taken ≡ record code { log = taken.log } → taken.log.items ≡ [] → AreNoted taken (listing notes [])
taken_noted code taken notes log are same none = record {
  uuid = ap (λ (n : Notes). n.uuid) same ∙ are.uuid;
  turned_away = λ cpu below. ap (λ (n : Notes). slice_get n.turned_away cpu) same ∙ are.turned_away cpu below;
  sessions = ap (λ (n : Notes). n.sessions.entries) same ∙ are.sessions;
  next_session = ap (λ (n : Notes). n.next_session) same ∙ are.next_session;
  numbering = subst (λ (numbers : Numbering). AreNumbers numbers notes.numbering) (sym (ap (λ (n : Notes). n.numbering) same)) are.numbering;
  log = none;
}

module _ (old new : Core) (before code taken : Notes) (event : Event) (news : List realm.Logged) (goes : Goes old new event)
    (is_noted : IsNoted old new before code event) (of_it : code.realm ≡ before.realm)
    (same : taken ≡ record code { log = taken.log }) (none : taken.log.items ≡ []) (told : news ≡ code.log.items) where
  abbrev of : Realm
  of = realm_of before.realm

  -- what is noted by what the old core has done
  abbrev noted : realm.Notes
  noted = realm.noted (booted_of old) (core.events_of old) of

  abbrev kernel : Kernel
  kernel = (some_kernel old).0

  abbrev next : Kernel
  next = (some_kernel new).0

  abbrev after : realm.Notes
  after = realm.event_noted (booted_of old) of kernel next noted event

  abbrev adds : Adds (λ log. realm.event_noted (booted_of old) of kernel next (listing noted log) event) after
  adds = event_adds noted (booted_of old) of kernel next event

  noted_now : AreNoted before (listing noted []) → AreNoted code (listing after adds.more)
  noted_now are = subst (λ (n : realm.Notes). AreNoted code n) (adds.so [])
      (is_noted kernel next (listing noted []) (some_kernel old).1 (some_kernel new).1 are)

  same_realm : taken.realm ≡ before.realm
  same_realm = ap (λ (n : Notes). n.realm) same ∙ of_it

  noted_is : realm.noted (booted_of new) (core.events_of new) (realm_of taken.realm) ≡ after
  noted_is = ap (λ (r : CodeRealm). realm.noted (booted_of new) (core.events_of new) (realm_of r)) same_realm
      ∙ noted_on_core old new event goes.boot goes.events of kernel next (some_kernel old).1 (some_kernel new).1

  grown : after.log ≡ noted.log ++ adds.more
  grown = ap (λ (n : realm.Notes). n.log) (adds.so noted.log)

  pub has_taken : HasTaken meaning old new before taken news
  has_taken = record {
    subject = same_realm;
    grown = λ (on : ∥ AreNoted before (listing noted []) ∥₁). record {
      on = ∥∥₁_map on (λ (are : AreNoted before (listing noted [])).
          subst (λ (n : realm.Notes). AreNoted taken (listing n [])) (sym noted_is) (taken_noted code taken after adds.more (noted_now are) same none));
      log = ∥∥₁_elim on (log_prop (realm.noted (booted_of new) (core.events_of new) (realm_of taken.realm)).log (noted.log ++ news))
          (λ (are : AreNoted before (listing noted [])).
          ap (λ (n : realm.Notes). n.log) noted_is ∙ grown
          ∙ ap (λ (more : List realm.Logged). noted.log ++ more) (sym (told ∙ (noted_now are).log)));
    };
  }

-- ---- a reader

-- the replay and the notes of a reader
abbrev pub reader_of : LogReader → Reader Notes
reader_of reader = record { replay = reader.replay; notes = reader.notes }

-- by the answer
pub reads_so : (old new : LogReader) (event : Event) (result : Result (Option (Vec realm.Logged)) NoMemory)
    → reading.Reads meaning (reader_of old) (reader_of new) event result → Reads old new event result
reads_so old new event (Ok (Some news)) has = record {
  boot = has.done.boot;
  events = has.done.events;
  realm = has.subject;
  reading = has.grown.on;
  log = has.grown.log;
}
reads_so old new event (Ok None) never = never
reads_so old new event (Err error) so = tt

-- ---- the events of a journal

-- where nothing was read, nothing is in the log
pub none_read : (boot : Booted) (its : CodeRealm) (reader : LogReader) → IsReadingOf boot [] its reader → log_of reader ≡ []
none_read boot its reader is = ap (λ (h : List Event). (realm.noted (boot_of reader) h (realm_of (its_realm reader))).log) is.events
