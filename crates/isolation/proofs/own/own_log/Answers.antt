use Rattle.std.proofs.Common.{◌≤◌, ◌^◌, List, ap, sym, subst, ◌∙◌}
use Rattle.std.specs.Prelude.{filter_map}
use Rattle.audit_model.specs.Verdicts.{CanBegin}
use Rattle.event_journal.specs.Journal.{copied_bytes}
use Rattle.event_journal.specs.declared.event.Event.{Event}
use Rattle.isolation.proofs.SessionLogs.{app_read, log_so}
use Rattle.kernel_model.specs.Application.{Booted, booted}
use Rattle.native_tas.specs.Table.{entries}
use Rattle.realm_model.specs.Forgetting.{own_logged}
use Rattle.realm_model.specs.Reading.{noted}
use Rattle.realm_notes.proofs.Boots.{apart_booted, within_limits}
use Rattle.realm_notes.proofs.Journals.{journal_can_begin}
use Rattle.realm_notes.specs.Reading.{its_realm}
use Rattle.realm_notes.specs.Realms.{realm_of}
use Rattle.realm_notes.specs.declared.realm.Realm.{Realm as CodeRealm}
use Rattle.isolation.proofs.own.own_log.Goals as goal

pub of_session-requires-clause-limits : goal.of_session-requires-clause-limits
of_session-requires-clause-limits g c = within_limits c.args.boot.now (entries c.args.natives.now) c.requires.legal.boots

pub of_session-requires-clause-apart : goal.of_session-requires-clause-apart
of_session-requires-clause-apart g c = apart_booted c.args.boot.now (entries c.args.natives.now) c.requires.legal.boots

pub reads_all-requires-clause-can : goal.reads_all-requires-clause-can
reads_all-requires-clause-can g c =
    subst (λ (b : Booted). CanBegin b c.as_slice.result.now) (sym c.in_ok-reader.ensures.booted)
    (subst (CanBegin (booted c.args.boot.now (entries c.args.natives.now))) (sym c.as_slice.ensures) (journal_can_begin _ _ c.requires))

pub reads_all-requires-clause-few : goal.reads_all-requires-clause-few
reads_all-requires-clause-few g c = subst (λ (events : List Event). copied_bytes events ≤ 2 ^ 28) (sym c.as_slice.ensures) c.requires.few

pub reads_all-requires-clause-nothing : goal.reads_all-requires-clause-nothing
reads_all-requires-clause-nothing g c = c.in_ok-reader.ensures.events

pub reads_all-requires-clause-reading : goal.reads_all-requires-clause-reading
reads_all-requires-clause-reading g c = c.in_ok-reader.ensures.reading

pub returns : goal.returns
returns g c =
    let boot = booted c.args.boot.now (entries c.args.natives.now) in
    let history = c.args.journal.now.events in
    let made = c.in_ok-reader.ensures in
    let read = c.in_ok-log.ensures.reading in
    let its = its_realm c.in_ok-reader.reader in
    record {
      app = sym (app_read boot history c.args.session c.reads_all.new.self (record {
        booted = read.booted ∙ made.booted;
        events = read.events ∙ c.as_slice.ensures;
        of_realm = read.of_realm ∙ made.of_realm;
        reading = read.reading;
      })) ∙ c.in_ok-app.ensures;
      entries = c.in_ok-entries.ensures
          ∙ ap (filter_map own_logged) (c.in_ok-log.ensures.log
          ∙ ap (λ (b : Booted). (noted b c.as_slice.result.now (realm_of its)).log) made.booted
          ∙ ap (λ (h : List Event). (noted boot h (realm_of its)).log) c.as_slice.ensures
          ∙ ap (λ (r : CodeRealm). (noted boot history (realm_of r)).log) made.of_realm)
          ∙ sym (log_so boot c.args.session history);
    }
