use Rattle.std.proofs.Common.{◌≤◌, ◌^◌, List, ap, sym, subst, ◌∙◌}
use Rattle.std.specs.Prelude.{filter_map}
use Rattle.audit_model.specs.Verdicts.{CanBegin}
use Rattle.event_journal.specs.Journal.{copied_bytes}
use Rattle.event_journal.specs.declared.event.Event.{Event}
use Rattle.instance_groups.proofs.GroupLogs.{log_so}
use Rattle.instance_groups.specs.Journals.{log_by}
use Rattle.kernel_model.specs.Application.{Booted, booted}
use Rattle.kernel_state.specs.Setup.{application_of}
use Rattle.native_tas.specs.Table.{entries}
use Rattle.realm_model.specs.Reading.{noted, of_machine}
use Rattle.realm_notes.proofs.Boots.{apart_booted, within_limits}
use Rattle.realm_notes.proofs.Journals.{journal_can_begin}
use Rattle.realm_notes.specs.Reading.{app_by, boot_of, its_realm, noted_by}
use Rattle.realm_notes.specs.Realms.{realm_of}
use Rattle.realm_notes.specs.declared.realm.Realm.{Realm as CodeRealm}
use Rattle.instance_groups.proofs.group.read_group_log.Goals as goal

pub of_sessions-requires-clause-limits : goal.of_sessions-requires-clause-limits
of_sessions-requires-clause-limits g c = within_limits c.args.boot.now (entries c.args.natives.now) c.requires.legal.boots

pub of_sessions-requires-clause-apart : goal.of_sessions-requires-clause-apart
of_sessions-requires-clause-apart g c = apart_booted c.args.boot.now (entries c.args.natives.now) c.requires.legal.boots

pub reads_all-requires-clause-can : goal.reads_all-requires-clause-can
reads_all-requires-clause-can g c =
    let has = rw c.in-Some.is at c.in_ok-made.ensures in
    subst (λ (b : Booted). CanBegin b c.as_slice.result.now) (sym has.reads.booted)
    (subst (CanBegin (booted c.args.boot.now (entries c.args.natives.now))) (sym c.as_slice.ensures) (journal_can_begin _ _ c.requires))

pub reads_all-requires-clause-few : goal.reads_all-requires-clause-few
reads_all-requires-clause-few g c = subst (λ (events : List Event). copied_bytes events ≤ 2 ^ 28) (sym c.as_slice.ensures) c.requires.few

pub reads_all-requires-clause-nothing : goal.reads_all-requires-clause-nothing
reads_all-requires-clause-nothing g c = (rw c.in-Some.is at c.in_ok-made.ensures).reads.events

pub reads_all-requires-clause-reading : goal.reads_all-requires-clause-reading
reads_all-requires-clause-reading g c = (rw c.in-Some.is at c.in_ok-made.ensures).reads.reading

pub returns-in_ok-entries-in-Some : goal.returns-in_ok-entries-in-Some
returns-in_ok-entries-in-Some g c =
    let boot = booted c.args.boot.now (entries c.args.natives.now) in
    let history = c.args.journal.now.events in
    let has = rw c.in-Some.is at c.in_ok-made.ensures in
    let app = application_of has.app in
    let its = its_realm c.in-Some.reader in
    let read = c.in_ok-log-in-Some.ensures.reading in
    let now = c.reads_all.new.self in
    record {
      app = has.there ∙ sym (ap (λ (r : CodeRealm). app_by (realm_of r) (boot_of now) (noted_by now)) (read.of_realm ∙ has.reads.of_realm))
          ∙ c.in_ok-app-in-Some.ensures;
      entries = c.in_ok-entries-in-Some.ensures
          ∙ ap (filter_map of_machine) (c.in_ok-log-in-Some.ensures.log
          ∙ ap (λ (b : Booted). (noted b c.as_slice.result.now (realm_of its)).log) has.reads.booted
          ∙ ap (λ (h : List Event). (noted boot h (realm_of its)).log) c.as_slice.ensures
          ∙ ap (λ (r : CodeRealm). (noted boot history (realm_of r)).log) has.reads.of_realm)
          ∙ sym (log_so boot history app) ∙ ap (log_by boot history) (sym has.there);
    }

pub returns-in-None : goal.returns-in-None
returns-in-None g c =
    let boot = booted c.args.boot.now (entries c.args.natives.now) in
    let none = rw c.in-None.is at c.in_ok-made.ensures in
    record { app = none; entries = c.new.ensures.items ∙ sym (ap (log_by boot c.args.journal.now.events) none) }
