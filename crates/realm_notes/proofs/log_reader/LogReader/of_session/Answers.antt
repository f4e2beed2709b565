use Rattle.std.proofs.Common.{List, [], subst, sym}
use Rattle.event_journal.specs.declared.event.Event.{Event}
use Rattle.journal_notes.specs.Replaying.{boot_of}
use Rattle.realm_model.specs.Reading.{noted}
use Rattle.realm_notes.specs.Noted.{AreNoted, listing}
use Rattle.realm_notes.specs.Realms.{realm_of}
use Rattle.realm_notes.proofs.log_reader.LogReader.of_session.Goals as goal

pub returns : goal.returns
returns g c = record {
  booted = c.in_ok-replay.ensures.booted;
  events = c.in_ok-replay.ensures.fresh;
  of_realm = c.new-notes.ensures.realm;
  reading = ∣ subst (λ (h : List Event). AreNoted c.new-notes.result
      (listing (noted (boot_of c.in_ok-replay.replay) h (realm_of c.new-notes.result.realm)) []))
      (sym c.in_ok-replay.ensures.fresh) c.new-notes.ensures.noted ∣₁;
}
