use Rattle.std.proofs.Common.{List, [], Option, ap, subst, sym, ◌∙◌}
use Rattle.std.specs.Option.{option_map}
use Rattle.event_journal.specs.declared.event.Event.{Event}
use Rattle.journal_notes.specs.Replaying.{boot_of}
use Rattle.kernel_model.specs.Application.{Booted}
use Rattle.kernel_model.specs.Instances.{app_of}
use Rattle.kernel_state.specs.Setup.{application_of}
use Rattle.kernel_state.specs.declared.setup.Application.{Application as CodeApp}
use Rattle.realm_model.specs.Reading.{noted}
use Rattle.realm_notes.specs.Noted.{AreNoted, listing}
use Rattle.realm_notes.specs.Realms.{realm_of}
use Rattle.realm_notes.proofs.log_reader.LogReader.of_sessions.Goals as goal

pub returns-in-Some : goal.returns-in-Some
returns-in-Some g c =
    let made = c.in_ok-replay.ensures in
    record {
      app = c.in-Some.app;
      there = sym (ap (λ (b : Booted). app_of b c.args.uuid) made.booted) ∙ c.in_ok-found.ensures
          ∙ ap (λ (found : Option CodeApp). option_map application_of found) c.in-Some.is;
      reads = record {
        booted = made.booted;
        events = made.fresh;
        of_realm = c.new-notes.ensures.realm;
        reading = ∣ subst (λ (h : List Event). AreNoted c.new-notes.result
            (listing (noted (boot_of c.in_ok-replay.replay) h (realm_of c.new-notes.result.realm)) [])) (sym made.fresh) c.new-notes.ensures.noted ∣₁;
      };
    }

pub returns-in-None : goal.returns-in-None
returns-in-None g c =
    sym (ap (λ (b : Booted). app_of b c.args.uuid) c.in_ok-replay.ensures.booted) ∙ c.in_ok-found.ensures
    ∙ ap (λ (found : Option CodeApp). option_map application_of found) c.in-None.is
