use Rattle.std.proofs.Common.{ℕ, ap, subst, sym, ◌∙◌}
use Rattle.std.specs.Prelude.{IfOk}
use Rattle.realm_model.specs.Reading.{Notes}
use Rattle.realm_notes.proofs.HasCome.{new_entered, new_of_other}
use Rattle.realm_notes.proofs.RunOn.{counts_on, session_on}
use Rattle.realm_notes.specs.Arriving.{watch}
use Rattle.realm_notes.specs.Noted.{AreNoted, has_entered}
use Rattle.realm_notes.specs.Realms.{realm_of}
use Rattle.realm_notes.proofs.coming.note_new.Goals as goal

pub returns-then-counts-clause-noted : goal.returns-then-counts-clause-noted
returns-then-counts-clause-noted c boot kernel next before visitor reads work run has are =
    let realm = realm_of c.args.notes.now.realm in
    subst (λ (n : Notes). IfOk c.enter.result (λ _. AreNoted c.enter.new.self n))
    (ap (λ (n : ℕ). has_entered before c.args.slot n c.args.came)
    (c.session_of.ensures ∙ session_on work.steps work.call c.args.ran.now.call c.args.ran.now.stop run.call)
    ∙ new_entered (watch boot realm before kernel) next visitor reads work c.args.slot c.args.came has
    (sym (counts_on realm work.steps work.call c.args.ran.now.call c.args.ran.now.stop run.call)
    ∙ sym c.counts.ensures ∙ c.if-counts.true))
    (c.enter.ensures.noted before are)

pub returns-else-counts-clause-noted : goal.returns-else-counts-clause-noted
returns-else-counts-clause-noted c boot kernel next before visitor reads work run has are =
    let realm = realm_of c.args.notes.now.realm in
    subst (AreNoted c.args.notes.now)
    (new_of_other (watch boot realm before kernel) next visitor reads work c.args.slot c.args.came has
    (sym (counts_on realm work.steps work.call c.args.ran.now.call c.args.ran.now.stop run.call)
    ∙ sym c.counts.ensures ∙ c.if-counts.false)) are
