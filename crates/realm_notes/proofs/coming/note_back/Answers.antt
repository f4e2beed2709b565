use Rattle.std.proofs.Common.{◌∙◌, subst, sym}
use Rattle.std.specs.Prelude.{IfOk}
use Rattle.realm_model.specs.Reading.{Notes}
use Rattle.realm_notes.proofs.HasCome.{back_of_other, back_of_own}
use Rattle.realm_notes.specs.Arriving.{watch}
use Rattle.realm_notes.specs.Noted.{AreNoted}
use Rattle.realm_notes.specs.Realms.{realm_of}
use Rattle.realm_notes.proofs.coming.note_back.Goals as goal

pub returns-in-Some-clause-noted : goal.returns-in-Some-clause-noted
returns-in-Some-clause-noted c boot kernel next before visitor reads work has are =
    subst (λ (n : Notes). IfOk c.resume.result (λ _. AreNoted c.resume.new.self n))
    (back_of_own (watch boot (realm_of c.args.notes.now.realm) before kernel) next visitor reads work c.args.slot c.args.came has
    c.in-Some.number (sym (c.number_in.ensures before are) ∙ c.in-Some.is))
    (rw c.into_inner.ensures at (c.resume.ensures.noted before are))

pub returns-in-None-clause-noted : goal.returns-in-None-clause-noted
returns-in-None-clause-noted c boot kernel next before visitor reads work has are =
    subst (AreNoted c.args.notes.now)
    (back_of_other (watch boot (realm_of c.args.notes.now.realm) before kernel) next visitor reads work c.args.slot c.args.came has
    (sym (c.number_in.ensures before are) ∙ c.in-None.is)) are
