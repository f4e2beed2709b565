use Rattle.std.proofs.Common.{subst}
use Rattle.realm_notes.proofs.HasCome.{new_of_none}
use Rattle.realm_notes.specs.Arriving.{watch}
use Rattle.realm_notes.specs.Noted.{AreNoted}
use Rattle.realm_notes.specs.Realms.{realm_of}
use Rattle.realm_notes.proofs.coming.note_in_slot.Goals as goal

pub returns-in-New-clause-noted : goal.returns-in-New-clause-noted
returns-in-New-clause-noted c boot kernel next before visitor reads work run has are =
    c.note_new.ensures.noted boot kernel next before visitor reads work run (rw c.in-New.is at has) are

pub returns-in-Back-clause-noted : goal.returns-in-Back-clause-noted
returns-in-Back-clause-noted c boot kernel next before visitor reads work run has are =
    c.note_back.ensures.noted boot kernel next before visitor reads work (rw c.in-Back.is at has) are

pub returns-in-Nothing-clause-noted : goal.returns-in-Nothing-clause-noted
returns-in-Nothing-clause-noted c boot kernel next before visitor reads work run has are =
    subst (AreNoted c.args.notes.now)
    (new_of_none (watch boot (realm_of c.args.notes.now.realm) before kernel) next visitor reads work c.args.slot
    (rw c.in-Nothing.is at has)) are
