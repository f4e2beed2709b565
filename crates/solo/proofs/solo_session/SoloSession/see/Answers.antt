use Rattle.solo.proofs.Kept.{runs_when_kept}
use Rattle.solo.proofs.Putting.{seen_stands}
use Rattle.solo.proofs.solo_session.SoloSession.see.Goals as goal

pub see_cancel-requires : goal.see_cancel-requires
see_cancel-requires c =
    rw c.deref_mut.ensures.value (runs_when_kept c.args.self.now c.args.number c.in-Some.call c.requires c.in-Some.ensures.call)

pub returns-clause-sees : goal.returns-clause-sees
returns-clause-sees c solo next call stands there e =
    seen_stands c.args.self.now c.take.new.self c.put.new.self solo next c.args.number c.args.done_by_now c.in-Some.call _ call stands there e
    c.in-Some.ensures.call c.in-Some.ensures.stays c.in-Some.ensures.after
    (λ own at is did. c.see_cancel.ensures own at (rw c.deref_mut.ensures.value is) did) c.put.ensures.stays c.put.ensures.after
