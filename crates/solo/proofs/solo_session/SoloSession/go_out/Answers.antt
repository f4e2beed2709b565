use Rattle.own_model.specs.Solo.{Going, goes_out_in, going_in}
use Rattle.solo.proofs.Kept.{runs_when_kept}
use Rattle.solo.proofs.Leaving.{still_aside, taken_aside}
use Rattle.solo.proofs.ShortSolo.{goes_short}
use Rattle.solo.proofs.Stepped.{some_found}
use Rattle.solo.proofs.solo_session.SoloSession.go_out.Goals as goal

pub bring_to_stop-requires : goal.bring_to_stop-requires
bring_to_stop-requires c =
    rw c.deref_mut.ensures.value (runs_when_kept c.args.self.now c.args.number c.in-Some.call c.requires c.in-Some.ensures.call)

pub returns-clause-ok : goal.returns-clause-ok
returns-clause-ok c most solo next call told stands there room short e =
    let s = c.args.self.now in
    let number = c.args.number in
    let found = some_found (λ (going : Going). goes_out_in going.solo number going.call going.call.phase) (going_in most solo call call.phase) (next, told) e in
    let going = found.0 in
    let taken = taken_aside s c.take.new.self solo number c.in-Some.call call stands there c.in-Some.ensures.call c.in-Some.ensures.stays c.in-Some.ensures.after in
    let is = c.bring_to_stop.ensures.going most solo call going taken.1.beside (rw c.deref_mut.ensures.value taken.0) room found.1.0 in
    c.answer.ensures.answers c.args.longest going.solo next going.call told c.in_ok-room.ensures.holds
    (still_aside c.take.new.self c.bring_to_stop.new.self solo number c.bring_to_stop.new.cont going taken.1 c.bring_to_stop.ensures.calls is) is.is
    (goes_short c.args.longest most solo number call going short there found.1.0) found.1.1
