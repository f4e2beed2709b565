use Rattle.std.proofs.Common.{◌<◌, ◌^◌, arith}
use Rattle.group_model.specs.Group.{Going, goes_out_in, going_in}
use Rattle.solo.proofs.Stepped.{some_found}
use Rattle.group_solo.proofs.Keeping.{runs_when_kept}
use Rattle.group_solo.proofs.Leaving.{still_aside, taken_aside}
use Rattle.group_solo.proofs.ShortGroup.{goes_same, goes_short}
use Rattle.group_solo.proofs.group.GroupSolo.go_out.Goals as goal

pub bring_to_stop-requires : goal.bring_to_stop-requires
bring_to_stop-requires c =
    rw c.deref_mut.ensures.value (runs_when_kept c.args.self.now c.args.number c.in-Some.call c.requires c.in-Some.ensures.call)

pub returns-clause-ok : goal.returns-clause-ok
returns-clause-ok c most g next own told stands numbered there room short e =
    let s = c.args.self.now in
    let number = c.args.number in
    let found = some_found (λ (going : Going). goes_out_in going.group number going.call going.call.phase) (going_in most g own own.phase) (next, told) e in
    let going = found.0 in
    let taken = taken_aside s c.take.new.self g number c.in-Some.call own stands there c.in-Some.ensures.call c.in-Some.ensures.stays c.in-Some.ensures.after in
    let is = c.bring_to_stop.ensures.going most g own going taken.1.beside numbered.rising (rw c.deref_mut.ensures.value taken.0) room found.1.0 in
    let small : going.call.session < 2 ^ 32 =
    (let same = goes_same most g own going found.1.0 in let few = numbered.few in let called = numbered.called number own there in omega (arith, same, few, called)) in
    c.answer.ensures.answers c.args.longest going.group next going.call told c.in_ok-room.ensures.holds
    (still_aside c.take.new.self c.bring_to_stop.new.self g number _ going taken.1 c.bring_to_stop.ensures.calls is) small is.is
    (goes_short c.args.longest most g number own going short there found.1.0) found.1.1
