use Rattle.std.proofs.Common.{Some, refl, sym, subst}
use Rattle.std.specs.Box.{with_value}
use Rattle.std.specs.Global.{Box}
use Rattle.group_solo.proofs.Putting.{changed, told_room}
use Rattle.group_solo.specs.Calls.{IsGroupCall}
use Rattle.group_solo.specs.Standing.{StandsFor}
use Rattle.group_solo.specs.declared.kept_call.KeptCall.{KeptCall}
use Rattle.group_solo.proofs.group.GroupSolo.tell_room.Goals as goal

pub returns-clause-finds : goal.returns-clause-finds
returns-clause-finds c g next own stands there e =
    let told : Box KeptCall = with_value c.in-Some.call (record c.deref_mut.result.now { room = Some c.args.enough }) in
    subst (StandsFor c.put.new.self) (told_room g next c.args.number c.args.enough own e)
    (changed c.args.self.now c.take.new.self c.put.new.self g c.args.number c.in-Some.call told own
    (record own { room = Some c.args.enough }) stands there
    c.in-Some.ensures.call c.in-Some.ensures.stays c.in-Some.ensures.after
    (λ is.
    let here : IsGroupCall c.deref_mut.result.now own = subst (λ (k : KeptCall). IsGroupCall k own) (sym c.deref_mut.ensures.value) is in
    record { alone = here.alone; session = here.session; instance = here.instance; room = refl })
    c.put.ensures.stays c.put.ensures.after)
