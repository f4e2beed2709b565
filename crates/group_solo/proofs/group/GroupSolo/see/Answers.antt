use Rattle.std.proofs.Common.{sym, subst, true}
use Rattle.std.specs.Box.{with_value}
use Rattle.std.specs.Global.{Box}
use Rattle.kernel_model.specs.Resume.{phase_seen}
use Rattle.group_solo.proofs.Keeping.{runs_when_kept}
use Rattle.group_solo.proofs.Putting.{changed, seen_so}
use Rattle.group_solo.specs.Calls.{IsGroupCall, alone}
use Rattle.group_solo.specs.Standing.{StandsFor}
use Rattle.group_solo.specs.declared.kept_call.KeptCall.{KeptCall}
use Rattle.group_solo.proofs.group.GroupSolo.see.Goals as goal

pub see_cancel-requires : goal.see_cancel-requires
see_cancel-requires c =
    rw c.deref_mut.ensures.value (runs_when_kept c.args.self.now c.args.number c.in-Some.call c.requires c.in-Some.ensures.call)

pub returns-clause-sees : goal.returns-clause-sees
returns-clause-sees c g next own stands there e =
    let so = seen_so g next c.args.number c.args.done_by_now own e in
    let seen : Box KeptCall = with_value c.in-Some.call (record c.deref_mut.result.now { cont = c.see_cancel.new.cont }) in
    subst (StandsFor c.put.new.self) (sym so.1.1)
    (changed c.args.self.now c.take.new.self c.put.new.self g c.args.number c.in-Some.call seen own
    (record own { seen = true; steps = c.args.done_by_now; phase = phase_seen so.0 }) stands there
    c.in-Some.ensures.call c.in-Some.ensures.stays c.in-Some.ensures.after
    (λ is.
    let here : IsGroupCall c.deref_mut.result.now own = subst (λ (k : KeptCall). IsGroupCall k own) (sym c.deref_mut.ensures.value) is in
    record {
      alone = c.see_cancel.ensures (alone own) so.0 here.alone so.1.0;
      session = here.session;
      instance = here.instance;
      room = here.room;
    })
    c.put.ensures.stays c.put.ensures.after)
