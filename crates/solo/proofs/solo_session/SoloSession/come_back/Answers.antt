use Rattle.std.proofs.Common.{◌≡◌, Some, sym, ap, subst}
use Rattle.std.specs.Prelude.{◌||◌}
use Rattle.begin_call.specs.Begins.{IsValidApp}
use Rattle.kernel_model.specs.Application.{Application}
use Rattle.own_model.specs.Solo.{comes_back, is_buffer}
use Rattle.solo.proofs.Coming.{changes_so}
use Rattle.solo.proofs.Kept.{asks_rebuffered, asks_when_kept, begins_rebuffered, begins_when_kept, valid_when_kept}
use Rattle.solo.specs.Standing.{app_in}
use Rattle.solo.proofs.solo_session.SoloSession.come_back.Goals as goal

pub come_back_in-requires-clause-valid : goal.come_back_in-requires-clause-valid
come_back_in-requires-clause-valid c = subst IsValidApp (sym (ap app_in c.in-Some.ensures.stays)) (valid_when_kept c.args.self.now c.requires)

pub come_back_in-requires-clause-waits : goal.come_back_in-requires-clause-waits
come_back_in-requires-clause-waits c =
    rw c.deref_mut-2.ensures.value
    (begins_rebuffered c.deref_mut.result.now c.take_buffer.new.cont c.take_buffer.ensures.stays
    (rw c.deref_mut.ensures.value (begins_when_kept c.args.self.now c.args.number c.in-Some.call c.requires c.in-Some.ensures.call)))

pub come_back_in-requires-clause-asked : goal.come_back_in-requires-clause-asked
come_back_in-requires-clause-asked c =
    rw c.deref_mut-2.ensures.value
    (asks_rebuffered c.deref_mut.result.now c.take_buffer.new.cont c.take_buffer.ensures.stays
    (rw c.deref_mut.ensures.value (asks_when_kept c.args.self.now c.args.number c.in-Some.call c.requires c.in-Some.ensures.call)))

pub returns-clause-ok : goal.returns-clause-ok
returns-clause-ok c solo next call stands order there e =
    changes_so c.args.self.now c.take.new.self c.come_back_in.new.self c.put.new.self solo next c.args.number c.in-Some.call _ call stands there
    c.in-Some.ensures.call c.in-Some.ensures.stays c.in-Some.ensures.after c.come_back_in.ensures.calls
    (λ beside is.
    c.come_back_in.ensures.comes solo next (record call { buffer = is_buffer c.args.input.now || call.buffer }) beside
    (rw c.deref_mut-2.ensures.value (c.take_buffer.ensures.call call (rw c.deref_mut.ensures.value is))) (order.fits c.args.number call there)
    (subst (λ (app : Application). comes_back app solo c.args.number c.args.input.now call ≡ Some next) (sym (ap app_in c.in-Some.ensures.stays)) e))
    c.put.ensures.stays c.put.ensures.after
