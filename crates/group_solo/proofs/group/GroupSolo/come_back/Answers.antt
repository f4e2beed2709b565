use Rattle.std.proofs.Common.{◌≡◌, Bool, Option, Some, refl, sym, ap, subst, ◌∙◌}
use Rattle.std.specs.Prelude.{◌||◌}
use Rattle.begin_call.specs.Begins.{IsValidApp}
use Rattle.kernel_model.specs.Application.{Application}
use Rattle.group_model.specs.Group.{comes_back}
use Rattle.own_model.specs.Solo.{is_buffer}
use Rattle.solo.proofs.Kept.{asks_rebuffered, begins_rebuffered}
use Rattle.group_solo.proofs.Back.{buffered}
use Rattle.group_solo.proofs.Keeping.{asks_when_kept, begins_when_kept, room_kept, valid_when_kept}
use Rattle.group_solo.proofs.Putting.{changes_so}
use Rattle.group_solo.specs.Calls.{alone}
use Rattle.group_solo.specs.Opening.{IsSpare}
use Rattle.group_solo.specs.Standing.{app_in}
use Rattle.group_solo.proofs.group.GroupSolo.come_back.Goals as goal

pub spare-requires : goal.spare-requires
spare-requires c = valid_when_kept c.args.self.now c.requires

pub come_back_in-requires-clause-valid : goal.come_back_in-requires-clause-valid
come_back_in-requires-clause-valid c = subst IsValidApp (sym (ap app_in c.in-Some.ensures.stays)) (valid_when_kept c.args.self.now c.requires)

pub come_back_in-requires-clause-waits : goal.come_back_in-requires-clause-waits
come_back_in-requires-clause-waits c =
    rw c.deref_mut-2.ensures.value
    (begins_rebuffered c.deref_mut.result.now.cont c.take_buffer.new.cont c.take_buffer.ensures.stays
    (rw c.deref_mut.ensures.value (begins_when_kept c.args.self.now c.args.number c.in-Some.call c.requires c.in-Some.ensures.call)))

pub come_back_in-requires-clause-asked : goal.come_back_in-requires-clause-asked
come_back_in-requires-clause-asked c =
    rw c.deref_mut-2.ensures.value
    (asks_rebuffered c.deref_mut.result.now.cont c.take_buffer.new.cont c.take_buffer.ensures.stays
    (rw c.deref_mut.ensures.value (asks_when_kept c.args.self.now c.args.number c.in-Some.call c.requires c.in-Some.ensures.call)))

pub come_back_in-requires-clause-spare : goal.come_back_in-requires-clause-spare
come_back_in-requires-clause-spare c =
    let spare = c.in_ok-spare.spare.instance in
    let told = room_kept c.args.self.now c.args.number c.in-Some.call c.in-Some.ensures.call in
    rw (c.deref_mut-2.ensures.value, c.deref_mut.ensures.value)
    (subst (λ (app : Application). IsSpare app c.in-Some.call.value.room spare) (sym (ap app_in c.in-Some.ensures.stays))
    (subst (λ (room : Option Bool). IsSpare (app_in c.args.self.now) room spare) (c.room_of.ensures ∙ told) c.in_ok-spare.ensures.spare))

pub returns-clause-ok : goal.returns-clause-ok
returns-clause-ok c g next own stands there e =
    let old = c.deref_mut.result.now in
    changes_so c.args.self.now c.take.new.self c.come_back_in.new.self c.put.new.self g next c.args.number c.in-Some.call _ own stands there
    c.in-Some.ensures.call c.in-Some.ensures.stays c.in-Some.ensures.after c.come_back_in.ensures.calls
    (λ beside is.
    c.come_back_in.ensures.comes g next (record own { buffer = is_buffer c.args.input.now || own.buffer }) beside
    (rw c.deref_mut-2.ensures.value
    (buffered old (record old { cont = c.take_buffer.new.cont }) own c.args.input.now refl (rw c.deref_mut.ensures.value is) (c.take_buffer.ensures.call (alone own))))
    (subst (λ (app : Application). comes_back app g c.args.number c.args.input.now own ≡ Some next) (sym (ap app_in c.in-Some.ensures.stays)) e))
    c.put.ensures.stays c.put.ensures.after
