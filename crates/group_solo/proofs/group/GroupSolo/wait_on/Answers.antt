use Rattle.std.proofs.Common.{sym, refl, ◌∙◌}
use Rattle.group_model.specs.Group.{with_call}
use Rattle.group_solo.proofs.Onward.{comes_same, waits_still, waits_without}
use Rattle.group_solo.proofs.Putting.{comes_with}
use Rattle.group_solo.proofs.group.GroupSolo.wait_on.Goals as goal

pub returns-then-is_no_buffer-clause-waits : goal.returns-then-is_no_buffer-clause-waits
returns-then-is_no_buffer-clause-waits c g w beside is number input =
    comes_same c.give_up.new.self c.give_up.new.call c.args.number g _ _
    (waits_without g w c.args.input.now input (sym c.is_no_buffer.ensures ∙ c.if-is_no_buffer.true))
    (c.give_up.ensures.gives_up g w beside is number)

pub returns-else-is_no_buffer-clause-waits : goal.returns-else-is_no_buffer-clause-waits
returns-else-is_no_buffer-clause-waits c g w beside is number input =
    comes_same c.args.self.now c.args.call.now c.args.number g _ _
    (waits_still g w c.args.number c.args.input.now number input (sym c.is_no_buffer.ensures ∙ c.if-is_no_buffer.false))
    (comes_with c.args.self.now g (with_call g c.args.number w.call) c.args.number c.args.call.now beside (record { call = w.call; is = is; has = refl }))
