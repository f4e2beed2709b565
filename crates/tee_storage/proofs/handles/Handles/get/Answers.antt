use Rattle.std.proofs.Common.{sym, ◌∙◌}
use Rattle.tee_storage.proofs.NumberedObjects.{are_handles, get_is_element, get_past}
use Rattle.tee_storage.proofs.handles.Handles.get.Goals as goal

pub returns-in_err-get-clause-handle : goal.returns-in_err-get-clause-handle
returns-in_err-get-clause-handle c =
    rw (c.from_residual.ensures, ← c.self.view_is) (sym (get_past c.self.inside.objects c.args.number c.in_err-get.ensures.lookup.3))

pub returns-in_err-get-clause-handles : goal.returns-in_err-get-clause-handles
returns-in_err-get-clause-handles c = rw (← c.self.view_is) (are_handles c.self.inside.objects c.self.invariant)

pub returns-clause-handle : goal.returns-clause-handle
returns-clause-handle c =
    let looked = c.in_ok-get.ensures.lookup in
    rw (c.as_ref.ensures.value, ← c.self.view_is) (looked.1 ∙ sym (get_is_element c.self.inside.objects c.args.number c.in_ok-get.field-0.now looked.3.0))

pub returns-clause-handles : goal.returns-clause-handles
returns-clause-handles c = rw (← c.self.view_is) (are_handles c.self.inside.objects c.self.invariant)
