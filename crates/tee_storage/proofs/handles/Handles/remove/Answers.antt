use Rattle.std.proofs.Common.{sym, ◌∙◌}
use Rattle.tee_storage.proofs.NumberedObjects.{get_is_object_at, take_is_remove}
use Rattle.tee_storage.proofs.handles.Handles.remove.Goals as goal

pub returns-clause-handle : goal.returns-clause-handle
returns-clause-handle c = rw (← c.self.view_is) (c.take_at.ensures.object ∙ sym (get_is_object_at c.self.inside.objects c.args.number))

pub returns-clause-after : goal.returns-clause-after
returns-clause-after c = rw (c.take_at.ensures.after, ← c.self.view_is) (take_is_remove c.self.inside.objects c.args.number)
