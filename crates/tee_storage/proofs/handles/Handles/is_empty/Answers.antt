use Rattle.tee_storage.proofs.NumberedObjects.{empty_is_all_none}
use Rattle.tee_storage.proofs.handles.Handles.is_empty.Goals as goal

pub returns : goal.returns
returns c = rw (c.are_none.ensures, ← c.self.view_is) (empty_is_all_none 0 c.self.inside.objects)
