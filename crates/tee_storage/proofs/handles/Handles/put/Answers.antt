use Rattle.std.proofs.Common.{arith}
use Rattle.tee_storage.proofs.NumberedObjects.{put_is_insert}
use Rattle.tee_storage.proofs.handles.Handles.put.Goals as goal

pub returns : goal.returns
returns c = rw (← c.self.view_is) (put_is_insert c.self.inside.objects c.args.number c.args.handle (omega (arith, c.self.invariant)))
