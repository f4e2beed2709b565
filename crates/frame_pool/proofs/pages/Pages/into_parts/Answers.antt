use Rattle.std.proofs.Common.{arith}
use Rattle.frame_pool.proofs.PageBytes.{length-concat}
use Rattle.frame_pool.proofs.pages.Pages.into_parts.Goals as goal

pub returns-clause-count : goal.returns-clause-count
returns-clause-count c =
    let whole = rw c.self.view_is at (length-concat 4096 c.self.inside.frames.items c.self.invariant.0) in
    omega (arith, whole)
