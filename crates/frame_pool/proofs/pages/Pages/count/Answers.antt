use Rattle.std.proofs.Common.{arith}
use Rattle.frame_pool.proofs.PageBytes.{length-concat}
use Rattle.frame_pool.proofs.pages.Pages.count.Goals as goal

pub returns-clause-count : goal.returns-clause-count
returns-clause-count c =
    let whole = rw c.self.view_is at (length-concat 4096 c.self.inside.frames.items c.self.invariant.0) in
    omega (arith, whole)

pub returns-clause-whole : goal.returns-clause-whole
returns-clause-whole c =
    let whole = rw c.self.view_is at (length-concat 4096 c.self.inside.frames.items c.self.invariant.0) in
    omega (arith, whole)
