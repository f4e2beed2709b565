use Rattle.std.proofs.Common.{arith}
use Rattle.frame_pool.proofs.PageBytes.{length-concat}
use Rattle.frame_pool.proofs.pages.Pages.of.Goals as goal

pub returns-clause-count : goal.returns-clause-count
returns-clause-count c = omega (arith, length-concat 4096 c.args.frames.items c.requires.whole)
