use Rattle.text_lines.proofs.Cuts.{Lacks-from_misses, IsCutAt-first}
use Rattle.text_lines.proofs.words.split_long.Goals as goal

pub returns-in_err-end : goal.returns-in_err-end
returns-in_err-end c = rw c.from_residual.ensures (Lacks-from_misses 32 c.args.line.now c.in_err-end.ensures)

pub returns : goal.returns
returns c = IsCutAt-first 32 c.args.line.now c.in_ok-end.end c.in_ok-end.ensures.0 c.in_ok-end.ensures.1
