use Rattle.trace_text.proofs.PlainLines.{HasRead}
use Rattle.trace_text.proofs.plain.registers.Given as goal

abbrev pub invariant-loop-place : goal.invariant-loop-place
invariant-loop-place l = HasRead l.line l.place l.regs l.rest
