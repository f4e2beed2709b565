use Rattle.std.proofs.Common.{◌≡◌, None, replicate}
use Rattle.core_at_work.proofs.working.none_inside.Given as goal

abbrev pub invariant-loop : goal.invariant-loop
invariant-loop l = l.outgoing.items ≡ replicate l.counter None
