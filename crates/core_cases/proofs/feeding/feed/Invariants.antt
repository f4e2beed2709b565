use Rattle.std.proofs.Common.{drop}
use Rattle.core_cases.proofs.feeding.feed.Given as goal

-- the machine can be fed with the rest
abbrev pub invariant-loop-event : goal.invariant-loop-event
invariant-loop-event g l = g.M.EventMachine.IsFed l.machine (drop l.event-index l.events)
