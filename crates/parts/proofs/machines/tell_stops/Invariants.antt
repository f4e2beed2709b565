use Rattle.std.proofs.Common.{◌≡◌, None}
use Rattle.parts.proofs.machines.tell_stops.Given as goal

abbrev pub invariant-grants : goal.invariant-grants
invariant-grants l = l.machine.asked ≡ None
