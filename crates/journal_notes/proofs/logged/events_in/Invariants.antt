use Rattle.std.proofs.Common.{◌≡◌}
use Rattle.journal_notes.specs.Logs.{events_in}
use Rattle.journal_notes.proofs.logged.events_in.Given as goal

abbrev pub invariant-loop-logged : goal.invariant-loop-logged
invariant-loop-logged g l = l.events.items ≡ events_in l.yielded
