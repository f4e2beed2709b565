use Rattle.std.proofs.Common.{◌≡◌, ◌++◌}
use Rattle.journal_notes.proofs.logged.add_all.Given as goal

abbrev pub invariant-loop-entry : goal.invariant-loop-entry
invariant-loop-entry g l = l.log.items ≡ l.fn.log.items ++ l.yielded
