use Rattle.std.proofs.Common.{◌≡◌}
use Rattle.journal_notes.specs.Logs.{replies_in}
use Rattle.journal_notes.proofs.logged.replies_in.Given as goal

abbrev pub invariant-loop-logged : goal.invariant-loop-logged
invariant-loop-logged g l = l.replies.items ≡ replies_in l.yielded
