use Rattle.client_runner.proofs.Names.{LooksOn}
use Rattle.client_runner.proofs.sessions.OpenedNames.session_of.Given as goal

abbrev pub invariant-loop-named : goal.invariant-loop-named
invariant-loop-named l = LooksOn l.named-items l.name l.named-index
