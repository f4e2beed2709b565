use Rattle.std.proofs.Common.{drop}
use Rattle.std.specs.Prelude.{◌↔◌}
use Rattle.core_machine.specs.Turns.{ComeInTurn}
use Rattle.core_machine.proofs.turns.come_in_turn.Given as goal

-- all can come where the rest can
abbrev pub invariant-loop-smc : goal.invariant-loop-smc
invariant-loop-smc l = ComeInTurn l.fn.inside l.smcs ↔ ComeInTurn l.inside (drop l.smc-index l.smcs)
