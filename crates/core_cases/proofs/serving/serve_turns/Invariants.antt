use Rattle.core_cases.specs.Cpus.{IsPairOf}
use Rattle.core_cases.proofs.serving.serve_turns.Given as goal

abbrev pub invariant-loop-turn : goal.invariant-loop-turn
invariant-loop-turn g l = IsPairOf l.shared l.pair
