use Rattle.core_cases.specs.Cpus.{IsPairOf}
use Rattle.core_cases.proofs.serving.between_turns.Given as goal

abbrev pub invariant-loop-item : goal.invariant-loop-item
invariant-loop-item l = IsPairOf l.shared l.pair
