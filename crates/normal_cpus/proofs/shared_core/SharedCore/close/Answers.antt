use Rattle.std.proofs.Common.{ℕ, ap, sym, ◌∙◌}
use Rattle.core_lock.specs.Counts.{numbers_from, times}
use Rattle.normal_cpus.proofs.shared_core.SharedCore.close.Goals as goal

-- the lock has as many numbers as there are processors
pub close-requires-clause-all : goal.close-requires-clause-all
close-requires-clause-all c n = c.requires.all n ∙ ap (λ (count : ℕ). times n (numbers_from 0 count)) (sym c.args.self.counted)
