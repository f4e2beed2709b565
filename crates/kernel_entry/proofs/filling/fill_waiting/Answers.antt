use Rattle.std.proofs.Common.{◌∙◌}
use Rattle.kernel_entry.proofs.filling.fill_waiting.Goals as goal

pub returns-clause-new : goal.returns-clause-new
returns-clause-new c = record {
  begins = record { fresh = c.fill.ensures.fresh; result = c.fill.ensures.outcome ∙ c.of_tee.ensures };
  waits = c.fill.ensures.phase;
}
