use Rattle.core_c.proofs.tulgexar_run.Goals as goal

pub returns : goal.returns
returns c = record {
  status = c.outcome_of-outcome.result.status;
  output = c.outcome_of-outcome.result.output.items;
  run = c.outcome_of-outcome.ensures;
  handed = c.hand_out.ensures;
}
