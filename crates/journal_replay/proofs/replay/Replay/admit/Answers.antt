-- The processor comes in, as it was prepared.
use Rattle.std.proofs.Common.{◌∙◌}
use Rattle.journal_replay.proofs.Entered.{admitted}
use Rattle.journal_replay.proofs.replay.Replay.admit.Goals as goal

pub invariant_of-self : goal.invariant_of-self
invariant_of-self c = record {
  kept = (c.admit.ensures c.requires.prepared.lane c.requires.prepared.is).entered.terms ∙ c.args.self.now.kept;
}

pub returns-clause-done : goal.returns-clause-done
returns-clause-done c =
    let lane = c.requires.prepared.lane in
    let come = c.admit.ensures lane c.requires.prepared.is in
    record {
      boot = come.entered.boot;
      events = admitted c.args.self.now.at_work.core c.admit.new.self.core c.args.visitor lane c.args.prepared come.work c.requires.prepared.is come.entered;
    }
