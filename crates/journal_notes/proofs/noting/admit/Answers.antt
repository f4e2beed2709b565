-- It has come in, and what its entry is for them is noted.
use Rattle.std.proofs.Common.{◌≡◌, Some, subst, sym, ◌∙◌}
use Rattle.journal_notes.proofs.Processors.{few_processors}
use Rattle.kernel_state.specs.Work.{IsRanOf}
use Rattle.journal_notes.proofs.noting.admit.Goals as goal

pub outgoing-ran-requires : goal.outgoing-ran-requires
outgoing-ran-requires g c = (c.admit.ensures.came c.requires.prepared.lane c.requires.prepared.is).inside

pub come_in-requires-clause-cpu : goal.come_in-requires-clause-cpu
come_in-requires-clause-cpu g c = few_processors c.args.replay.now.at_work.core c.args.visitor c.requires.can

pub come_in-requires-clause-can : goal.come_in-requires-clause-can
come_in-requires-clause-can g c = c.outgoing-ran.ensures.can

pub come_in-requires-clause-own : goal.come_in-requires-clause-own
come_in-requires-clause-own g c = c.outgoing-ran.ensures.own

pub returns-clause-done : goal.returns-clause-done
returns-clause-done g c =
    let done = c.admit.ensures.done in
    record { boot = done.boot; events = done.events }

pub returns-clause-noted : goal.returns-clause-noted
returns-clause-noted g c =
    let lane = c.requires.prepared.lane in
    let is = c.requires.prepared.is in
    let come = c.admit.ensures.came lane is in
    let same : come.ran ≡ c.outgoing-ran.result.now = (let both : Some come.ran ≡ Some c.outgoing-ran.result.now = sym come.kept ∙ c.outgoing-ran.ensures.kept in cc) in
    c.in_ok-come_in.ensures.noted c.args.replay.now.at_work.core lane c.args.prepared.reads come.work (subst (IsRanOf come.work) same come.has_run) come.entered
    c.admit.ensures.done.events (c.in_ok-arrival.ensures lane is)
