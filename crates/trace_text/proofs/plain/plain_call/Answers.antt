use Rattle.std.proofs.Common.{Some}
use Rattle.std.specs.Prelude.{codes}
use Rattle.std.proofs.lemmas.Bool.Decides.{Decides-eqb}
use Rattle.std.proofs.lemmas.Slice.Eq.{strip_prefix_is}
use Rattle.trace_text.proofs.PlainLines.{plain_line}
use Rattle.trace_text.proofs.plain.plain_call.Goals as goal

pub returns-clause-said : goal.returns-clause-said
returns-clause-said c =
    let line = strip_prefix_is Decides-eqb c.args.line.now (codes "smc ") (Some c.in_ok-rest.rest) c.in_ok-rest.ensures.cases in
    plain_line c.args.line.now c.in_ok-rest.rest.now c.in_ok-cpu.rest.now c.in_ok-steps.rest.now c.in_ok-cpu.cpu c.in_ok-steps.steps c.in_ok-regs.regs line c.in_ok-cpu.ensures c.in_ok-steps.ensures c.in_ok-regs.ensures
