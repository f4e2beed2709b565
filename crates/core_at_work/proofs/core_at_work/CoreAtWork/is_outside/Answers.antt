-- By the number of processors, and by what the core says of those that are there.
use Rattle.std.proofs.Common.{◌<◌, ◌≤◌, arith}
use Rattle.std.proofs.lemmas.Bool.Decides.{nat_tests}
use Rattle.kernel_state.specs.Meaning.{booted_of}
use Rattle.core_at_work.proofs.Stand.{outside_cpu, outside_iff}
use Rattle.core_at_work.proofs.core_at_work.CoreAtWork.is_outside.Goals as goal

pub returns-then-cpu-cpus : goal.returns-then-cpu-cpus
returns-then-cpu-cpus c =
    let at_work = c.args.self.now in
    let many : c.cpus.result ≤ c.args.cpu = grind (arith, nat_tests, c.if-cpu-cpus.true) in (
      λ is. absurd cc,
      λ outside.
          let few = outside_cpu at_work.core at_work.outgoing.items at_work.own c.args.cpu outside in
          let cpus = c.cpus.ensures in
          absurd (omega (arith, many, few, cpus)),
    )

pub returns : goal.returns
returns c =
    let at_work = c.args.self.now in
    let below : c.args.cpu < c.cpus.result = grind (arith, nat_tests, c.if-cpu-cpus.false) in
    let cpus = c.cpus.ensures in
    let few : c.args.cpu < (booted_of at_work.core).cpus = omega (arith, below, cpus) in
    outside_iff at_work.core at_work.outgoing.items at_work.own c.args.cpu few c.inside.result c.inside.ensures
