-- What came in can go out at the next turn of its pass, whoever comes and goes before.
use Rattle.core_cases.proofs.cpu.Cpu.enter.Goals as goal
use Rattle.core_lock.specs.Passes.{number}
use Rattle.normal_cpus.specs.Entering.{coming}
use Rattle.normal_cpus.specs.Sharing.{boot_of}

pub returns-clause-own : goal.returns-clause-own
returns-clause-own g c = record {
  own = c.in-Ok.ensures.own;
  works = λ ran is. c.works_go_out.ensures (boot_of c.args.shared.now) c.args.self.now.pass c.enter.new.pass
      (coming (number c.args.self.now.pass) c.args.regs.now c.args.steps) c.args.self.now.lane c.in-Ok.work ran
      c.in-Ok.ensures.comes is c.in-Ok.ensures.same;
}
