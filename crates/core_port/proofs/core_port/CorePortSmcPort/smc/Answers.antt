-- The SMC that the core has served, from the view of the fields before it to that of the fields after it.
use Rattle.std.proofs.Common.{◌≡◌, ◌<◌, true, subst, arith}
use Rattle.std.proofs.lemmas.Bool.Decides.{nat_tests}
use Rattle.smc_port.specs.Smc.{Makes}
use Rattle.core_port.specs.CorePort.{Answers, CoreView, has_room, smcs_made}
use Rattle.core_port.specs.Serving.{smcs_of}
use Rattle.core_port.proofs.Served.{answers, had_room, makes, stays_port, view_of}
use Rattle.core_port.proofs.core_port.CorePortSmcPort.smc.Goals as goal

pub invariant_of-self : goal.invariant_of-self
invariant_of-self g c =
    let few : c.self.inside.made < 32768 = grind (arith, nat_tests, c.if-self-eq-MOST_SMCS.false, c.self.invariant.few) in
    stays_port c.self.inside.at_work.core c.serve.new.at_work.core c.self.inside.lane c.serve.new.lane c.args.regs c.in-Ok.answer c.in-Ok.ensures.serves
    g.B.OfBoot.booted c.self.inside.made c.self.invariant few c.in-Ok.ensures.whole

pub returns-in-Ok-clause-made : goal.returns-in-Ok-clause-made
returns-in-Ok-clause-made g c =
    subst (λ (view : CoreView). Makes view.ram (smcs_made view) c.args.regs c.in-Ok.answer c.serve.new.lane (smcs_of c.serve.new.at_work.core)) c.self.view_is
    (makes c.self.inside.at_work.core c.serve.new.at_work.core c.self.inside.lane c.serve.new.lane c.args.regs c.in-Ok.answer c.in-Ok.ensures.serves
    c.self.invariant.whole c.in-Ok.ensures.whole)

pub returns-in-Ok-clause-room : goal.returns-in-Ok-clause-room
returns-in-Ok-clause-room g c =
    let few : c.self.inside.made < 32768 = grind (arith, nat_tests, c.if-self-eq-MOST_SMCS.false, c.self.invariant.few) in
    subst (λ (view : CoreView). has_room view c.args.regs ≡ true) c.self.view_is
    (had_room c.self.inside.at_work.core c.serve.new.at_work.core c.self.inside.lane c.serve.new.lane c.args.regs c.in-Ok.answer c.in-Ok.ensures.serves
    g.B.OfBoot.booted c.self.inside.made c.self.invariant few)

pub returns-in-Ok-clause-answers : goal.returns-in-Ok-clause-answers
returns-in-Ok-clause-answers g c =
    subst (λ (view : CoreView). Answers view c.args.regs c.in-Ok.answer (view_of c.serve.new.at_work.core c.serve.new.lane)) c.self.view_is
    (answers c.self.inside.at_work.core c.serve.new.at_work.core c.self.inside.lane c.serve.new.lane c.args.regs c.in-Ok.answer c.in-Ok.ensures.serves
    c.self.invariant.limit)
