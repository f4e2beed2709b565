-- What the processor goes out with is its own, and the kernel of its core is the play's.
use Rattle.std.proofs.Common.{ℕ, Option, ap, ◌∙◌}
use Rattle.std.specs.Option.{option_and_then}
use Rattle.core_machine.proofs.Played.{can_leave}
use Rattle.kernel_model.specs.Exit.{exit}
use Rattle.kernel_model.specs.Kernel.{Kernel}
use Rattle.core_machine.proofs.machine.Machine.pages_of_exit.Goals as goal

pub outgoing-requires : goal.outgoing-requires
outgoing-requires c = can_leave c.args.self.now c.args.cpu c.requires

pub returns-clause-stays : goal.returns-clause-stays
returns-clause-stays c = λ boot play exited lane at is whole.
    let ran = c.outgoing.result.now in
    c.pages_of_exit.ensures.stays c.args.self.now.at_work.core exited lane c.outgoing.ensures.can whole
    (ap (λ (o : Option Kernel). option_and_then (λ kernel. exit kernel ran.cpu) o) at.kernel
    ∙ ap (λ (n : ℕ). exit play.kernel n) c.outgoing.ensures.own ∙ is)

pub returns-clause-long : goal.returns-clause-long
returns-clause-long c = λ boot play exited lane at is whole.
    let ran = c.outgoing.result.now in
    c.pages_of_exit.ensures.long c.args.self.now.at_work.core exited lane c.outgoing.ensures.can whole
    (ap (λ (o : Option Kernel). option_and_then (λ kernel. exit kernel ran.cpu) o) at.kernel
    ∙ ap (λ (n : ℕ). exit play.kernel n) c.outgoing.ensures.own ∙ is)
