-- What it goes out with has stopped by the panic of the kernel's grant.
use Rattle.std.proofs.Common.{◌≡◌, ◌∙◌}
use Rattle.core_at_work.specs.Panics.{panic_of}
use Rattle.core_at_work.proofs.PanicTold.{panic_told}
use Rattle.core_at_work.proofs.Stand.{has_kernel}
use Rattle.kernel_state.proofs.CoreEvents.{some_kernel}
use Rattle.core_at_work.proofs.core_at_work.CoreAtWork.panic.Goals as goal

pub returns : goal.returns
returns c =
    let core = c.args.self.now.core in
    let ran = c.outgoing.result.now in
    has_kernel core (λ kernel. c.panic_of.result ≡ panic_of kernel c.args.cpu)
    (c.panic_of.ensures
    ∙ panic_told core ran c.args.cpu (some_kernel core).0 c.outgoing.ensures.can c.outgoing.ensures.own (some_kernel core).1)
