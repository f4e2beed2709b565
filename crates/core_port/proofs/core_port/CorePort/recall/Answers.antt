-- What is true of its fields is said of its view.
use Rattle.std.proofs.Common.{◌≡◌, ◌≤◌, ◌^◌, subst}
use Rattle.event_journal.specs.Journal.{copied_bytes}
use Rattle.core_port.specs.CorePort.{CoreView, IsKernels}
use Rattle.core_port.proofs.Recalled.{are_kernels, few_copied}
use Rattle.core_port.proofs.core_port.CorePort.recall.Goals as goal

pub returns-clause-boot : goal.returns-clause-boot
returns-clause-boot g c = subst (λ (view : CoreView). view.boot ≡ g.B.OfBoot.booted) c.self.view_is c.self.invariant.boots

pub returns-clause-kernels : goal.returns-clause-kernels
returns-clause-kernels g c =
    subst IsKernels c.self.view_is
    (are_kernels g.B.OfBoot.booted c.self.inside.at_work.core c.self.inside.lane c.self.inside.made c.self.invariant)

pub returns-clause-few : goal.returns-clause-few
returns-clause-few g c =
    subst (λ (view : CoreView). copied_bytes view.history ≤ 2 ^ 28) c.self.view_is
    (few_copied g.B.OfBoot.booted c.self.inside.at_work.core c.self.inside.lane c.self.inside.made c.self.invariant)
