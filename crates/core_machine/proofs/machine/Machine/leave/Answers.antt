-- It is inside, and goes out in the play too; the kernel of its core is the play's.
use Rattle.std.proofs.Common.{◌≡◌, arith, ℕ, List, Option, ap, subst, sym, ◌∙◌}
use Rattle.std.proofs.lemmas.List.{length-set}
use Rattle.std.specs.Prelude.{IsSomeAnd, slice_set}
use Rattle.core_at_work.specs.Panics.{panic_of}
use Rattle.core_at_work.proofs.Worked.{inside_there}
use Rattle.core_machine.proofs.Lanes.{lane_read, lane_there}
use Rattle.core_machine.proofs.Played.{can_leave, leaves_so}
use Rattle.kernel_model.specs.Application.{Booted}
use Rattle.kernel_model.specs.Kernel.{Kernel}
use Rattle.core_machine.proofs.machine.Machine.leave.Goals as goal

pub index_mut-requires : goal.index_mut-requires
index_mut-requires c =
    let old = c.args.self.now in
    let few = inside_there old.at_work c.args.cpu (can_leave old c.args.cpu c.requires) in
    let below = lane_there old c.from.result c.args.cpu c.from.ensures few in
    let ok = old.lanes.ok.0 in
    omega arith

pub leave-requires : goal.leave-requires
leave-requires c = can_leave c.args.self.now c.args.cpu c.requires

pub invariant_of-self : goal.invariant_of-self
invariant_of-self c =
    let old = c.args.self.now in
    record {
      each_sees = length-set old.lanes.items c.from.result c.leave.new.lane ∙ old.each_sees
          ∙ sym (ap (λ (b : Booted). b.cpus) c.leave.ensures.has_left.boot);
    }

pub returns-clause-leaves : goal.returns-clause-leaves
returns-clause-leaves c boot play at =
    let old = c.args.self.now in
    let few = inside_there old.at_work c.args.cpu (can_leave old c.args.cpu c.requires) in
    leaves_so boot play old _ c.args.cpu c.index_mut.result.now c.leave.new.lane c.leave.result at c.leave.ensures
    (lane_read play old c.from.result c.args.cpu c.index_mut.result.now few c.from.ensures c.index_mut.ensures.value at.lanes)
    (ap (λ (n : ℕ). slice_set old.lanes.items n c.leave.new.lane) c.from.ensures
    ∙ ap (λ (all : List (List ℕ)). slice_set all c.args.cpu c.leave.new.lane) at.lanes)

pub returns-clause-panic : goal.returns-clause-panic
returns-clause-panic c boot play at =
    subst (λ (o : Option Kernel). IsSomeAnd o (λ kernel. c.leave.result.panic ≡ panic_of kernel c.args.cpu)) at.kernel
    c.leave.ensures.panic
