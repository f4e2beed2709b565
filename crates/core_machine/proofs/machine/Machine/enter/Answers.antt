-- It can come in to the core, and comes in, or does not, in the play too.
use Rattle.std.proofs.Common.{arith, refl, ap, sym, ◌∙◌}
use Rattle.core_at_work.proofs.Worked.{came_boot, outside_there}
use Rattle.core_machine.proofs.Lanes.{lane_read, lane_there}
use Rattle.core_machine.proofs.Played.{can_enter, enters_so, terms_so}
use Rattle.kernel_model.specs.Application.{Booted}
use Rattle.core_machine.proofs.machine.Machine.enter.Goals as goal

pub index-requires : goal.index-requires
index-requires c =
    let old = c.args.self.now in
    let few = outside_there old.at_work c.args.visitor.cpu (can_enter old c.args.visitor c.requires).outside in
    let below = lane_there old c.from-place.result c.args.visitor.cpu c.from-place.ensures few in
    let ok = old.lanes.ok.0 in
    omega arith

pub enter-requires : goal.enter-requires
enter-requires c = can_enter c.args.self.now c.args.visitor c.requires

pub invariant_of-self : goal.invariant_of-self
invariant_of-self c =
    let old = c.args.self.now in
    record {
      each_sees = old.each_sees ∙ sym (ap (λ (b : Booted). b.cpus)
          (came_boot old.at_work c.enter.new.self c.args.visitor c.index.result.now c.enter.result c.enter.ensures));
    }

pub returns-clause-enters : goal.returns-clause-enters
returns-clause-enters c boot play at =
    let old = c.args.self.now in
    let few = outside_there old.at_work c.args.visitor.cpu (can_enter old c.args.visitor c.requires).outside in
    let sees = lane_read play old c.from-place.result c.args.visitor.cpu c.index.result.now few c.from-place.ensures
    c.index.ensures at.lanes in
    enters_so boot play old _ c.args.visitor c.index.result.now c.enter.result at (sym sees) refl c.enter.ensures

pub returns-clause-terms : goal.returns-clause-terms
returns-clause-terms c =
    terms_so c.args.self.now.at_work c.enter.new.self c.args.visitor c.index.result.now c.enter.result c.enter.ensures
