-- There is as much RAM as before, and the lane is the play's.
use Rattle.std.proofs.Common.{List, ℕ, ap, ◌∙◌}
use Rattle.std.proofs.lemmas.List.{length-set}
use Rattle.std.specs.Prelude.{slice_set}
use Rattle.ns_ram.specs.Lane.{bytes_put}
use Rattle.core_machine.proofs.Lanes.{lane_read}
use Rattle.core_machine.proofs.machine.Machine.write.Goals as goal

pub invariant_of-self : goal.invariant_of-self
invariant_of-self c =
    let old = c.args.self.now in
    record { each_sees = length-set old.lanes.items c.from.result c.write.new.self ∙ old.each_sees }

pub returns-clause-written : goal.returns-clause-written
returns-clause-written c boot play at =
    let old = c.args.self.now in
    let lane = lane_read play old c.from.result c.args.cpu c.index_mut.result.now c.requires.cpu c.from.ensures
    c.index_mut.ensures.value at.lanes in
    let written = c.write.ensures.bytes ∙ ap (λ (l : List ℕ). bytes_put l c.args.addr c.args.bytes.now) lane in
    record {
      booted = at.booted;
      history = at.history;
      kernel = at.kernel;
      limit = at.limit;
      lanes = ap (λ (n : ℕ). slice_set old.lanes.items n c.write.new.self) c.from.ensures
          ∙ ap (λ (all : List (List ℕ)). slice_set all c.args.cpu c.write.new.self) at.lanes
          ∙ ap (λ (l : List ℕ). slice_set play.lanes c.args.cpu l) written;
      goes_on = at.goes_on;
    }
