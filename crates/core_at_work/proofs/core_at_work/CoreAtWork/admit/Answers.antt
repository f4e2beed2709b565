-- It comes in to the core, and its work is kept.
use Rattle.std.proofs.Common.{◌<◌, ℕ, length, Option, Some, ap, arith, subst, sym, ◌∙◌}
use Rattle.std.specs.Prelude.{slice_set}
use Rattle.std.specs.Option.{is_some, option_and_then, option_map}
use Rattle.core_at_work.proofs.Kept.{entered}
use Rattle.core_at_work.proofs.Stand.{has_inside, outside_below}
use Rattle.core_at_work.proofs.Worked.{put_beside, put_there}
use Rattle.kernel_entry.specs.Visiting.{coming_of}
use Rattle.kernel_state.specs.declared.work.Ran.{Ran}
use Rattle.core_at_work.proofs.core_at_work.CoreAtWork.admit.Goals as goal

pub index_mut-requires : goal.index_mut-requires
index_mut-requires c =
    let old = c.args.self.now in
    let below = outside_below old.core old.outgoing.items old.own c.args.visitor.cpu c.requires.can.outside in
    let same = c.from.ensures in
    let ok = old.outgoing.ok.0 in
    omega arith

pub invariant_of-self : goal.invariant_of-self
invariant_of-self c =
    let old = c.args.self.now in
    let lane = c.requires.prepared.lane in
    record {
      own = entered old.core c.admit-work.new.core (coming_of c.args.visitor) lane c.admit-work.result c.run.result
          old.outgoing.items c.from.result c.put.new.kept old.own (c.admit-work.ensures lane c.requires.prepared.is) c.run.ensures
          c.from.ensures c.put.ensures;
    }

pub returns : goal.returns
returns c lane is =
    let old = c.args.self.now in
    let cpu = c.args.visitor.cpu in
    let put = c.put.new.kept in
    let has = c.admit-work.ensures lane is in
    let below = subst (λ (n : ℕ). n < length old.outgoing.items) (sym c.from.ensures)
    (outside_below old.core old.outgoing.items old.own cpu c.requires.can.outside) in
    let have = entered old.core c.admit-work.new.core (coming_of c.args.visitor) lane c.admit-work.result c.run.result
    old.outgoing.items c.from.result put old.own has c.run.ensures c.from.ensures c.put.ensures in
    let there = put_there old.outgoing.items c.from.result cpu put c.from.ensures below in
    record {
      work = c.admit-work.result;
      entered = has;
      ran = c.run.result;
      has_run = c.run.ensures;
      kept = ap (option_and_then (λ (k : Option Ran). k)) there ∙ c.put.ensures;
      inside = has_inside c.admit-work.new.core (slice_set old.outgoing.items c.from.result put) have cpu
          (ap (option_map is_some) there ∙ ap (λ (kept : Option Ran). Some (is_some kept)) c.put.ensures);
      others = put_beside old.outgoing.items c.from.result cpu put c.from.ensures;
    }
