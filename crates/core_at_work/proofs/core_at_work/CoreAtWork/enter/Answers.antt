-- It comes in to the core, and its work is kept; or it doesn't.
use Rattle.std.proofs.Common.{◌<◌, ℕ, length, Option, Some, ap, arith, refl, sym, subst, ◌∙◌}
use Rattle.std.proofs.lemmas.Result.{err_from_is_err_and}
use Rattle.std.specs.Prelude.{slice_set}
use Rattle.std.specs.Option.{is_some, option_and_then, option_map}
use Rattle.core_at_work.proofs.Kept.{as_before, entered, refused_as_before}
use Rattle.core_at_work.proofs.Stand.{has_inside, outside_below}
use Rattle.core_at_work.proofs.Worked.{put_beside, put_there, refused}
use Rattle.core_at_work.specs.declared.core_at_work.CoreAtWork.{CoreAtWork}
use Rattle.kernel_entry.specs.Visiting.{coming_of}
use Rattle.kernel_state.specs.declared.work.Ran.{Ran}
use Rattle.core_at_work.proofs.core_at_work.CoreAtWork.enter.Goals as goal

pub invariant_of-self : goal.invariant_of-self
invariant_of-self c =
    let old = c.args.self.now in
    record {
      own = as_before old.core c.enter.new.core old.outgoing.items
          (refused_as_before old.core c.enter.new.core (coming_of c.args.visitor) c.args.lane.now c.in_err-work.field-0.0
          c.in_err-work.ensures) old.own;
    }

pub returns-in_err-work : goal.returns-in_err-work
returns-in_err-work c =
    let old = c.args.self.now in
    let told = err_from_is_err_and c.from_residual.result c.from_residual.ensures.1 in
    let new : CoreAtWork = record {
      core = c.enter.new.core;
      outgoing = old.outgoing;
      own = as_before old.core c.enter.new.core old.outgoing.items
          (refused_as_before old.core c.enter.new.core (coming_of c.args.visitor) c.args.lane.now c.in_err-work.field-0.0
          c.in_err-work.ensures) old.own;
    } in
    rw (told.1, told.2) (refused old new c.args.visitor c.args.lane.now c.in_err-work.field-0.0 c.in_err-work.ensures
    (λ cpu. refl))

pub index_mut-requires : goal.index_mut-requires
index_mut-requires c =
    let old = c.args.self.now in
    let below = outside_below old.core old.outgoing.items old.own c.args.visitor.cpu c.requires.outside in
    let same = c.from.ensures in
    let ok = old.outgoing.ok.0 in
    omega arith

pub invariant_of-self-2 : goal.invariant_of-self-2
invariant_of-self-2 c =
    let old = c.args.self.now in
    record {
      own = entered old.core c.enter.new.core (coming_of c.args.visitor) c.args.lane.now c.in_ok-work.work c.run.result
          old.outgoing.items c.from.result c.put.new.kept old.own c.in_ok-work.ensures c.run.ensures c.from.ensures
          c.put.ensures;
    }

pub returns : goal.returns
returns c =
    let old = c.args.self.now in
    let cpu = c.args.visitor.cpu in
    let put = c.put.new.kept in
    let below = subst (λ (n : ℕ). n < length old.outgoing.items) (sym c.from.ensures)
    (outside_below old.core old.outgoing.items old.own cpu c.requires.outside) in
    let have = entered old.core c.enter.new.core (coming_of c.args.visitor) c.args.lane.now c.in_ok-work.work c.run.result
    old.outgoing.items c.from.result put old.own c.in_ok-work.ensures c.run.ensures c.from.ensures c.put.ensures in
    let there = put_there old.outgoing.items c.from.result cpu put c.from.ensures below in
    record {
      work = c.in_ok-work.work;
      entered = c.in_ok-work.ensures;
      ran = c.run.result;
      has_run = c.run.ensures;
      kept = ap (option_and_then (λ (k : Option Ran). k)) there ∙ c.put.ensures;
      inside = has_inside c.enter.new.core (slice_set old.outgoing.items c.from.result put) have cpu
          (ap (option_map is_some) there ∙ ap (λ (kept : Option Ran). Some (is_some kept)) c.put.ensures);
      others = put_beside old.outgoing.items c.from.result cpu put c.from.ensures;
    }
