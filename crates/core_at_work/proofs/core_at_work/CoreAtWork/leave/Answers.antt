-- What it goes out with is there, and its own.
use Rattle.std.proofs.Common.{arith, sym, ◌∙◌}
use Rattle.core_at_work.proofs.Kept.{left}
use Rattle.core_at_work.proofs.Worked.{kept_as, kept_below, never_none, put_beside}
use Rattle.core_at_work.proofs.core_at_work.CoreAtWork.leave.Goals as goal

pub index_mut-requires : goal.index_mut-requires
index_mut-requires c =
    let old = c.args.self.now in
    let below = kept_below old c.args.cpu c.from.result c.from.ensures c.requires in
    let ok = old.outgoing.ok.0 in
    omega arith

pub unreachable-requires : goal.unreachable-requires
unreachable-requires c =
    never_none c.args.self.now c.args.cpu c.from.result c.index_mut.result.now c.from.ensures c.index_mut.ensures.value c.requires
    (sym c.take.ensures.value ∙ c.in_default.is)

pub leave-regs-requires : goal.leave-regs-requires
leave-regs-requires c =
    let kept = kept_as c.args.self.now c.args.cpu c.from.result c.index_mut.result.now c.from.ensures c.index_mut.ensures.value
    c.requires c.in-Some.ran (sym c.take.ensures.value ∙ c.in-Some.is) in
    kept.can

pub invariant_of-self : goal.invariant_of-self
invariant_of-self c =
    let old = c.args.self.now in
    let kept = kept_as old c.args.cpu c.from.result c.index_mut.result.now c.from.ensures c.index_mut.ensures.value c.requires
    c.in-Some.ran (sym c.take.ensures.value ∙ c.in-Some.is) in
    record {
      own = left old.core c.leave-regs.new.core c.in-Some.ran c.args.lane.now c.leave-regs.new.lane c.leave-regs.result
          old.outgoing.items c.from.result c.take.new.self old.own c.leave-regs.ensures (c.from.ensures ∙ sym kept.its_own)
          c.take.ensures.after;
    }

pub returns : goal.returns
returns c =
    let old = c.args.self.now in
    let ran = c.in-Some.ran in
    let kept = kept_as old c.args.cpu c.from.result c.index_mut.result.now c.from.ensures c.index_mut.ensures.value c.requires
    ran (sym c.take.ensures.value ∙ c.in-Some.is) in
    record {
      ran = ran;
      was = kept.was;
      its_own = kept.its_own;
      can = kept.can;
      has_left = c.leave-regs.ensures;
      panic = c.panic-panic.ensures;
      others = put_beside old.outgoing.items c.from.result c.args.cpu c.take.new.self c.from.ensures;
    }
