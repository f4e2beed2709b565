-- It is there, and its own.
use Rattle.std.proofs.Common.{arith}
use Rattle.core_at_work.proofs.Worked.{kept_as, kept_below, never_none}
use Rattle.core_at_work.proofs.core_at_work.CoreAtWork.outgoing.Goals as goal

pub index-requires : goal.index-requires
index-requires c =
    let old = c.args.self.now in
    let below = kept_below old c.args.cpu c.from.result c.from.ensures c.requires in
    let ok = old.outgoing.ok.0 in
    omega arith

pub unreachable-requires : goal.unreachable-requires
unreachable-requires c =
    never_none c.args.self.now c.args.cpu c.from.result c.index.result.now c.from.ensures c.index.ensures c.requires
    c.in-None.is

pub returns : goal.returns
returns c =
    let found = kept_as c.args.self.now c.args.cpu c.from.result c.index.result.now c.from.ensures c.index.ensures
    c.requires c.in-Some.ran c.in-Some.is in
    record { kept = found.was; own = found.its_own; can = found.can }
