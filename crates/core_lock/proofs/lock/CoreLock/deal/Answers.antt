use Rattle.std.proofs.Common.{◌+◌, refl, sym, ap, ◌∙◌, subst, arith}
use Rattle.std.specs.Prelude.{All, map}
use Rattle.core_lock.specs.Counts.{numbers_from}
use Rattle.core_lock.specs.Passes.{number}
use Rattle.core_lock.proofs.Dealing.{IsNew, IsDealt, deals, deals_last, new_idle, new_unused}
use Rattle.core_lock.proofs.lock.CoreLock.deal.Goals as goal

pub loop-number-preserved : goal.loop-number-preserved
loop-number-preserved g c =
    let i = c.loop-number.invariant in
    let s = c.split-others.ensures in
    let p = c.push_reserved.ensures in (
      subst (IsDealt g.T.Logged.maker g.T.Logged.basis c.args.self.now (c.loop-number.number + 1) c.split-others.result) (sym p.items)
          (deals g.T.Logged.maker g.T.Logged.basis c.args.self.now c.loop-number.number (c.loop-number.number + 1) _ _ _ _ (omega arith) i.0 (omega arith) s.same.0.0 s.same.1 s.cut.0 s.cut.1 refl),
      omega arith,
      omega arith,
    )

pub returns-clause-numbers : goal.returns-clause-numbers
returns-clause-numbers g c =
    let i = c.loop-number.invariant in
    let last = deals_last g.T.Logged.maker g.T.Logged.basis c.args.self.now c.loop-number.number _ (record { number = c.loop-number.number; seat = c.loop-number.rest }) i.0 (omega arith) refl in
    ap (map number) c.push_reserved-2.ensures.items ∙ (last.0 ∙ ap (numbers_from 0) (sym c.requires.count.0))

pub returns-clause-passes : goal.returns-clause-passes
returns-clause-passes g c =
    let i = c.loop-number.invariant in
    let last = deals_last g.T.Logged.maker g.T.Logged.basis c.args.self.now c.loop-number.number _ (record { number = c.loop-number.number; seat = c.loop-number.rest }) i.0 (omega arith) refl in
    let passes = subst (All (IsNew g.T.Logged.maker g.T.Logged.basis c.args.self.now)) (sym c.push_reserved-2.ensures.items) last.1 in
    (new_idle g.T.Logged.maker g.T.Logged.basis c.args.self.now _ passes, new_unused g.T.Logged.maker g.T.Logged.basis c.args.self.now _ passes)
