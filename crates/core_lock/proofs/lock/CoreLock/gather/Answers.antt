use Rattle.std.proofs.Common.{rules, sym, ap, ◌∙◌, subst}
use Rattle.core_lock.proofs.Gathering.{IsGathered, gathers_first, next_ready, gathers_next, all_tell, some_pass}
use Rattle.core_lock.proofs.lock.CoreLock.gather.Goals as goal

pub unreachable-requires : goal.unreachable-requires
unreachable-requires g c =
    let laid = c.args.self.now.laid in
    some_pass g.T.Logged.maker g.T.Logged.basis c.args.self.now c.args.passes.items c.requires.all laid.2 (search rules)

pub loop-pass-init : goal.loop-pass-init
loop-pass-init g c = subst (IsGathered g.T.Logged.maker g.T.Logged.basis c.args.self.now c.args.passes.items c.pop.new.self.items) (sym c.into_seat-all.ensures)
    (gathers_first g.T.Logged.maker g.T.Logged.basis c.args.self.now c.args.passes.items c.pop.new.self.items c.in-Some.last c.in-Some.ensures.items c.requires.own)

pub join-requires-clause-own : goal.join-requires-clause-own
join-requires-clause-own g c =
    let i = c.loop-pass.invariant in
    let p = next_ready g.T.Logged.maker g.T.Logged.basis c.args.self.now _ _ _ c.in-Some-pop.pass _ i c.in-Some-pop.ensures.items in
    (i.table_is, ap (λ s. s.table_id) c.into_seat.ensures ∙ p.0.table_is)

pub join-requires-clause-outside : goal.join-requires-clause-outside
join-requires-clause-outside g c =
    let i = c.loop-pass.invariant in
    let p = next_ready g.T.Logged.maker g.T.Logged.basis c.args.self.now _ _ _ c.in-Some-pop.pass _ i c.in-Some-pop.ensures.items in
    (i.outside, ap (λ s. s.me.0.stand) c.into_seat.ensures ∙ p.1.0, ap (λ s. s.me.1) c.into_seat.ensures ∙ p.1.1, i.recorded)

pub loop-pass-preserved : goal.loop-pass-preserved
loop-pass-preserved g c =
    let i = c.loop-pass.invariant in
    let j = c.join.ensures in
    gathers_next g.T.Logged.maker g.T.Logged.basis c.args.self.now _ _ c.pop-in-loop-pass.new.self.items c.in-Some-pop.pass c.loop-pass.all c.into_seat.result c.join.new.seat i
    c.in-Some-pop.ensures.items c.into_seat.ensures j.same.0 j.joined

pub returns-clause-tells : goal.returns-clause-tells
returns-clause-tells g c = all_tell g.T.Logged.maker g.T.Logged.basis c.args.self.now c.args.passes.items c.loop-pass.passes.items c.loop-pass.all c.loop-pass.invariant (search rules)
