use Rattle.std.proofs.Common.{refl, ◌∙◌}
use Rattle.core_lock.proofs.Passing.{after_back, still_of, made_more}
use Rattle.core_lock.proofs.lock.CoreLock.give_back.Goals as goal

pub returns-clause-own : goal.returns-clause-own
returns-clause-own g c =
    let p = c.args.pass.now in
    let value = c.args.turn.value in
    let back = after_back g.T.Logged.entries g.T.Logged.maker p.seat.me c.put.new.seat.me c.count.new.seat.me c.serve.new.seat.me value c.put.ensures.value c.count.ensures.value c.serve.ensures.ended in
    still_of g.T.Logged.entries g.T.Logged.maker g.T.Logged.basis c.args.self.now p (record { number = p.number; seat = c.serve.new.seat }) (g.T.Logged.entries value) c.requires.own
    (c.serve.ensures.same.0 ∙ (c.count.ensures.same.0 ∙ c.put.ensures.same.0)) refl back.0

pub returns-clause-more : goal.returns-clause-more
returns-clause-more g c more is =
    let p = c.args.pass.now in
    let value = c.args.turn.value in
    let back = after_back g.T.Logged.entries g.T.Logged.maker p.seat.me c.put.new.seat.me c.count.new.seat.me c.serve.new.seat.me value c.put.ensures.value c.count.ensures.value c.serve.ensures.ended in
    made_more g.T.Logged.entries g.T.Logged.maker g.T.Logged.basis c.args.self.now p (record { number = p.number; seat = c.serve.new.seat }) (g.T.Logged.entries value) more c.requires.own back.0 back.1 is
    c.requires.entries.0 c.requires.entries.1 c.requires.entries.2
