use Rattle.std.proofs.Common.{refl, sym, ◌∙◌}
use Rattle.session_compare.proofs.Comparisons.{comes_ahead, meets_next, met_replies, none_in, not_both, pushes, stands_apart}
use Rattle.session_compare.proofs.differing.Comparison.take.Goals as goal

pub returns-then-self-clause-events : goal.returns-then-self-clause-events
returns-then-self-clause-events g c its other stands =
    stands_apart c.args.side c.args.self.now its other c.args.event c.args.self.now.differ c.if-self.true stands

pub returns-then-is_same_side-clause-events : goal.returns-then-is_same_side-clause-events
returns-then-is_same_side-clause-events g c its other stands =
    let old = c.args.self.now in
    pushes c.args.side old its other c.args.event c.if-self.false stands (record old { more = c.push_back.new.self })
    (c.is_same_side.ensures.0 c.if-is_same_side.true) c.in_ok-push_back.ensures.items refl refl refl

pub returns-in-Some-clause-events : goal.returns-in-Some-clause-events
returns-in-Some-clause-events g c its other stands =
    let old = c.args.self.now in
    meets_next c.args.side old its other c.args.event c.if-self.false stands
    (λ same. not_both c.is_same_side.result c.if-is_same_side.false (c.is_same_side.ensures.1 same))
    (record old { more = c.pop_front.new.self }) c.meets.new.self c.in-Some.other c.is_same-is_same.result c.meets.result c.is_same-is_same.ensures
    (record { on_same = c.meets.ensures.same; on_other = c.meets.ensures.other }) refl c.in-Some.ensures.items

pub returns-in_ok-push_back-in-None-clause-events : goal.returns-in_ok-push_back-in-None-clause-events
returns-in_ok-push_back-in-None-clause-events g c its other stands =
    let old = c.args.self.now in
    let none = c.in-None.ensures.cases in
    comes_ahead c.args.side old its other c.args.event c.if-self.false stands
    (λ same. not_both c.is_same_side.result c.if-is_same_side.false (c.is_same_side.ensures.1 same))
    (record old { ahead = c.args.side; more = c.push_back-in-None.new.self }) c.pop_front.new.self.items
    (none_in old.more.items (sym old.more.ok.0 ∙ none.0)) (none_in c.pop_front.new.self.items (sym c.pop_front.new.self.ok.0 ∙ none.1))
    c.in_ok-push_back-in-None.ensures.items refl refl refl

pub returns-in-Some-clause-replies : goal.returns-in-Some-clause-replies
returns-in-Some-clause-replies g c =
    met_replies (record c.args.self.now { more = c.pop_front.new.self }) c.meets.new.self c.is_same-is_same.result c.meets.result
    (record { on_same = c.meets.ensures.same; on_other = c.meets.ensures.other })
