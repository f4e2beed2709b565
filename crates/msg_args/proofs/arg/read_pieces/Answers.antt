use Rattle.std.proofs.Common.{true, ◌≡◌, ℕ, [], get_or, below_more}
use Rattle.msg_args.specs.Reading.{has_attribute}
use Rattle.msg_args.proofs.Params.{read_more, bad_is_refused, good_are_read}
use Rattle.msg_args.proofs.arg.read_pieces.Goals as goal

pub loop-number-preserved : goal.loop-number-preserved
loop-number-preserved c =
    let more = read_more c.args.spelled.now c.loop-number.number _ _ _ _ c.loop-number-test.true c.read.ensures c.in-Some.is c.loop-number.invariant.0 c.push.ensures.items in
    (more.0, below_more (λ (k : ℕ). has_attribute (get_or c.args.spelled.now k []) ≡ true) _ c.loop-number.invariant.1 more.1)

pub returns-in_default : goal.returns-in_default
returns-in_default c = bad_is_refused c.args.spelled.now c.loop-number.number _ c.loop-number-test.true c.loop-number.invariant.1 c.read.ensures c.in_default.is

pub returns : goal.returns
returns c = good_are_read c.args.spelled.now c.loop-number.number c.loop-number.params.items c.loop-number-test.false c.loop-number.invariant.1 c.loop-number.invariant.0
