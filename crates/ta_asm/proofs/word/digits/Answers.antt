use Rattle.std.proofs.Common.{◌<◌, length, arith}
use Rattle.std.proofs.lemmas.Bool.Decides.{nat_tests}
use Rattle.ta_asm.proofs.Digits.{one_more, capped, done}
use Rattle.ta_asm.proofs.word.digits.Goals as goal

pub loop-byte-preserved : goal.loop-byte-preserved
loop-byte-preserved c =
    let so_far = c.loop-byte.invariant in
    let more = one_more c.args.radix c.args.word.now c.loop-byte.byte-index c.from.result c.in_ok-digit.digit c.loop-byte-test.true so_far.0 c.from.ensures c.in_ok-digit.ensures.value in (
      more.0,
      capped c.args.radix _ _ c.in_ok-digit.digit _ _ _ _ (omega arith) so_far.1 more.1 c.from-in-loop-byte.ensures c.from-in-loop-byte-2.ensures c.min-number.ensures,
    )

pub returns-then-number-lt-LIMIT : goal.returns-then-number-lt-LIMIT
returns-then-number-lt-LIMIT c =
    let some : 0 < length c.args.word.now = grind (arith, nat_tests) in
    (done c.args.radix c.args.word.now c.loop-byte.byte-index c.loop-byte.number c.loop-byte-test.false some c.loop-byte.invariant).0 c.if-number-lt-LIMIT.true
