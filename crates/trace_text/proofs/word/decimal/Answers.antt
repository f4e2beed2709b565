use Rattle.std.proofs.Common.{◌<◌, length, sym, ◌∙◌, arith}
use Rattle.std.proofs.lemmas.Bool.Decides.{nat_tests}
use Rattle.trace_text.proofs.Digits.{one_more, saturated, decimal_done}
use Rattle.trace_text.proofs.word.decimal.Goals as goal

pub loop-byte-preserved : goal.loop-byte-preserved
loop-byte-preserved c =
    let so_far = c.loop-byte.invariant in
    let more = one_more 10 c.args.word.now c.loop-byte.byte-index c.from.result (omega arith) c.loop-byte-test.true so_far.0 (c.from.ensures ∙ c.digit_of-digit.ensures) (omega arith) in
    (more.0, saturated _ _ _ _ _ c.from.result so_far.1 c.saturating_mul.ensures c.saturating_add-number.ensures more.1)

pub returns : goal.returns
returns c =
    let some : 0 < length c.args.word.now = grind (arith, nat_tests) in
    decimal_done c.args.word.now c.loop-byte.byte-index c.loop-byte.number c.loop-byte-test.false some (sym c.if-has_leading_zero.ensures) c.loop-byte.invariant
