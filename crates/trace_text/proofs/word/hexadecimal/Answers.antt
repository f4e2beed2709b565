use Rattle.std.proofs.Common.{◌<◌, length, ◌∙◌, arith}
use Rattle.std.proofs.lemmas.Bool.Decides.{nat_tests}
use Rattle.trace_text.proofs.Digits.{room, one_more, hexadecimal_done}
use Rattle.trace_text.proofs.word.hexadecimal.Goals as goal

pub overflow_mul-number : goal.overflow_mul-number
overflow_mul-number c =
    let below = room c.args.word.now c.loop-byte.byte-index (omega arith) c.loop-byte.invariant.0 in
    omega (arith, below, c.loop-byte.invariant.1)

pub overflow_add-number : goal.overflow_add-number
overflow_add-number c =
    let below = room c.args.word.now c.loop-byte.byte-index (omega arith) c.loop-byte.invariant.0 in
    omega (arith, below, c.loop-byte.invariant.1, c.from.ensures)

pub loop-byte-preserved : goal.loop-byte-preserved
loop-byte-preserved c =
    let so_far = c.loop-byte.invariant in
    let more = one_more 16 c.args.word.now c.loop-byte.byte-index c.from.result (omega arith) c.loop-byte-test.true so_far.0 (c.from.ensures ∙ c.digit_of-digit.ensures) (omega arith) in
    (more.0, omega (arith, more.1, so_far.1))

pub returns : goal.returns
returns c =
    let some : 0 < length c.args.word.now = grind (arith, nat_tests) in
    hexadecimal_done c.args.most c.args.word.now c.loop-byte.byte-index c.loop-byte.number c.loop-byte-test.false some (omega arith) c.loop-byte.invariant
