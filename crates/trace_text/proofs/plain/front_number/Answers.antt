use Rattle.std.proofs.Common.{ℕ, ◌*◌, ap, ◌∙◌, arith}
use Rattle.trace_text.proofs.Digits.{one_more}
use Rattle.trace_text.proofs.PlainLines.{number_cut, room_for_one}
use Rattle.trace_text.proofs.plain.front_number.Goals as goal

pub returns-then-digit-radix : goal.returns-then-digit-radix
returns-then-digit-radix c =
    let so_far = c.loop-count.invariant in
    number_cut c.args.radix c.args.line.now c.loop-count.count c.loop-count.number c.requires so_far.digits so_far.value (omega arith) so_far.few c.loop-count-test.true c.if-byte-ne32.false

pub overflow_mul-number : goal.overflow_mul-number
overflow_mul-number c =
    let so_far = c.loop-count.invariant in
    let small = room_for_one c.args.radix c.args.line.now c.loop-count.count c.loop-count.number c.requires (omega arith) so_far.digits so_far.value in
    omega (arith, small, ap (λ (r : ℕ). c.loop-count.number * r) c.from.ensures)

pub overflow_add-number : goal.overflow_add-number
overflow_add-number c =
    let so_far = c.loop-count.invariant in
    let small = room_for_one c.args.radix c.args.line.now c.loop-count.count c.loop-count.number c.requires (omega arith) so_far.digits so_far.value in
    omega (arith, small, ap (λ (r : ℕ). c.loop-count.number * r) c.from.ensures, c.from-in-loop-count.ensures)

pub loop-count-preserved : goal.loop-count-preserved
loop-count-preserved c =
    let so_far = c.loop-count.invariant in
    let more = one_more c.args.radix c.args.line.now c.loop-count.count c.from-in-loop-count.result c.requires c.loop-count-test.true so_far.digits (c.from-in-loop-count.ensures ∙ c.digit_of-digit.ensures) (omega arith) in
    record {
      digits = more.0;
      value = omega (arith, more.1, ap (λ (r : ℕ). c.loop-count.number * r) c.from.ensures, ap (λ (n : ℕ). n * c.args.radix) so_far.value);
      few = omega arith;
    }
