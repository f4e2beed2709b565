use Rattle.std.proofs.Common.{◌≡◌, refl, sym, ◌∙◌, inr, arith}
use Rattle.ta_isa.proofs.ReadInstructions.{IsReadTo-none, IsReadTo-more, instruction_at-rest, first_bad-met, first_bad-none, code_of-counted}
use Rattle.ta_isa.proofs.decode.read_code.Goals as goal

pub loop-number-init : goal.loop-number-init
loop-number-init c = IsReadTo-none c.args.bytes.now c.args.count c.in_ok-code.code.items c.in_ok-code.ensures.items

pub returns-then-not-is_valid-clause-bad : goal.returns-then-not-is_valid-clause-bad
returns-then-not-is_valid-clause-bad c =
    let i = instruction_at-rest c.args.bytes.now c.loop-number.number c.read-instr.result c.read-instr.ensures in
    let e = first_bad-met c.args.bytes.now c.args.count c.loop-number.number c.loop-number.code.items c.read-instr.result c.requires c.loop-number-test.true c.loop-number.invariant i c.if-not-is_valid.ensures in
    inr (rw e refl)

pub loop-number-preserved : goal.loop-number-preserved
loop-number-preserved c =
    let i = instruction_at-rest c.args.bytes.now c.loop-number.number c.read-instr.result c.read-instr.ensures in
    rw c.in_ok-push.ensures.items (IsReadTo-more c.args.bytes.now c.args.count c.loop-number.number c.loop-number.code.items c.read-instr.result c.loop-number.invariant i c.if-not-is_valid.ensures)

pub returns-clause-good : goal.returns-clause-good
returns-clause-good c =
    let e : c.loop-number.number ≡ c.args.count = omega arith in
    let read = rw e at c.loop-number.invariant in
    first_bad-none c.args.bytes.now c.args.count c.loop-number.code.items c.requires read

pub returns-clause-read : goal.returns-clause-read
returns-clause-read c =
    let e : c.loop-number.number ≡ c.args.count = omega arith in
    let read = rw e at c.loop-number.invariant in
    read.read ∙ sym (code_of-counted c.args.bytes.now c.args.count c.requires)
