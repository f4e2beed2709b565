use Rattle.std.proofs.Common.{◌<◌, false, length, get_or, arith}
use Rattle.std.proofs.lemmas.List.{get_or_default}
use Rattle.ta_asm.proofs.Output.{target_more}
use Rattle.ta_asm.proofs.disassembler.mark_targets.Goals as goal

pub loop-instr-preserved : goal.loop-instr-preserved
loop-instr-preserved c = λ k lt.
    let i = c.loop-instr.instr-index in
    let within : i < length c.args.code.now = omega arith in
    let before : k < length c.loop-instr.marks = omega (arith, lt) in
    target_more c.args.code.now i k _ (get_or c.args.marks.now k false) (get_or c.loop-instr.marks k false) (get_or c.mark_target.new.marks k false) within (get_or_default c.args.code.now i _ _ within) (c.loop-instr.invariant k before) (c.mark_target.ensures k lt)
