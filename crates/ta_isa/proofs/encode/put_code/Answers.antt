use Rattle.std.proofs.Common.{refl}
use Rattle.ta_isa.specs.Spelling.{instruction}
use Rattle.ta_isa.proofs.Words.{put_next}
use Rattle.ta_isa.proofs.encode.put_code.Goals as goal

pub loop-instr-preserved : goal.loop-instr-preserved
loop-instr-preserved c =
    put_next instruction c.args.code.now c.loop-instr.instr-index _ record { op = 0; d = 0; a = 0; b = 0; imm = 0 } c.args.out.now.items c.loop-instr.out.items _ c.loop-instr-test.true refl c.loop-instr.invariant c.in_ok-put_instruction.ensures
