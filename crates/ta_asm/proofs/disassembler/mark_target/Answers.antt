use Rattle.std.proofs.Common.{refl, ◌∙◌, eq-eqb}
use Rattle.std.proofs.lemmas.Bool.{and_from}
use Rattle.ta_asm.proofs.disassembler.mark_target.Goals as goal

pub bounds-marks-instr : goal.bounds-marks-instr
bounds-marks-instr c = c.requires c.args.instr.imm (c.has_target.ensures c.args.instr.imm ∙ and_from _ _ c.if-has_target.true (eq-eqb c.args.instr.imm c.args.instr.imm refl))
