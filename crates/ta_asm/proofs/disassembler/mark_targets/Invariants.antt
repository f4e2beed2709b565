use Rattle.std.proofs.Common.{◌≡◌, ℕ, ◌<◌, ◌||◌, false, length, get_or, take}
use Rattle.std.specs.List.{list_any}
use Rattle.ta_asm.specs.Canonical.{targets}
use Rattle.ta_asm.proofs.disassembler.mark_targets.Given as goal

abbrev pub invariant-loop-instr : goal.invariant-loop-instr
invariant-loop-instr l = (k : ℕ) → k < length l.marks → get_or l.marks k false ≡ (get_or l.initial.marks k false || list_any (targets k) (take l.instr-index l.code))
