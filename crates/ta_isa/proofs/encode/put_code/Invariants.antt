use Rattle.std.proofs.Common.{◌≡◌, ◌++◌, take}
use Rattle.std.specs.List.{flat_map}
use Rattle.ta_isa.specs.Spelling.{instruction}
use Rattle.ta_isa.proofs.encode.put_code.Given as goal

abbrev pub invariant-loop-instr : goal.invariant-loop-instr
invariant-loop-instr l = l.out.items ≡ l.initial.out.items ++ flat_map instruction (take l.instr-index l.code)
