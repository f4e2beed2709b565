use Rattle.std.proofs.Common.{◌≡◌, ◌++◌, drop}
use Rattle.ta_isa.specs.declared.image.Image.{Image}
use Rattle.ta_asm.specs.Canonical.{code_lines, text_of}
use Rattle.ta_asm.specs.Reading.{IsMarked}
use Rattle.ta_asm.proofs.disassembler.put_code.Given as goal

abbrev pub invariant-loop-place : goal.invariant-loop-place
invariant-loop-place l = (image : Image) → IsMarked image l.marks → image.code ≡ l.code → l.out.items ++ text_of (code_lines image l.place (drop l.place l.code)) ≡ l.initial.out.items ++ text_of (code_lines image 0 l.code)
