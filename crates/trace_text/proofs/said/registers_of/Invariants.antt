use Rattle.std.proofs.Common.{◌≡◌, ◌+◌, ◌++◌, length, map, take}
use Rattle.std.specs.List.{list_all}
use Rattle.trace_text.specs.Forms.{is_register, register}
use Rattle.trace_text.proofs.said.registers_of.Given as goal

abbrev pub invariant-loop-reg : goal.invariant-loop-reg
invariant-loop-reg l = record {
  whole : length l.reg-items ≡ 8;
  left : l.reg-index + length l.words ≡ 8;
  forms : list_all is_register l.words ≡ list_all is_register l.fn.words;
  read : take l.reg-index l.reg-items ++ map register l.words ≡ map register l.fn.words;
}
