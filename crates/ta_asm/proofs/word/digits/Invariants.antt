use Rattle.std.proofs.Common.{◌≡◌, min, take}
use Rattle.std.specs.Str.Parse.{AllDigits, digits_value}
use Rattle.ta_asm.proofs.word.digits.Given as goal

abbrev pub invariant-loop-byte : goal.invariant-loop-byte
invariant-loop-byte l = AllDigits l.radix (take l.byte-index l.word) × (l.number ≡ min 4294967296 (digits_value l.radix (take l.byte-index l.word)))
