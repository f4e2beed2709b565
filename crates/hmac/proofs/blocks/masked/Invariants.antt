use Rattle.std.proofs.Common.{◌≡◌, ◌++◌, drop, take}
use Rattle.hmac.specs.Hmac.{masked}
use Rattle.hmac.proofs.blocks.masked.Given as goal

abbrev pub invariant-loop-byte : goal.invariant-loop-byte
invariant-loop-byte l = l.byte-items ≡ masked l.pad (take l.byte-index l.fn.block) ++ drop l.byte-index l.fn.block
