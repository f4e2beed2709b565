use Rattle.std.proofs.Common.{◌≡◌, ◌++◌, take}
use Rattle.std.specs.List.{flat_map}
use Rattle.trace_bin.specs.Spelling.{register_bytes}
use Rattle.trace_bin.proofs.writing.put_call.Given as goal

abbrev pub invariant-loop-reg : goal.invariant-loop-reg
invariant-loop-reg l = l.out.items ≡ l.initial.out.items ++ flat_map register_bytes (take l.reg-index l.regs)
