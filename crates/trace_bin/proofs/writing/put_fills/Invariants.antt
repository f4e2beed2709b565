use Rattle.std.proofs.Common.{◌≡◌, ◌++◌, take}
use Rattle.std.specs.List.{flat_map}
use Rattle.trace_bin.specs.Spelling.{fill_record}
use Rattle.trace_bin.proofs.writing.put_fills.Given as goal

abbrev pub invariant-loop-fill : goal.invariant-loop-fill
invariant-loop-fill l = l.out.items ≡ l.initial.out.items ++ flat_map fill_record (take l.fill-index l.fills)
