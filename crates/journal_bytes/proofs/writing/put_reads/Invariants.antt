use Rattle.std.proofs.Common.{◌≡◌, ◌++◌, take}
use Rattle.std.specs.List.{flat_map}
use Rattle.journal_bytes.specs.Spelling.{read_bytes}
use Rattle.journal_bytes.proofs.writing.put_reads.Given as goal

abbrev pub invariant-loop-read : goal.invariant-loop-read
invariant-loop-read l = l.out.items ≡ l.initial.out.items ++ flat_map read_bytes (take l.read-index l.reads)
