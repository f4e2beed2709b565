use Rattle.std.proofs.Common.{◌≡◌, take, length}
use Rattle.std.specs.Prelude.{sum_by}
use Rattle.kernel_entry.proofs.carrying.total_bytes.Given as goal

abbrev pub invariant-loop-read : goal.invariant-loop-read
invariant-loop-read l = l.total ≡ sum_by (λ read. length read.bytes) (take l.read-index l.reads)
