use Rattle.std.proofs.Common.{◌≡◌, drop, length}
use Rattle.std.specs.List.{AllByRecursion}
use Rattle.ns_ram.specs.Writes.{IsWriteOfRam, lane_after}
use Rattle.smc_port.proofs.listed_port.put_all.Given as goal

abbrev pub invariant-loop-write : goal.invariant-loop-write
invariant-loop-write l =
    (lane_after l.lane (drop l.write-index l.writes) ≡ lane_after l.fn.lane l.writes)
    × (AllByRecursion IsWriteOfRam (drop l.write-index l.writes) → AllByRecursion IsWriteOfRam l.writes)
    × (length l.fn.lane ≡ 0x400000 → length l.lane ≡ 0x400000)
