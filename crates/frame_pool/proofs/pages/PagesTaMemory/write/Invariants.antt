use Rattle.std.proofs.Common.{◌≡◌, ◌-◌, ◌≤◌, length, take}
use Rattle.base.specs.Bytes.{overwritten}
use Rattle.frame_pool.proofs.pages.PagesTaMemory.write.Given as goal

abbrev pub invariant-loop-done : goal.invariant-loop-done
invariant-loop-done l = record { bytes : l.self ≡ overwritten l.initial.self l.addr (take l.done l.part); most : l.done ≤ length l.part }

abbrev pub decreases-loop-done : goal.decreases-loop-done
decreases-loop-done l = length l.part - l.done
