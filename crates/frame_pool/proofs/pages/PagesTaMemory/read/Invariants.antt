use Rattle.std.proofs.Common.{◌≡◌, ◌-◌, ◌≤◌, drop, length, take}
use Rattle.frame_pool.proofs.pages.PagesTaMemory.read.Given as goal

abbrev pub invariant-loop-done : goal.invariant-loop-done
invariant-loop-done l = record { bytes : take l.done l.out ≡ take l.done (drop l.addr l.self); most : l.done ≤ length l.out }

abbrev pub decreases-loop-done : goal.decreases-loop-done
decreases-loop-done l = length l.initial.out - l.done
