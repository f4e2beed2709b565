use Rattle.std.proofs.Common.{◌≡◌, replicate}
use Rattle.base.specs.Zeros.{zeros}
use Rattle.play_model.specs.Play.{filled}
use Rattle.core_machine.proofs.filling.first_lanes.Given as goal

-- each processor so far has its RAM
abbrev pub invariant-loop : goal.invariant-loop
invariant-loop l = l.lanes.items ≡ replicate l.counter (filled (zeros 0x400000) l.fn.fills)
