use Rattle.std.proofs.Common.{◌≡◌, take}
use Rattle.base.specs.Zeros.{zeros}
use Rattle.play_model.specs.Play.{filled}
use Rattle.core_machine.proofs.filling.first_lane.Given as goal

-- the fills so far stand there
abbrev pub invariant-loop-fill : goal.invariant-loop-fill
invariant-loop-fill l = l.lane ≡ filled (zeros 0x400000) (take l.fill-index l.fills)
