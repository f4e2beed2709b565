-- The port has not ended, it has counted no fault, and the turns so far were taken.
use Rattle.std.proofs.Common.{◌≡◌, None}
use Rattle.live_play.specs.Answer.{platform}
use Rattle.live_runner.proofs.Talked.{Going}
use Rattle.native_tas.specs.Table.{drivers, entries}
use Rattle.live_runner.proofs.conversing.live.Given as goal

abbrev pub invariant-loop : goal.invariant-loop
invariant-loop g l = record {
  going_on : g.P.Port.finish l.port ≡ None;
  faultless : g.P.Port.faults l.port ≡ g.P.Port.faults l.fn.port;
  going : Going (platform (entries l.natives) (drivers l.natives)) (g.P.Port.told l.fn.port) (g.P.Port.told l.port) l.talk;
}
