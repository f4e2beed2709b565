-- What holds of the calls of a client on a core.
use Rattle.std.specs.Prelude.{◌≡◌, ◌↔◌, ℕ, ◌++◌, List, Some}
use Rattle.std.specs.List.{AllByRecursion, flat_map}
use Rattle.ns_ram.specs.Writes.{IsWriteOfRam, lane_after}
use Rattle.smc_port.specs.Smc.{Smc}
use Rattle.teec.specs.Calls.{Call}
use Rattle.teec.specs.Rounds.{Calls, Ended, Stage}
use Rattle.teec.specs.Runs.{Prepares, Scene}
use Rattle.client_play.specs.Making.{prepared_at}
use Rattle.client_play.specs.Message.{Prepared}
use Rattle.client_play.specs.Served.{AreServed, CallOn, IsMadeOf, Point, events_of, point_of}
use Rattle.client_play.specs.Standing.{Returned, Standing, called}

-- what is there when that is prepared
abbrev pub scene_after : Scene → Prepared → Scene
scene_after scene prepared = record { ram = lane_after scene.ram prepared.writes; storage = prepared.storage }

-- what is written before an SMC, and what the supplicant makes of a message, is what a client does there over any port, and
-- nothing else
abbrev pub PreparesAlike : Type 0
PreparesAlike = (call : Call) (stage : Stage) (old new : Scene) →
    Prepares call stage old new ↔ (new ≡ scene_after old (prepared_at call stage old.ram old.storage))

-- all that was written by SMCs lies in RAM
abbrev pub AreInRam : List Smc → Type 0
AreInRam smcs = AllByRecursion (λ (smc : Smc). AllByRecursion IsWriteOfRam smc.writes) smcs

-- from a stage on just the SMCs come that a client makes, each served by the core, with just its writes and its supplicant's
-- replies between them, and the core's history has their events and no others. A port's SMCs write to RAM alone
pub record MakesAlike (on : CallOn) (from : Point) (new : Standing) : Type 0 where
  pub smcs : List Smc
  pub served : AreServed on.boot from.standing.kernel smcs new.kernel
  pub history : new.history ≡ from.standing.history ++ flat_map events_of smcs
  pub runs : AreInRam smcs → IsMadeOf on from smcs (point_of Ended new)

-- a call that returns is such a run
abbrev pub CallsAreMadeAlike : Type 0
CallsAreMadeAlike = (on : CallOn) (room left : ℕ) (old new : Standing) →
    called on.boot on.cancel_after on.call room old ≡ Some (Returned left new) → MakesAlike on (point_of (Calls 0) old) new
