-- What of the lines so far the rules of the next one look at.
use Rattle.std.specs.Prelude.{◌≡◌, Bool, IfNone}
use Rattle.live_text.specs.Rules.{LiveFront}
use Rattle.notify_text.specs.Statement.{IsEmpty}
use Rattle.notify_text.specs.Statement as told
use Rattle.trace_text.specs.Limits.{SceneState}

pub record LiveScene : Type 0 where
  -- of the trace with signals
  pub lines : SceneState
  -- history is off
  pub forgets : Bool

abbrev pub scene_of : LiveFront → LiveScene
scene_of front = record { lines = told.scene_of front.told; forgets = front.forgets }

-- the scene stands for these lines
abbrev pub IsSceneOf : LiveScene → LiveFront → Type 0
IsSceneOf scene front = scene ≡ scene_of front

-- without a boot there is nothing of a trace
abbrev pub HasItsBoot : LiveFront → Type 0
HasItsBoot front = IfNone front.told.trace.boot (IsEmpty front.told)
