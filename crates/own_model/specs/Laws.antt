-- What holds of the machine of a session alone.
use Rattle.std.specs.Prelude.{◌≡◌, ℕ, ◌≤◌, List, Some}
use Rattle.kernel_model.specs.Application.{Application}
use Rattle.own_model.specs.declared.own_event.OwnEvent.{OwnEvent}
use Rattle.own_model.specs.declared.own_reply.OwnReply.{OwnReply}
use Rattle.own_model.specs.Solo.{Solo, run, unopened}
use Rattle.own_model.specs.InOrder.{IsInOrder}

-- ---- the machine alone

-- what holds of it at all times: before its open, and after whatever happens to it
pub record StaysInOrder : Type 0 where
  pub first : (key : List ℕ) → IsInOrder (unopened key)
  pub runs : (most : ℕ) (app : Application) (solo then : Solo) (events : List OwnEvent) (replies : List OwnReply) →
      IsInOrder solo → run most app solo events ≡ Some (then, replies) → IsInOrder then

-- given more steps to a job's stop than it takes, it answers the same
abbrev pub MoreStepsAgree : Type 0
MoreStepsAgree = (app : Application) (most more : ℕ) (solo then : Solo) (events : List OwnEvent)
    (replies : List OwnReply) →
    most ≤ more → run most app solo events ≡ Some (then, replies) → run more app solo events ≡ Some (then, replies)
