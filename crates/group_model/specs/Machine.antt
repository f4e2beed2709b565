-- What holds of the machine of a group alone.
use Rattle.std.specs.Prelude.{◌≡◌, ℕ, ◌≤◌, List, Some}
use Rattle.kernel_model.specs.Application.{Application}
use Rattle.group_model.specs.Group.{Group, nobody_there, run}
use Rattle.group_model.specs.declared.group_event.GroupEvent.{GroupEvent}
use Rattle.group_model.specs.declared.group_reply.GroupReply.{GroupReply}
use Rattle.group_model.specs.InOrder.{IsInOrder}

-- its invariant holds before anybody is there, and after whatever happens to it
pub record StaysInOrder : Type 0 where
  pub first : (key : List ℕ) → IsInOrder (nobody_there key)
  pub runs : (most : ℕ) (app : Application) (g then : Group) (events : List GroupEvent) (replies : List GroupReply) →
      IsInOrder g → run most app g events ≡ Some (then, replies) → IsInOrder then

-- given more steps to a job's stop than it takes, it answers the same
abbrev pub MoreStepsAgree : Type 0
MoreStepsAgree = (app : Application) (most more : ℕ) (g then : Group) (events : List GroupEvent)
    (replies : List GroupReply) →
    most ≤ more → run most app g events ≡ Some (then, replies) → run more app g events ≡ Some (then, replies)
