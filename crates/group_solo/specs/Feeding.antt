-- When the machine of a group can be fed with events, one after the other.
use Rattle.std.specs.Prelude.{ℕ, List, [], ◌∷◌, IsSomeAnd}
use Rattle.kernel_model.specs.Application.{Application}
use Rattle.group_model.specs.Group.{Answered, Group, step}
use Rattle.group_model.specs.declared.group_event.GroupEvent.{GroupEvent}
use Rattle.group_solo.specs.Standing.{IsGroup, app_in}
use Rattle.group_solo.specs.Stepping.{HasNumber, HasRoom}
use Rattle.group_solo.specs.declared.group.GroupSolo.{GroupSolo}

-- the machine finds a number for the event, if it is a call that comes in, and room for the steps that it takes on
pub record IsFine (most : ℕ) (g : Group) (event : GroupEvent) : Type 0 where
  pub number : HasNumber g.entered event
  pub room : HasRoom most g event

-- each event is fine and can come, when those before it have come. A job takes at most so many steps to its stop
abbrev pub CanBeFed : ℕ → Application → Group → List GroupEvent → Type 0
CanBeFed most app g [] = Unit {0}
CanBeFed most app g (event ∷ events) =
    IsFine most g event
    × IsSomeAnd (step most app g event) (λ (answered : Answered). CanBeFed most app answered.0 events)

-- the group's code can be fed with these from now on
pub record IsFed (s : GroupSolo) (events : List GroupEvent) : Type 0 where
  pub group : Group
  pub is : IsGroup s group
  pub most : ℕ
  pub can : CanBeFed most (app_in s) group events
