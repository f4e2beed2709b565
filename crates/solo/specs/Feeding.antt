-- When the machine of a session can be fed with events, one after the other.
use Rattle.std.specs.Prelude.{ℕ, List, [], ◌∷◌, IsSomeAnd}
use Rattle.kernel_model.specs.Application.{Application}
use Rattle.own_model.specs.Solo.{Answered, Solo, step}
use Rattle.own_model.specs.declared.own_event.OwnEvent.{OwnEvent}
use Rattle.solo.specs.Standing.{IsSolo, app_in}
use Rattle.solo.specs.Stepping.{HasNumber, HasRoom}
use Rattle.solo.specs.declared.solo_session.SoloSession.{SoloSession}

-- the machine finds a number for the event, if it is a call that comes in, and room for the steps that it takes on
pub record IsFine (most : ℕ) (solo : Solo) (event : OwnEvent) : Type 0 where
  pub number : HasNumber solo.entered event
  pub room : HasRoom most solo event

-- each event is fine and can come, when those before it have come. A job takes at most so many steps to its stop
abbrev pub CanBeFed : ℕ → Application → Solo → List OwnEvent → Type 0
CanBeFed most app solo [] = Unit {0}
CanBeFed most app solo (event ∷ events) =
    IsFine most solo event
    × IsSomeAnd (step most app solo event) (λ (answered : Answered). CanBeFed most app answered.0 events)

-- the session's code can be fed with these from now on
pub record IsFed (session : SoloSession) (events : List OwnEvent) : Type 0 where
  pub solo : Solo
  pub is : IsSolo session solo
  pub most : ℕ
  pub can : CanBeFed most (app_in session) solo events
