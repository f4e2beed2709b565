-- What is heard and said over a port, in its order. This project's own.
use Rattle.std.specs.Prelude.{◌≡◌, ℕ, List, [], ◌∷◌, ◌++◌, Option, Some, None}
use Rattle.line_port.specs.declared.port.Heard.{Heard}
use Rattle.line_port.specs.declared.port.Heard.TheVariants as heard

pub data Input : Type 0 where
  -- a line, without the line feed that ended it
  Line : (bytes : List ℕ) → Input
  -- a line of more than 8,388,736 bytes
  Long : Input
  -- the input ended within a line
  Cut : Input

pub data Event : Type 0 where
  -- this was heard
  Hears : Input → Event
  -- these bytes were said
  Says : (bytes : List ℕ) → Event

-- what a call of `hear` that came to this adds, where this stands in its line
abbrev pub heard_events : Heard → List ℕ → List Event
heard_events heard.Line line = Hears (Line line) ∷ []
heard_events heard.Long line = Hears Long ∷ []
heard_events heard.Cut line = Hears Cut ∷ []
heard_events heard.End line = []
heard_events heard.Failed line = []
heard_events heard.Memory line = []

-- of a port that tells its history: these events stand at the end of it now
abbrev pub Adds : Option (List Event) → Option (List Event) → List Event → Type 0
Adds (Some old) (Some new) events = new ≡ old ++ events
Adds None None events = Unit {0}
Adds (Some old) None events = ⊥
Adds None (Some new) events = ⊥
