-- What a port tells of itself, and what becomes of that as lines are heard and answers said. This project's own.
use Rattle.std.specs.Prelude.{◌≡◌, ℕ, List, [], ◌∷◌, Option, IsSome}
use Rattle.std.specs.Io.KnownBytes.{Appends, Consumes, IsAtEnd}
use Rattle.line_port.specs.Gathering.{LosesPart, TakesCut, TakesLong, TakesWhole}
use Rattle.line_port.specs.History.{Adds, Cut, Event, Hears, Input, Line, Long, Says}
use Rattle.line_port.specs.declared.finish.Finish.{Finish}
use Rattle.line_port.specs.declared.finish.Finish.TheVariants as finish
use Rattle.line_port.specs.declared.port.Heard.{Heard}
use Rattle.line_port.specs.declared.port.Heard.TheVariants as heard

-- what was heard and said, in its order; what is left to be heard; and what was written: each where the port tells it
pub record Told : Type 0 where
  pub history : Option (List Event)
  pub left : Option (List ℕ)
  pub held : Option (List ℕ)

-- ---- what happens over it

-- this was heard: it stood at the front of what was left, and is gone
abbrev pub TakesInput : Input → Option (List ℕ) → Option (List ℕ) → Type 0
TakesInput (Line line) before after = TakesWhole line before after
TakesInput Long before after = TakesLong before after
TakesInput Cut before after = TakesCut before after

-- one event: what was heard is gone from what was left, and what was said stands at the end of what was written
abbrev pub Happens : Event → Told → Told → Type 0
Happens (Hears input) old new =
    Adds old.history new.history (Hears input ∷ []) × (IsSome old.left → TakesInput input old.left new.left)
    × (new.held ≡ old.held)
Happens (Says bytes) old new =
    Adds old.history new.history (Says bytes ∷ []) × Appends old.held new.held bytes × (new.left ≡ old.left)

-- several, one after the other
abbrev pub HappenInTurn : List Event → Told → Told → Type 0
HappenInTurn [] old new = new ≡ old
HappenInTurn (event ∷ events) old new = (between : Told) × Happens event old between × HappenInTurn events between new

-- ---- how it ends

-- nothing more was heard, said or written. A fault of reading, or want of memory, may have cost a part of a line, and all else of what
-- was left is left still
pub record StandsStill (old new : Told) : Type 0 where
  pub history : Adds old.history new.history []
  pub left : LosesPart old.left new.left
  pub held : new.held ≡ old.held

-- it came to its end so: where that is the end of the input, nothing was left, and nothing is
abbrev pub Closes : Finish → Told → Told → Type 0
Closes finish.Over old new = StandsStill old new × (IsSome old.left → Consumes old.left new.left [] × IsAtEnd new.left)
Closes finish.ReadFault old new = StandsStill old new
Closes finish.WriteFault old new = new ≡ old
Closes finish.Memory old new = StandsStill old new

-- a call of `hear` came to this, where this stands in its line
abbrev pub HearsAs : Heard → List ℕ → Told → Told → Type 0
HearsAs heard.Line line old new = Happens (Hears (Line line)) old new
HearsAs heard.Long line old new = Happens (Hears Long) old new
HearsAs heard.Cut line old new = Happens (Hears Cut) old new
HearsAs heard.End line old new = Closes finish.Over old new
HearsAs heard.Failed line old new = Closes finish.ReadFault old new
HearsAs heard.Memory line old new = Closes finish.Memory old new
