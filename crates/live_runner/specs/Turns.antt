-- What one turn of a conversation comes to.
use Rattle.std.specs.Prelude.{◌≡◌, ◌⊎◌, ℕ, List, [], ◌∷◌, ◌++◌, true, is_some, not, Option, None, Some, Result, Ok, Err}
use Rattle.line_port.specs.History.{Event, Hears, Input, Says, heard_events}
use Rattle.line_port.specs.History as heard
use Rattle.line_port.specs.Told.{Closes, HappenInTurn, Told}
use Rattle.line_port.specs.declared.finish.Finish.{Finish}
use Rattle.line_port.specs.declared.finish.Finish.TheVariants.{Memory}
use Rattle.line_port.specs.declared.port.Heard.{Heard}
use Rattle.live_play.specs.Answer.{Bad, Ending, Platform, text_of_ending}
use Rattle.live_play.specs.Showing.{IsShownRest, Position, lines_after, platform_at, position_after, shown_to, shown_to_unasked, answer_at, watching_after}
use Rattle.live_player.specs.Standing.{StandsAt}
use Rattle.live_player.specs.Taking.{ending_of}
use Rattle.live_player.specs.declared.taken.Taken.{Taken}
use Rattle.live_runner.specs.declared.talk.Talk.{Talk}
use Rattle.live_text.specs.Rules.{LiveFront}
use Rattle.live_text.specs.declared.question.Question.{Question}
use Rattle.live_text.specs.declared.question.Question.TheVariants as asks
use Rattle.trace_text.specs.declared.fault.LineFault.{LineFault}
use Rattle.trace_text.specs.declared.fault.LineFault.TheVariants.{Broken, NoRoom}

-- ---- where it stands

-- the player stands behind the lines that count, and exits are watched or not
pub record StandsIn (on : Platform) (here : Position) (talk : Talk) : Type 0 where
  pub player : StandsAt on here.lines talk.player
  pub watching : talk.is_watching ≡ here.is_watching

-- ---- an answer to a line that asks nothing

-- a call of `hear` that came to this, where this stands in its line, has heard this
abbrev pub IsHeard : Heard → List ℕ → Input → Type 0
IsHeard heard line input = heard_events heard line ≡ Hears input ∷ []

-- the line was taken so, and all of its answer stands but the line that ends it
pub record TakesAs (on : Platform) (here : Position) (line : List ℕ) (ending : Ending) (talk : Talk) : Type 0 where
  pub said : talk.answer.items ++ text_of_ending ending ≡ shown_to_unasked on here (heard.Line line)
  pub stands : StandsIn on (record here { lines = lines_after on here.lines (heard.Line line) }) talk

-- by what came of it; of want of memory nothing is said
abbrev pub TakesIn : Platform → Position → List ℕ → Result Taken LineFault → Talk → Type 0
TakesIn on here line (Ok how) talk = TakesAs on here line (ending_of how) talk
TakesIn on here line (Err (Broken kind)) talk = TakesAs on here line (Bad kind) talk
TakesIn on here line (Err NoRoom) talk = Unit {0}

-- all of its answer stands
pub record HasAnswered (on : Platform) (here : Position) (line : List ℕ) (talk : Talk) : Type 0 where
  pub said : talk.answer.items ≡ shown_to_unasked on here (heard.Line line)
  pub stands : StandsIn on (record here { lines = lines_after on here.lines (heard.Line line) }) talk

-- ---- an answer to a question

-- but for `watch` a boot stands before it; and events are asked where history is kept
abbrev pub CanBeAsked : LiveFront → Question → Type 0
CanBeAsked lines (asks.Watch on) = Unit {0}
CanBeAsked lines asks.State = is_some lines.told.trace.boot ≡ true
CanBeAsked lines (asks.Session number) = is_some lines.told.trace.boot ≡ true
CanBeAsked lines (asks.Buffer cookie) = is_some lines.told.trace.boot ≡ true
CanBeAsked lines (asks.Events from count) = (is_some lines.told.trace.boot ≡ true) × (not lines.forgets ≡ true)

-- what it asks was done, and the lines of its answer stand
pub record Tells (on : Platform) (here : Position) (question : Question) (talk : Talk) : Type 0 where
  pub said : talk.answer.items ≡ answer_at (platform_at on here.lines) here.lines.told question
  pub stands : StandsIn on (record here { is_watching = watching_after question here.is_watching }) talk

-- ---- an answer

-- to what was heard: it is what is shown to that, and it stands where the conversation is then
pub record HasShown (on : Platform) (here : Position) (input : Input) (talk : Talk) : Type 0 where
  pub said : talk.answer.items ≡ shown_to on here input
  pub stands : StandsIn on (position_after on here input) talk

-- ---- a turn

-- it ends so: what is left behind the last answer happened over the port, and then the port came to its end
pub record EndsTurn (on : Platform) (here : Position) (old new : Told) (finish : Finish) : Type 0 where
  pub rest : List Event
  pub behind : Told
  pub happened : HappenInTurn rest old behind
  pub closed : Closes finish behind new
  pub ended : IsShownRest on here finish rest

-- something was heard, and its answer said; or the conversation ends so
abbrev pub Turns : Platform → Position → Told → Told → Result (Unit {0}) Finish → Talk → Type 0
Turns on here old new (Ok done) talk =
    (input : Input) × HappenInTurn (Hears input ∷ Says (shown_to on here input) ∷ []) old new
    × StandsIn on (position_after on here input) talk
Turns on here old new (Err finish) talk = EndsTurn on here old new finish

-- a port that has ended so ended the conversation so; want of memory may come where it has not
abbrev pub IsEndOf : Finish → Option Finish → Type 0
IsEndOf finish ended = (ended ≡ Some finish) ⊎ ((finish ≡ Memory) × (ended ≡ None))

-- how a turn that came to this ended the conversation, where it did
abbrev pub end_of : Result (Unit {0}) Finish → Option Finish
end_of (Ok done) = None
end_of (Err finish) = Some finish

abbrev pub EndsAs : Result (Unit {0}) Finish → Option Finish → Type 0
EndsAs (Ok done) ended = ended ≡ None
EndsAs (Err finish) ended = IsEndOf finish ended
