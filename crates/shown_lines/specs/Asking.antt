-- What a core can be asked for.
use Rattle.std.specs.Prelude.{◌≡◌, Bool, true}
use Rattle.live_text.specs.declared.question.Question.{Question}
use Rattle.live_text.specs.declared.question.Question.TheVariants as asks

-- events are told by a core that keeps them
abbrev pub CanTell : Bool → Question → Type 0
CanTell keeps (asks.Watch on) = Unit {0}
CanTell keeps asks.State = Unit {0}
CanTell keeps (asks.Session number) = Unit {0}
CanTell keeps (asks.Buffer cookie) = Unit {0}
CanTell keeps (asks.Events from count) = keeps ≡ true
