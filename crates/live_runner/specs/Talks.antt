-- What a conversation over a port comes to.
use Rattle.std.specs.Prelude.{◌≡◌, ℕ, List, [], ◌∷◌, ◌++◌, true, filter, Option, Some, IfSome}
use Rattle.std.specs.List.{list_all}
use Rattle.line_port.specs.History.{Adds, Event, Hears, Input, Says}
use Rattle.line_port.specs.Told.{Closes, HappenInTurn, Told}
use Rattle.line_port.specs.declared.finish.Finish.{Finish}
use Rattle.live_play.specs.Answer.{Platform, play_at}
use Rattle.live_play.specs.Conversation.{IsConversation, after_all}
use Rattle.live_play.specs.Laws.{IsHeld}
use Rattle.live_play.specs.Showing.{IsShowing, first_position, platform_at, position_behind, showing}
use Rattle.live_play.specs.ShowingLaws.{hears_plain, is_plain}
use Rattle.notify_play.specs.NotifyPlay.{NotifyPlay}
use Rattle.notify_text.specs.Rules.{no_lines}
use Rattle.ta_isa.specs.declared.boot.Boot.{Boot}

-- where a boot counts behind this, the lines that count have a play, whose history is legal and has the kernel's own answers;
-- and each return that was said is one of its
abbrev pub AreHeld : Platform → List Input → Type 0
AreHeld on inputs =
    IfSome (after_all on no_lines inputs).trace.boot (λ (boot : Boot).
    (told : NotifyPlay) × (play_at on (after_all on no_lines inputs) ≡ Some told) × IsHeld on inputs boot told)

-- ---- where no line asks

-- the history grew by a conversation; so it is behind each of its turns, and behind the last line where a part of its answer was
-- said
pub record Talks (on : Platform) (old new : Option (List Event)) (finish : Finish) : Type 0 where
  pub talk : IsConversation on old new finish
  pub held : (front behind : List Input) → talk.inputs ≡ front ++ behind → AreHeld on front
  pub half_said : (input : Input) (part : List ℕ) → talk.rest ≡ Hears input ∷ Says part ∷ []
      → AreHeld on (talk.inputs ++ input ∷ [])

-- nothing that asks, or turns history off, is among what the history grew by. Of a port that tells no history, as of one over a reader
-- and a writer, it never holds, so that nothing hangs on it there
abbrev pub HearsNoQuestion : Option (List Event) → Option (List Event) → Type 0
HearsNoQuestion old new = (events : List Event) → Adds old new events → list_all hears_plain events ≡ true

-- ---- where lines may ask

-- how much entries may read behind this
abbrev pub platform_behind : Platform → List Input → Platform
platform_behind on inputs = platform_at on (position_behind on first_position inputs).lines

-- the history grew by a conversation in which lines may ask. It happened over the port: what was left to be heard lost its lines, in
-- their order, and what was written grew by their answers, in theirs; then the port came to its end. Of the lines of a trace with
-- signals all is so behind each of its turns, and behind the last line where a part of its answer was said
pub record TalksWithQuestions (on : Platform) (old new : Told) (finish : Finish) : Type 0 where
  pub talk : IsShowing on old.history new.history finish
  pub behind : Told
  pub happened : HappenInTurn (showing on first_position talk.inputs ++ talk.rest) old behind
  pub closed : Closes finish behind new
  pub held : (front behind : List Input) → talk.inputs ≡ front ++ behind →
      AreHeld (platform_behind on front) (filter is_plain front)
  pub half_said : (input : Input) (part : List ℕ) → talk.rest ≡ Hears input ∷ Says part ∷ []
      → AreHeld (platform_behind on (talk.inputs ++ input ∷ [])) (filter is_plain (talk.inputs ++ input ∷ []))
