-- What holds of each conversation in which lines may ask.
use Rattle.std.specs.Prelude.{◌≡◌, ◌⊎◌, ℕ, ◌^◌, ◌≤◌, List, [], ◌∷◌, ◌++◌, ◌&&◌, Bool, true, false, not, filter, is_none, is_some, None, Some}
use Rattle.std.specs.List.{list_all}
use Rattle.line_port.specs.History.{Event, Hears, Input, Says}
use Rattle.live_text.specs.Asking.{question_rules}
use Rattle.live_text.specs.Rules.{LiveFront}
use Rattle.live_text.specs.Scene.{scene_of}
use Rattle.live_text.specs.declared.question.QuestionKind.{QuestionKind}
use Rattle.live_text.specs.declared.question.QuestionKind.TheVariants.{Events, Watch}
use Rattle.notify_play.specs.NotifyPlay.{NotifyPlay}
use Rattle.notify_text.specs.Rules.{NotifyFront, no_lines}
use Rattle.ns_ram.specs.Writes.{lane_after}
use Rattle.play_model.specs.Line.{Ret, text_of_line}
use Rattle.trace_text.specs.Limits.{first_broken}
use Rattle.trace_text.specs.declared.fault.BadKind.{BadKind}
use Rattle.live_play.specs.Answer.{Answer, Bad, Done, Ending, Full, Platform, TooLong, after_heard, answer, is_done, play_at, text_of_answer, text_of_ending, without_lines}
use Rattle.live_play.specs.Changes.{changes}
use Rattle.live_play.specs.Conversation.{after_all, answers, conversation}
use Rattle.live_play.specs.Returns.{returns_in}
use Rattle.live_play.specs.Showing.{Position, first_position, history_ending, history_fault, history_turned, kind_asked_by, lane_at, line_of, lines_after_other, platform_at, position_after, position_behind, showing, shown_to, shown_to_other, shown_to_unasked, text_behind, turns_history, watched_answer, within}

-- it asks nothing
abbrev pub asks_nothing : Input → Bool
asks_nothing input = is_none (kind_asked_by input)

-- it is a line of a trace with signals, or none of a conversation
abbrev pub is_plain : Input → Bool
is_plain input = asks_nothing input && not (turns_history input)

-- nothing was heard but such lines
abbrev pub hears_plain : Event → Bool
hears_plain (Hears input) = is_plain input
hears_plain (Says bytes) = true

-- ---- what asks changes nothing

pub record QuestionsChangeNothing : Type 0 where
  -- the lines that count are as before; and where it isn't a line `watch`, so is whether exits are watched
  pub lines : (on : Platform) (here : Position) (input : Input) (kind : QuestionKind) → kind_asked_by input ≡ Some kind →
      (position_after on here input).lines ≡ here.lines
  pub watching : (on : Platform) (here : Position) (input : Input) (kind : QuestionKind) → kind_asked_by input ≡ Some kind →
      (kind ≡ Watch → ⊥) → position_after on here input ≡ here
  -- so it could as well have been left out
  pub left_out : (on : Platform) (here : Position) (inputs : List Input) →
      (position_behind on here inputs).lines ≡ (position_behind on here (filter asks_nothing inputs)).lines
  -- and what is shown to a line that asks nothing is what is shown to it without all that asked before it, but for whether exits
  -- are watched
  pub shown : (on : Platform) (here : Position) (front : List Input) (input : Input) → asks_nothing input ≡ true →
      shown_to on (position_behind on here front) input
      ≡ shown_to_unasked on (record {
        lines = (position_behind on here (filter asks_nothing front)).lines;
        is_watching = (position_behind on here front).is_watching;
      }) input

-- ---- what is refused changes nothing

pub record RefusedLinesChangeNothing : Type 0 where
  -- a line that asks and breaks a rule is answered by the first one that it breaks, and changes nothing: not even whether exits
  -- are watched
  pub question : (on : Platform) (here : Position) (input : Input) (kind : QuestionKind) (fault : BadKind) →
      kind_asked_by input ≡ Some kind →
      first_broken (question_rules kind (scene_of here.lines) (line_of input)) ≡ Some fault →
      (shown_to on here input ≡ text_of_ending (Bad fault)) × (position_after on here input ≡ here)
  -- any other one whose answer ends with something else than `ok`, and what is no line, likewise, exits watched or not
  pub other : (on : Platform) (here : Position) (input : Input) (ending : Ending) → is_plain input ≡ true →
      is_done ending ≡ false → answer (platform_at on here.lines) here.lines.told input ≡ without_lines ending →
      (shown_to on here input ≡ text_of_ending ending) × (position_after on here input ≡ here)
  -- and one that is to turn history off
  pub history : (on : Platform) (here : Position) (input : Input) (fault : BadKind) → turns_history input ≡ true →
      history_fault on here.lines (line_of input) ≡ Some fault →
      (shown_to on here input ≡ text_of_ending (Bad fault)) × (position_after on here input ≡ here)

-- ---- history off

-- it doesn't turn history off
abbrev pub keeps_history : Input → Bool
keeps_history input = not (turns_history input)

-- what counts behind a part of a conversation, of the lines of a trace with signals: it is what counts behind these lines alone,
-- where entries read as much as they may by then
pub record IsAsWithout (on : Platform) (here : Position) (inputs : List Input) : Type 0 where
  pub lines : (position_behind on here inputs).lines.told
      ≡ after_all (platform_at on (position_behind on here inputs).lines) here.lines.told (filter is_plain inputs)
  -- and to the next such line this is shown
  pub shown : (input : Input) → is_plain input ≡ true →
      shown_to on (position_behind on here inputs) input ≡ shown_to_other on (position_behind on here inputs) input

pub record HistoryOffForgetsAlone : Type 0 where
  -- such a line is answered by the first rule that it breaks, or counts
  pub turned : (on : Platform) (here : Position) (input : Input) → turns_history input ≡ true →
      (shown_to on here input ≡ text_of_ending (history_ending on here.lines (line_of input)))
      × (position_after on here input ≡ record here { lines = history_turned on here.lines (line_of input) })
  -- where there is none, the lines of a trace with signals count and are answered as they are alone
  pub stays : (on : Platform) (here : Position) (inputs : List Input) → list_all keeps_history inputs ≡ true →
      IsAsWithout on here inputs
  -- and history stays as it is
  pub kept : (on : Platform) (here : Position) (inputs : List Input) → list_all keeps_history inputs ≡ true →
      (position_behind on here inputs).lines.forgets ≡ here.lines.forgets
  -- and so they do in each conversation
  pub in_order : (on : Platform) (inputs : List Input) → IsAsWithout on first_position inputs
  -- behind a boot history stays as it is
  pub booted : (on : Platform) (front behind : List Input) →
      is_some (position_behind on first_position front).lines.told.trace.boot ≡ true →
      (position_behind on first_position (front ++ behind)).lines.forgets
      ≡ (position_behind on first_position front).lines.forgets

-- ---- how much entries may read

abbrev pub is_full : Ending → Bool
is_full Done = false
is_full (Bad kind) = false
is_full TooLong = false
is_full (Full copied) = true

-- no entry was refused
abbrev pub refuses_none : List Answer → Bool
refuses_none given = list_all (λ (a : Answer). not (is_full a.ending)) given

-- while no entry is refused, how much entries may read changes nothing
pub record MoreBytesChangeNothing : Type 0 where
  -- the play of lines is the same where they may read more
  pub played : (on : Platform) (most more : ℕ) (lines : NotifyFront) (told : NotifyPlay) → most ≤ more →
      play_at (within on most) lines ≡ Some told → told.play.refused ≡ None →
      play_at (within on more) lines ≡ Some (record told { play = record told.play { most_bytes = more } })
  -- so are all answers, and the lines that count
  pub answered : (on : Platform) (most more : ℕ) (inputs : List Input) → most ≤ more →
      refuses_none (answers (within on most) no_lines inputs) ≡ true →
      (answers (within on more) no_lines inputs ≡ answers (within on most) no_lines inputs)
      × (after_all (within on more) no_lines inputs ≡ after_all (within on most) no_lines inputs)
  -- so that, whether a line turns history off or not, of the lines of a trace with signals those count that count alone
  pub either : (on : Platform) (inputs : List Input) → on.most_bytes ≤ 2 ^ 63 →
      refuses_none (answers on no_lines (filter is_plain inputs)) ≡ true →
      (position_behind on first_position inputs).lines.told ≡ after_all on no_lines (filter is_plain inputs)
  -- to a further one, whose entry isn't refused either, the same is shown as without the lines that turn history off, with the
  -- panics and the lines `wrote` of exits that are watched
  pub shown : (on : Platform) (inputs : List Input) (input : Input) → on.most_bytes ≤ 2 ^ 63 →
      refuses_none (answers on no_lines (filter is_plain inputs)) ≡ true → is_plain input ≡ true →
      is_full (answer on (after_all on no_lines (filter is_plain inputs)) input).ending ≡ false →
      shown_to on (position_behind on first_position inputs) input
      ≡ shown_to on (position_behind on first_position (filter keeps_history inputs)) input
  -- so it is to a question, but to one for events, which are told where history is kept alone
  pub asked : (on : Platform) (inputs : List Input) (input : Input) (kind : QuestionKind) → on.most_bytes ≤ 2 ^ 63 →
      refuses_none (answers on no_lines (filter is_plain inputs)) ≡ true → kind_asked_by input ≡ Some kind → (kind ≡ Events → ⊥) →
      shown_to on (position_behind on first_position inputs) input
      ≡ shown_to on (position_behind on first_position (filter keeps_history inputs)) input

-- ---- a conversation in which nothing asks, and no line turns history off

-- it is what it was before lines could
pub record PlainConversationsAreAsBefore : Type 0 where
  pub said : (on : Platform) (lines : LiveFront) (inputs : List Input) → list_all is_plain inputs ≡ true →
      showing on (record { lines = lines; is_watching = false }) inputs ≡ conversation (platform_at on lines) lines.told inputs
  -- such a line counts, and is answered, as it is there, but for what is said of exits that are watched
  pub counted : (on : Platform) (here : Position) (input : Input) → is_plain input ≡ true →
      (position_after on here input ≡ record here { lines = lines_after_other on here.lines input })
      × (shown_to on here input ≡ shown_to_other on here input)

-- ---- exits that are watched

-- the answer of an exit: its line, and `ok`
abbrev pub answer_of_exit : ℕ → List ℕ → Answer
answer_of_exit cpu regs = record { lines = Ret cpu regs ∷ []; ending = Done }

-- it has no line `ret`, or it is the answer of an exit
abbrev pub TellsOneExitAtMost : Answer → Type 0
TellsOneExitAtMost given = (returns_in given.lines ≡ []) ⊎ ((cpu : ℕ) × (regs : List ℕ) × (given ≡ answer_of_exit cpu regs))

-- behind the line of an exit stands the panic in which its call has ended, if it did, and then what has changed in the
-- processor's RAM
abbrev pub IsWatched : Platform → NotifyFront → Input → ℕ → List ℕ → Type 0
IsWatched on before input cpu regs =
    watched_answer on before (after_heard on before input) (answer on before input)
    ≡ text_of_line (Ret cpu regs) ++ text_behind on before (after_heard on before input) cpu ++ text_of_ending Done

-- what has changed in the processor's RAM, laid over what it is behind these lines, gives what it is behind those
abbrev pub IsLaidOver : Platform → NotifyFront → NotifyFront → ℕ → Type 0
IsLaidOver on before after cpu =
    lane_after (lane_at on before cpu) (changes (lane_at on before cpu) (lane_at on after cpu)) ≡ lane_at on after cpu

-- the RAM of every processor but this one is behind these lines what it is behind those
abbrev pub OthersStay : Platform → NotifyFront → NotifyFront → ℕ → Type 0
OthersStay on before after cpu = (other : ℕ) → (other ≡ cpu → ⊥) → lane_at on after other ≡ lane_at on before other

pub record ExitsAreWatched : Type 0 where
  -- behind lines that count each answer has no line `ret`, or is that of an exit: the next two say what is shown of either
  pub at_most_one : (on : Platform) (inputs : List Input) (input : Input) →
      TellsOneExitAtMost (answer on (after_all on no_lines inputs) input)
  -- an answer that has no line `ret` is as where no exit is watched
  pub unwatched : (on : Platform) (before after : NotifyFront) (given : Answer) → returns_in given.lines ≡ [] →
      watched_answer on before after given ≡ text_of_answer given
  pub told : (on : Platform) (before : NotifyFront) (input : Input) (cpu : ℕ) (regs : List ℕ) →
      answer on before input ≡ answer_of_exit cpu regs → IsWatched on before input cpu regs
  -- behind lines that count, what has changed tells what the processor's RAM is
  pub laid_over : (on : Platform) (inputs : List Input) (input : Input) (cpu : ℕ) (regs : List ℕ) →
      answer on (after_all on no_lines inputs) input ≡ answer_of_exit cpu regs →
      IsLaidOver on (after_all on no_lines inputs) (after_heard on (after_all on no_lines inputs) input) cpu
  -- and the RAM of every other processor stays as it was
  pub others : (on : Platform) (inputs : List Input) (input : Input) (cpu : ℕ) (regs : List ℕ) →
      answer on (after_all on no_lines inputs) input ≡ answer_of_exit cpu regs →
      OthersStay on (after_all on no_lines inputs) (after_heard on (after_all on no_lines inputs) input) cpu
