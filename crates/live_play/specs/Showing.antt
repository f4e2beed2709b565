-- A conversation with lines that ask, with exits that are watched, and with history off. What asks changes nothing that counts,
-- and what is said more stands beside the answers of a conversation without it; where history is off, entries read as much as they
-- will in a life. This project's own.
use Rattle.std.specs.Prelude.{◌≡◌, ◌⊎◌, ℕ, ◌^◌, List, [], ◌∷◌, ◌++◌, Bool, true, false, if◌then◌else◌, Option, None, Some, slice_index_or, take}
use Rattle.std.specs.List.{flat_map}
use Rattle.std.specs.Option.{option_map_or}
use Rattle.base.specs.NumberMap.{get}
use Rattle.event_journal.specs.declared.event.Event.{Event as Happens}
use Rattle.kernel_model.specs.Application.{Booted, booted}
use Rattle.kernel_model.specs.Kernel.{Kernel}
use Rattle.line_port.specs.History.{Adds, Event, Hears, Input, Says}
use Rattle.line_port.specs.History as heard
use Rattle.line_port.specs.declared.finish.Finish.{Finish}
use Rattle.line_port.specs.declared.finish.Finish.TheVariants.{Memory, Over, ReadFault, WriteFault}
use Rattle.live_text.specs.Asking.{kind_of_line, question_of, question_rules}
use Rattle.live_text.specs.Rules.{LiveFront, is_history, no_lines, with_told, without_history}
use Rattle.live_text.specs.Rules as live
use Rattle.live_text.specs.Scene.{scene_of}
use Rattle.live_text.specs.declared.question.Question.{Question}
use Rattle.live_text.specs.declared.question.Question.TheVariants as asks
use Rattle.live_text.specs.declared.question.QuestionKind.{QuestionKind}
use Rattle.notify_play.specs.NotifyPlay.{NotifyPlay}
use Rattle.notify_text.specs.Rules.{NotifyFront}
use Rattle.play_model.specs.Line.{Line, Mem, Ret, text_of_line}
use Rattle.ta_isa.specs.declared.boot.Boot.{Boot}
use Rattle.text_lines.specs.Words.{words_of}
use Rattle.trace_text.specs.Limits.{first_broken}
use Rattle.trace_text.specs.declared.fault.BadKind.{BadKind}
use Rattle.trace_text.specs.declared.item.Item.{Item}
use Rattle.trace_text.specs.declared.item.Item.TheVariants as item
use Rattle.live_play.specs.Answer.{Answer, Bad, Done, Ending, IsPlayed, Platform, after_heard, answer, play_at, text_of_ending, uuids_in}
use Rattle.live_play.specs.Changes.{changes, text_of_changes}
use Rattle.live_play.specs.Conversation.{said_to}
use Rattle.live_play.specs.Panicking.{panic_between, panic_line}
use Rattle.live_play.specs.State.{buffer_lines, event_lines, session_line, state_text, text_if}

-- ---- what a conversation has come to

pub record Position : Type 0 where
  -- the lines that count
  pub lines : LiveFront
  -- exits are followed by what they change in RAM
  pub is_watching : Bool

abbrev pub first_position : Position
first_position = record { lines = no_lines; is_watching = false }

-- the platform, where all entries read at most so many bytes
abbrev pub within : Platform → ℕ → Platform
within on most_bytes = record on { most_bytes = most_bytes }

-- behind lines that count: where history is off they may read 2^63
abbrev pub platform_at : Platform → LiveFront → Platform
platform_at on lines = within on (if lines.forgets then 2 ^ 63 else on.most_bytes)

-- ---- what is answered to a question

-- by a core of this boot with this kernel and this history
abbrev pub answer_of_kernel : Booted → Kernel → List Happens → Question → List ℕ
answer_of_kernel boot kernel history (asks.Watch on) = []
answer_of_kernel boot kernel history asks.State = state_text boot kernel history
answer_of_kernel boot kernel history (asks.Session number) = text_if (session_line number) (get kernel.tables.sessions number)
answer_of_kernel boot kernel history (asks.Buffer cookie) =
    text_if (λ buffer. buffer_lines kernel.tables.registered cookie) (get kernel.tables.registered.buffers cookie)
answer_of_kernel boot kernel history (asks.Events from count) = event_lines history from count

-- behind these lines, which have a play where a boot is among them
abbrev pub answer_at : Platform → NotifyFront → Question → List ℕ
answer_at on lines question =
    text_if (λ (boot : Boot). text_if (λ (told : NotifyPlay). answer_of_kernel (booted boot on.natives) told.play.kernel told.play.history question) (play_at on lines))
    lines.trace.boot

-- a line of a question of this kind breaks this rule; or it is answered
abbrev pub shown_to_question : Platform → LiveFront → QuestionKind → List ℕ → List ℕ
shown_to_question on lines kind line = option_map_or
    (λ fault. text_of_ending (Bad fault))
    (first_broken (question_rules kind (scene_of lines) line))
    (answer_at (platform_at on lines) lines.told (question_of kind (words_of line)) ++ text_of_ending Done)

-- ---- what is said of exits that are watched

-- the processor that goes out by an item
abbrev pub cpu_out_by : Item → Option ℕ
cpu_out_by (item.Smc cpu steps regs) = Some cpu
cpu_out_by (item.Enter cpu steps regs) = None
cpu_out_by (item.Leave cpu) = Some cpu
cpu_out_by (item.Write cpu addr bytes) = None
cpu_out_by (item.Show cpu addr len) = None

-- the RAM of each processor behind these lines; none where there is no boot
abbrev pub lanes_at : Platform → NotifyFront → List (List ℕ)
lanes_at on lines = option_map_or (λ (told : NotifyPlay). told.play.lanes) (play_at on lines) []

abbrev pub lane_at : Platform → NotifyFront → ℕ → List ℕ
lane_at on lines cpu = slice_index_or (lanes_at on lines) cpu []

-- what stands behind a line `ret` of this processor, between these lines and those: the panic in which its call has ended, if it
-- did, and what the processor's RAM has then and had not before
abbrev pub text_behind : Platform → NotifyFront → NotifyFront → ℕ → List ℕ
text_behind on before after cpu =
    text_if panic_line (panic_between on before after) ++ text_of_changes cpu (changes (lane_at on before cpu) (lane_at on after cpu))

-- a line, and what stands behind it
abbrev pub watched_line : Platform → NotifyFront → NotifyFront → Line → List ℕ
watched_line on before after (Ret cpu regs) = text_of_line (Ret cpu regs) ++ text_behind on before after cpu
watched_line on before after (Mem cpu addr bytes) = text_of_line (Mem cpu addr bytes)

-- an answer, with these lines counting before it and those behind it
abbrev pub watched_answer : Platform → NotifyFront → NotifyFront → Answer → List ℕ
watched_answer on before after given =
    flat_map (watched_line on before after) given.lines ++ text_of_ending given.ending

-- ---- history off

-- the line begins with `history`: it asks nothing, and is none of a trace with signals
abbrev pub turns_history : Input → Bool
turns_history (heard.Line line) = is_history (words_of line)
turns_history heard.Long = false
turns_history heard.Cut = false

-- the first rule that such a line breaks behind these lines
abbrev pub history_fault : Platform → LiveFront → List ℕ → Option BadKind
history_fault on lines line = first_broken (live.line_rules (uuids_in on) lines true line)

-- how its answer ends, which has no other lines
abbrev pub history_ending : Platform → LiveFront → List ℕ → Ending
history_ending on lines line = option_map_or Bad (history_fault on lines line) Done

-- the lines that count then
abbrev pub history_turned : Platform → LiveFront → List ℕ → LiveFront
history_turned on lines line = option_map_or (λ kind. lines) (history_fault on lines line) (without_history lines)

-- ---- what is shown to what was heard

abbrev pub kind_asked_by : Input → Option QuestionKind
kind_asked_by (heard.Line line) = kind_of_line line
kind_asked_by heard.Long = None
kind_asked_by heard.Cut = None

abbrev pub line_of : Input → List ℕ
line_of (heard.Line line) = line
line_of heard.Long = []
line_of heard.Cut = []

-- to a line of a trace with signals
abbrev pub shown_to_other : Platform → Position → Input → List ℕ
shown_to_other on here input =
    let there = platform_at on here.lines in
    let before = here.lines.told in
    if here.is_watching
    then watched_answer there before (after_heard there before input) (answer there before input)
    else said_to there before input

-- to what asks nothing
abbrev pub shown_to_unasked : Platform → Position → Input → List ℕ
shown_to_unasked on here input =
    if turns_history input
    then text_of_ending (history_ending on here.lines (line_of input))
    else shown_to_other on here input

abbrev pub shown_to : Platform → Position → Input → List ℕ
shown_to on here input = option_map_or
    (λ kind. shown_to_question on here.lines kind (line_of input))
    (kind_asked_by input)
    (shown_to_unasked on here input)

-- ---- what it has come to then

-- a question changes at most whether exits are watched
abbrev pub watching_after : Question → Bool → Bool
watching_after (asks.Watch on) watching = on
watching_after asks.State watching = watching
watching_after (asks.Session number) watching = watching
watching_after (asks.Buffer cookie) watching = watching
watching_after (asks.Events from count) watching = watching

abbrev pub position_asked : Position → QuestionKind → List ℕ → Position
position_asked here kind line = option_map_or
    (λ fault. here)
    (first_broken (question_rules kind (scene_of here.lines) line))
    (record here { is_watching = watching_after (question_of kind (words_of line)) here.is_watching })

-- the lines behind a line of a trace with signals
abbrev pub lines_after_other : Platform → LiveFront → Input → LiveFront
lines_after_other on lines input = with_told lines (after_heard (platform_at on lines) lines.told input)

-- the lines behind what asks nothing
abbrev pub lines_after : Platform → LiveFront → Input → LiveFront
lines_after on lines input =
    if turns_history input then history_turned on lines (line_of input) else lines_after_other on lines input

abbrev pub position_after : Platform → Position → Input → Position
position_after on here input = option_map_or
    (λ kind. position_asked here kind (line_of input))
    (kind_asked_by input)
    (record here { lines = lines_after on here.lines input })

-- that there is a play of these lines
abbrev pub ArePlayed : Platform → LiveFront → Type 0
ArePlayed on lines = IsPlayed (platform_at on lines) lines.told

-- ---- all of it

-- from this position on: each is heard, and what is shown to it is said before the next one is heard
abbrev pub showing : Platform → Position → List Input → List Event
showing on here [] = []
showing on here (input ∷ inputs) =
    Hears input ∷ Says (shown_to on here input) ∷ showing on (position_after on here input) inputs

abbrev pub position_behind : Platform → Position → List Input → Position
position_behind on here [] = here
position_behind on here (input ∷ inputs) = position_behind on (position_after on here input) inputs

-- ---- how it ends

-- what one that ends so leaves behind its last whole turn, from this position
abbrev pub IsShownRest : Platform → Position → Finish → List Event → Type 0
IsShownRest on here Over rest = rest ≡ []
IsShownRest on here ReadFault rest = rest ≡ []
IsShownRest on here WriteFault rest =
    (input : Input) × (n : ℕ) × (rest ≡ Hears input ∷ Says (take n (shown_to on here input)) ∷ [])
    × ArePlayed on (position_after on here input).lines
IsShownRest on here Memory rest = (rest ≡ []) ⊎ ((input : Input) × (rest ≡ Hears input ∷ []))

-- whatever was heard, the history grew by a conversation, in which lines may ask
pub record IsShowing (on : Platform) (old new : Option (List Event)) (finish : Finish) : Type 0 where
  pub inputs : List Input
  pub rest : List Event
  pub history : Adds old new (showing on first_position inputs ++ rest)
  pub ended : IsShownRest on (position_behind on first_position inputs) finish rest
  pub played : ArePlayed on (position_behind on first_position inputs).lines
