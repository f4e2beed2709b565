-- What lines that ask change, and a conversation in which none does.
use Rattle.std.proofs.Common.{◌≡◌, ℕ, Bool, true, false, cond, List, [], ◌∷◌, Option, Some, None, refl, sym, ap, ◌∙◌}
use Rattle.std.specs.Prelude.{filter, if◌then◌else◌, is_none, not}
use Rattle.std.specs.List.{list_all}
use Rattle.std.specs.Option.{option_map_or}
use Rattle.std.proofs.lemmas.Bool.{and_parts}
use Rattle.line_port.specs.History.{Event, Hears, Input, Says}
use Rattle.live_text.specs.Asking.{question_of, question_rules}
use Rattle.live_text.specs.Rules.{LiveFront, with_told}
use Rattle.live_text.specs.Scene.{scene_of}
use Rattle.live_text.specs.declared.question.QuestionKind.{QuestionKind}
use Rattle.live_text.specs.declared.question.QuestionKind.TheVariants as word_of
use Rattle.text_lines.specs.Words.{words_of}
use Rattle.trace_text.specs.Limits.{first_broken}
use Rattle.trace_text.specs.declared.fault.BadKind.{BadKind}
use Rattle.live_play.specs.Answer.{Platform, after_heard, text_of_ending}
use Rattle.live_play.specs.Conversation.{conversation, said_to}
use Rattle.live_play.specs.Showing.{Position, history_ending, history_turned, kind_asked_by, line_of, lines_after, lines_after_other, platform_at, position_after, position_asked, position_behind, shown_to, shown_to_other, shown_to_question, shown_to_unasked, showing, turns_history, watching_after}
use Rattle.live_play.specs.ShowingLaws.{asks_nothing, is_plain}

-- ---- one line

pub after_question : (on : Platform) (here : Position) (input : Input) (o : Option QuestionKind) → kind_asked_by input ≡ o
    → position_after on here input
    ≡ option_map_or (λ kind. position_asked here kind (line_of input)) o (record here { lines = lines_after on here.lines input })
after_question on here input o e =
    ap (λ (o : Option QuestionKind). option_map_or (λ kind. position_asked here kind (line_of input)) o
    (record here { lines = lines_after on here.lines input })) e

pub shown_by : (on : Platform) (here : Position) (input : Input) (o : Option QuestionKind) → kind_asked_by input ≡ o
    → shown_to on here input
    ≡ option_map_or (λ kind. shown_to_question on here.lines kind (line_of input)) o (shown_to_unasked on here input)
shown_by on here input o e =
    ap (λ (o : Option QuestionKind). option_map_or (λ kind. shown_to_question on here.lines kind (line_of input)) o
    (shown_to_unasked on here input)) e

-- what asks nothing, by whether it turns history off
pub lines_by : (on : Platform) (lines : LiveFront) (input : Input) (turns : Bool) → turns_history input ≡ turns
    → lines_after on lines input
    ≡ (if turns then history_turned on lines (line_of input) else lines_after_other on lines input)
lines_by on lines input turns e =
    ap (λ (b : Bool). if b then history_turned on lines (line_of input) else lines_after_other on lines input) e

pub unasked_by : (on : Platform) (here : Position) (input : Input) (turns : Bool) → turns_history input ≡ turns
    → shown_to_unasked on here input
    ≡ (if turns then text_of_ending (history_ending on here.lines (line_of input)) else shown_to_other on here input)
unasked_by on here input turns e =
    ap (λ (b : Bool). if b then text_of_ending (history_ending on here.lines (line_of input)) else shown_to_other on here input) e

-- the lines of what a question comes to
abbrev unless_broken : Position → Option BadKind → Bool → Position
unless_broken here fault watching = option_map_or (λ (kind : BadKind). here) fault (record here { is_watching = watching })

unbroken-lines : (here : Position) (fault : Option BadKind) (watching : Bool) → (unless_broken here fault watching).lines ≡ here.lines
unbroken-lines here None watching = refl
unbroken-lines here (Some kind) watching = refl

unbroken-same : (here : Position) (fault : Option BadKind) → unless_broken here fault here.is_watching ≡ here
unbroken-same here None = refl
unbroken-same here (Some kind) = refl

pub asked-lines : (here : Position) (kind : QuestionKind) (line : List ℕ) → (position_asked here kind line).lines ≡ here.lines
asked-lines here kind line = unbroken-lines here _ _

asked-watching : (kind : QuestionKind) (ws : List (List ℕ)) (watching : Bool) → (kind ≡ word_of.Watch → ⊥)
    → watching_after (question_of kind ws) watching ≡ watching
asked-watching word_of.Watch ws watching other = absurd (other refl)
asked-watching word_of.State ws watching other = refl
asked-watching word_of.Session ws watching other = refl
asked-watching word_of.Buffer ws watching other = refl
asked-watching word_of.Events ws watching other = refl

pub asked-same : (here : Position) (kind : QuestionKind) (line : List ℕ) → (kind ≡ word_of.Watch → ⊥) → position_asked here kind line ≡ here
asked-same here kind line other =
    let same = asked-watching kind (words_of line) here.is_watching other in
    let fault : Option BadKind = first_broken (question_rules kind (scene_of here.lines) line) in
    ap (λ (w : Bool). unless_broken here fault w) same ∙ unbroken-same here fault

-- ---- many

-- the lines behind a line, by whether it asks
pub after_lines : (on : Platform) (here : Position) (input : Input) (o : Option QuestionKind) → kind_asked_by input ≡ o
    → (position_after on here input).lines ≡ option_map_or (λ kind. here.lines) o (lines_after on here.lines input)
after_lines on here input None e = ap (λ (p : Position). p.lines) (after_question on here input None e)
after_lines on here input (Some kind) e =
    ap (λ (p : Position). p.lines) (after_question on here input (Some kind) e) ∙ asked-lines here kind (line_of input)

-- what counts depends on what counts before alone
step_alike : (on : Platform) (here there : Position) (input : Input) (o : Option QuestionKind) → kind_asked_by input ≡ o
    → here.lines ≡ there.lines → (position_after on here input).lines ≡ (position_after on there input).lines
step_alike on here there input o e same =
    after_lines on here input o e
    ∙ ap (λ (lines : LiveFront). option_map_or (λ (kind : QuestionKind). lines) o (lines_after on lines input)) same
    ∙ sym (after_lines on there input o e)

behind_alike : (on : Platform) (here there : Position) (inputs : List Input) → here.lines ≡ there.lines
    → (position_behind on here inputs).lines ≡ (position_behind on there inputs).lines
behind_alike on here there [] same = same
behind_alike on here there (input ∷ inputs) same =
    behind_alike on (position_after on here input) (position_after on there input) inputs
    (step_alike on here there input (kind_asked_by input) refl same)

asking_filtered : (input : Input) (inputs : List Input) (none : Bool) → asks_nothing input ≡ none
    → filter asks_nothing (input ∷ inputs) ≡ cond none (input ∷ filter asks_nothing inputs) (filter asks_nothing inputs)
asking_filtered input inputs none e =
    ap (λ (b : Bool). cond b (input ∷ filter asks_nothing inputs) (filter asks_nothing inputs)) e

-- a line that asks could as well have been left out
left_more : (on : Platform) (here : Position) (input : Input) (inputs : List Input) (o : Option QuestionKind) → kind_asked_by input ≡ o
    → (position_behind on (position_after on here input) (filter asks_nothing inputs)).lines
    ≡ (position_behind on here (filter asks_nothing (input ∷ inputs))).lines
left_more on here input inputs None e =
    ap (λ (l : List Input). (position_behind on here l).lines) (sym (asking_filtered input inputs true (ap is_none e)))
left_more on here input inputs (Some kind) e =
    behind_alike on (position_after on here input) here (filter asks_nothing inputs) (after_lines on here input (Some kind) e)
    ∙ ap (λ (l : List Input). (position_behind on here l).lines) (sym (asking_filtered input inputs false (ap is_none e)))

pub left_out : (on : Platform) (here : Position) (inputs : List Input)
    → (position_behind on here inputs).lines ≡ (position_behind on here (filter asks_nothing inputs)).lines
left_out on here [] = refl
left_out on here (input ∷ inputs) =
    left_out on (position_after on here input) inputs ∙ left_more on here input inputs (kind_asked_by input) refl

pub asks_none : (o : Option QuestionKind) → is_none o ≡ true → o ≡ None
asks_none None e = refl
asks_none (Some kind) e = absurd cc

-- so what is shown behind it is what is shown without it
pub shown_same : (on : Platform) (here : Position) (front : List Input) (input : Input) → asks_nothing input ≡ true
    → shown_to on (position_behind on here front) input
    ≡ shown_to_unasked on (record {
      lines = (position_behind on here (filter asks_nothing front)).lines;
      is_watching = (position_behind on here front).is_watching;
    }) input
shown_same on here front input plain =
    let behind : Position = position_behind on here front in
    shown_by on behind input None (asks_none (kind_asked_by input) plain)
    ∙ ap (λ (lines : LiveFront). shown_to_unasked on (record { lines = lines; is_watching = behind.is_watching }) input)
    (left_out on here front)

-- ---- a line of a trace with signals

is_not : (b : Bool) → not b ≡ true → b ≡ false
is_not true e = absurd cc
is_not false e = refl

-- it asks nothing, and doesn't turn history off
pub record IsOther (input : Input) : Type 0 where
  pub asks : kind_asked_by input ≡ None
  pub turns : turns_history input ≡ false

pub is_other : (input : Input) → is_plain input ≡ true → IsOther input
is_other input plain =
    let parts = and_parts (asks_nothing input) (not (turns_history input)) plain in
    record { asks = asks_none (kind_asked_by input) parts.0; turns = is_not (turns_history input) parts.1 }

pub other_after : (on : Platform) (here : Position) (input : Input) → IsOther input
    → position_after on here input ≡ record here { lines = lines_after_other on here.lines input }
other_after on here input other =
    after_question on here input None other.asks
    ∙ ap (λ (lines : LiveFront). record here { lines = lines }) (lines_by on here.lines input false other.turns)

pub other_shown : (on : Platform) (here : Position) (input : Input) → IsOther input
    → shown_to on here input ≡ shown_to_other on here input
other_shown on here input other = shown_by on here input None other.asks ∙ unasked_by on here input false other.turns

-- behind these lines, with no exit watched
abbrev pub unwatched : LiveFront → Position
unwatched lines = record { lines = lines; is_watching = false }

pub unasked_said : (on : Platform) (lines : LiveFront) (inputs : List Input) → list_all is_plain inputs ≡ true
    → showing on (unwatched lines) inputs ≡ conversation (platform_at on lines) lines.told inputs
unasked_said on lines [] plain = refl
unasked_said on lines (input ∷ inputs) plain =
    let parts = and_parts (is_plain input) (list_all is_plain inputs) plain in
    let other = is_other input parts.0 in
    let within : Platform = platform_at on lines in
    let said : shown_to on (unwatched lines) input ≡ said_to within lines.told input = other_shown on (unwatched lines) input other in
    let after : position_after on (unwatched lines) input ≡ unwatched (with_told lines (after_heard within lines.told input)) =
    other_after on (unwatched lines) input other in
    ap (λ (bytes : List ℕ). Hears input ∷ Says bytes ∷ showing on (position_after on (unwatched lines) input) inputs) said
    ∙ ap (λ (p : Position). Hears input ∷ Says (said_to within lines.told input) ∷ showing on p inputs) after
    ∙ ap (λ (events : List Event). Hears input ∷ Says (said_to within lines.told input) ∷ events)
    (unasked_said on (with_told lines (after_heard within lines.told input)) inputs parts.1)
