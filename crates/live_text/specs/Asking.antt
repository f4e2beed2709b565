-- Lines that ask: their rules, in the order in which a fault is looked for, and what they ask. They are no lines of a trace, and
-- none of a trace begins with their words. This project's own.
use Rattle.std.specs.Prelude.{ℕ, List, [], ◌∷◌, codes, Bool, ◌||◌, nat_lt, not, if◌then◌else◌, Option, None, Some, Result}
use Rattle.std.specs.List.{list_all}
use Rattle.std.specs.Str.{bytes_eq}
use Rattle.live_text.specs.Scene.{LiveScene}
use Rattle.live_text.specs.declared.question.Question.{Question}
use Rattle.live_text.specs.declared.question.Question.TheVariants as asks
use Rattle.live_text.specs.declared.question.QuestionKind.{QuestionKind}
use Rattle.live_text.specs.declared.question.QuestionKind.TheVariants as word_of
use Rattle.text_lines.specs.Words.{words_of}
use Rattle.trace_text.specs.Forms.{decimal, hexadecimal, is_decimal, is_hexadecimal}
use Rattle.trace_text.specs.Judging.{Judged}
use Rattle.trace_text.specs.Limits.{is_within}
use Rattle.trace_text.specs.Rules.{counts, is_text_byte, word}
use Rattle.trace_text.specs.declared.fault.BadKind.{BadKind}
use Rattle.trace_text.specs.declared.fault.BadKind.TheVariants as bad
use Rattle.trace_text.specs.declared.fault.LineFault.{LineFault}

-- ---- what a question is told by

-- the first word of each kind
abbrev pub question_table : List (List ℕ × QuestionKind)
question_table =
    (codes "watch", word_of.Watch)
    ∷ (codes "state", word_of.State)
    ∷ (codes "session", word_of.Session)
    ∷ (codes "buffer", word_of.Buffer)
    ∷ (codes "events", word_of.Events)
    ∷ []

-- the kind beside the first row of this word
abbrev pub kind_in : List (List ℕ × QuestionKind) → List ℕ → Option QuestionKind
kind_in [] word = None
kind_in (row ∷ rows) word = if bytes_eq word row.0 then Some row.1 else kind_in rows word

unfoldable pub kind_asked : List ℕ → Option QuestionKind
kind_asked word = kind_in question_table word

-- the kind of a line, where it asks
abbrev pub kind_of_line : List ℕ → Option QuestionKind
kind_of_line line = kind_asked (word (words_of line) 0)

-- ---- the rules

-- `on` or `off`
abbrev pub is_switch : List ℕ → Bool
is_switch word = bytes_eq word (codes "on") || bytes_eq word (codes "off")

-- of a line of this kind in a scene. `watch` may stand anywhere, and what `watch` is to be is a part of its name. Events are
-- told where history is kept
abbrev pub rules_of : QuestionKind → LiveScene → List (List ℕ) → List (BadKind × Bool)
rules_of word_of.Watch scene ws = (bad.Item, is_switch (word ws 1)) ∷ (bad.Count, counts 1 ws) ∷ []
rules_of word_of.State scene ws = (bad.Count, counts 0 ws) ∷ (bad.Place, scene.lines.is_booted) ∷ []
rules_of word_of.Session scene ws =
    (bad.Count, counts 1 ws)
    ∷ (bad.Place, scene.lines.is_booted)
    ∷ (bad.Number, is_decimal (word ws 1))
    ∷ (bad.Range, nat_lt (decimal (word ws 1)) 4294967295)
    ∷ []
rules_of word_of.Buffer scene ws =
    (bad.Count, counts 1 ws) ∷ (bad.Place, scene.lines.is_booted) ∷ (bad.Number, is_hexadecimal 16 (word ws 1)) ∷ []
rules_of word_of.Events scene ws =
    (bad.Count, counts 2 ws)
    ∷ (bad.Place, scene.lines.is_booted)
    ∷ (bad.Place, not scene.forgets)
    ∷ (bad.Number, is_decimal (word ws 1))
    ∷ (bad.Number, is_decimal (word ws 2))
    ∷ (bad.Range, nat_lt (decimal (word ws 1)) 4294967295)
    ∷ (bad.Range, is_within 1 1024 (decimal (word ws 2)))
    ∷ []

-- of the whole line
abbrev pub question_rules : QuestionKind → LiveScene → List ℕ → List (BadKind × Bool)
question_rules kind scene line = (bad.Byte, list_all is_text_byte line) ∷ rules_of kind scene (words_of line)

-- ---- what is asked

abbrev pub question_of : QuestionKind → List (List ℕ) → Question
question_of word_of.Watch ws = asks.Watch (bytes_eq (word ws 1) (codes "on"))
question_of word_of.State ws = asks.State
question_of word_of.Session ws = asks.Session (decimal (word ws 1))
question_of word_of.Buffer ws = asks.Buffer (hexadecimal (word ws 1))
question_of word_of.Events ws = asks.Events (decimal (word ws 1)) (decimal (word ws 2))

-- a line that asks was judged: it keeps its rules, and asks this; or this is the first one that it breaks
abbrev pub IsAskedAs : Option QuestionKind → LiveScene → List ℕ → Result Question LineFault → Type 0
IsAskedAs None scene line judged = ⊥
IsAskedAs (Some kind) scene line judged =
    Judged (λ (asked : Question). asked) judged (question_rules kind scene line) (question_of kind (words_of line))

abbrev pub IsAsked : LiveScene → List ℕ → Result Question LineFault → Type 0
IsAsked scene line judged = IsAskedAs (kind_of_line line) scene line judged
