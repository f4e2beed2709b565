-- The lines of a conversation that ask nothing: those of a trace with signals, under the same rules, and `history off`. This
-- project's own.
use Rattle.std.specs.Prelude.{ℕ, List, [], ◌∷◌, codes, Bool, true, false, not, if◌then◌else◌, is_none}
use Rattle.std.specs.List.{list_all}
use Rattle.std.specs.Str.{bytes_eq}
use Rattle.notify_text.specs.Rules.{NotifyFront}
use Rattle.notify_text.specs.Rules as told
use Rattle.text_lines.specs.Words.{words_of}
use Rattle.trace_text.specs.Rules.{counts, is_text_byte, word}
use Rattle.trace_text.specs.declared.fault.BadKind.{BadKind}
use Rattle.trace_text.specs.declared.fault.BadKind.TheVariants as bad

-- what the lines so far give
pub record LiveFront : Type 0 where
  -- of the trace with signals that they are
  pub told : NotifyFront
  -- history is off
  pub forgets : Bool

-- before the first of them
abbrev pub no_lines : LiveFront
no_lines = record { told = told.no_lines; forgets = false }

-- ---- the rules

-- the line begins with `history`
abbrev pub is_history : List (List ℕ) → Bool
is_history words = bytes_eq (word words 0) (codes "history")

-- of `history off`, which stands before the boot, and once. What history is to be is a part of the line's name
abbrev pub history_rules : LiveFront → List (List ℕ) → List (BadKind × Bool)
history_rules before words =
    (bad.Item, bytes_eq (word words 1) (codes "off"))
    ∷ (bad.Count, counts 1 words)
    ∷ (bad.Place, is_none before.told.trace.boot)
    ∷ (bad.Repeat, not before.forgets)
    ∷ []

-- the rules of a line, given whether a line feed ends it
unfoldable pub line_rules : List (List ℕ) → LiveFront → Bool → List ℕ → List (BadKind × Bool)
line_rules natives before ended line =
    if is_history (words_of line)
    then (bad.Byte, list_all is_text_byte line) ∷ (bad.Cut, ended) ∷ history_rules before (words_of line)
    else told.line_rules natives before.told ended line

-- ---- what a line that keeps its rules adds

-- the trace with signals among these lines is this one
abbrev pub with_told : LiveFront → NotifyFront → LiveFront
with_told before told = record before { told = told }

-- nothing is kept from here on
abbrev pub without_history : LiveFront → LiveFront
without_history before = record before { forgets = true }

-- the lines with this one
unfoldable pub after_line : LiveFront → List ℕ → LiveFront
after_line before line =
    if is_history (words_of line) then without_history before else with_told before (told.after_line before.told line)
