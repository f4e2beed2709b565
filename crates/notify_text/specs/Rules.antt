-- The rules of a line of a trace with signals, in the order in which a fault is looked for, and what a line adds. A line
-- other than a signal's is one of a trace, but that `ta`, `mem` and `key` stand before all signals too. This project's own.
use Rattle.std.specs.Prelude.{ℕ, List, [], ◌∷◌, ◌++◌, codes, drop, length, Bool, true, false, ◌||◌, not, if◌then◌else◌}
use Rattle.std.specs.Prelude.{Option, None, Some, is_some}
use Rattle.std.specs.List.{list_all}
use Rattle.std.specs.Str.{bytes_eq}
use Rattle.notify_text.specs.declared.notify_trace.NotifyTrace.{NotifyTrace}
use Rattle.notify_text.specs.declared.notify_trace.Signal.{Signal}
use Rattle.text_lines.specs.Lines.{is_skipped}
use Rattle.text_lines.specs.Words.{words_of}
use Rattle.trace_text.specs.Forms.{decimal, is_decimal}
use Rattle.trace_text.specs.Limits.{Front, is_within, no_front, trace_in}
use Rattle.trace_text.specs.Rules.{counts, is_text_byte, kind_named, rules_behind, word, words_behind}
use Rattle.trace_text.specs.Rules as trace
use Rattle.trace_text.specs.declared.fault.BadKind.{BadKind}
use Rattle.trace_text.specs.declared.fault.BadKind.TheVariants as bad
use Rattle.trace_text.specs.declared.line_kind.LineKind.{LineKind}
use Rattle.trace_text.specs.declared.line_kind.LineKind.TheVariants as kind

-- what the lines so far give: of the trace, and the signals among its items
pub record NotifyFront : Type 0 where
  pub trace : Front
  pub signals : List Signal

-- the trace and the signals of all of them
abbrev pub notify_trace_in : NotifyFront → NotifyTrace
notify_trace_in front = record { trace = trace_in front.trace; signals = front.signals }

-- before the first of them
abbrev pub no_lines : NotifyFront
no_lines = record { trace = no_front; signals = [] }

-- no signal stands yet
abbrev pub has_no_signal : List Signal → Bool
has_no_signal [] = true
has_no_signal (signal ∷ signals) = false

-- ---- the rules

-- the line begins with `signal`
abbrev pub is_signal : List (List ℕ) → Bool
is_signal words = bytes_eq (word words 0) (codes "signal")

-- of `signal VALUE`, which stands behind a boot: a decimal number from 1 to 63
abbrev pub signal_rules : NotifyFront → List (List ℕ) → List (BadKind × Bool)
signal_rules before words =
    (bad.Count, counts 1 words)
    ∷ (bad.Place, is_some before.trace.boot)
    ∷ (bad.Number, is_decimal (word words 1))
    ∷ (bad.Range, is_within 1 63 (decimal (word words 1)))
    ∷ []

-- lines of the header
abbrev pub is_header : LineKind → Bool
is_header kind.Boot = true
is_header kind.Ta = true
is_header kind.Mem = true
is_header kind.Key = true
is_header kind.Smc = false
is_header kind.Enter = false
is_header kind.Leave = false
is_header kind.Write = false
is_header kind.Show = false

-- of another line: those of a trace, and none of the header stands behind a signal
abbrev pub other_rules : Option LineKind → List (List ℕ) → NotifyFront → List (List ℕ) → List (BadKind × Bool)
other_rules None natives before words = (bad.Item, false) ∷ []
other_rules (Some kind) natives before words =
    (bad.Count, counts (words_behind kind) words)
    ∷ (bad.Place, has_no_signal before.signals || not (is_header kind))
    ∷ rules_behind kind natives before.trace (drop 1 words)

abbrev pub rules_of_words : List (List ℕ) → NotifyFront → List (List ℕ) → List (BadKind × Bool)
rules_of_words natives before words =
    if is_signal words then signal_rules before words else other_rules (kind_named (word words 0)) natives before words

-- the rules of a line, given whether a line feed ends it
unfoldable pub line_rules : List (List ℕ) → NotifyFront → Bool → List ℕ → List (BadKind × Bool)
line_rules natives before ended line =
    (bad.Byte, list_all is_text_byte line)
    ∷ (bad.Cut, ended)
    ∷ (if is_skipped line then [] else rules_of_words natives before (words_of line))

-- ---- what a line that keeps its rules adds

-- a signal of this value, behind the items so far
abbrev pub with_signal : NotifyFront → ℕ → NotifyFront
with_signal before value =
    record before { signals = before.signals ++ record { at = length before.trace.items; value = value } ∷ [] }

abbrev pub with_line : NotifyFront → List ℕ → NotifyFront
with_line before line =
    if is_signal (words_of line)
    then with_signal before (decimal (word (words_of line) 1))
    else record before { trace = trace.after_line before.trace line }

-- the trace that the lines before and this one spell
unfoldable pub after_line : NotifyFront → List ℕ → NotifyFront
after_line before line = if is_skipped line then before else with_line before line
