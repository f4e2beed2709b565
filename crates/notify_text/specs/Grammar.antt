-- The texts of traces with signals: which one a text spells, and what the first fault of any other text is. This project's
-- own.
use Rattle.std.specs.Prelude.{◌≡◌, ℕ, List, [], Bool, true, not, Option}
use Rattle.std.specs.List.{list_all}
use Rattle.line_grammar.specs.Grammar.{LineGrammar}
use Rattle.line_grammar.specs.Grammar as grammar
use Rattle.line_grammar.specs.Meaning.{Meaning}
use Rattle.notify_text.specs.Rules.{NotifyFront, after_line, is_signal, line_rules, no_lines, notify_trace_in}
use Rattle.notify_text.specs.declared.notify_trace.NotifyTrace.{NotifyTrace}
use Rattle.text_lines.specs.Words.{words_of}
use Rattle.trace_text.specs.Grammar.{IsFaultBy, pieces_of}
use Rattle.trace_text.specs.Grammar as trace
use Rattle.trace_text.specs.Limits.{end_fault, first_broken}
use Rattle.trace_text.specs.declared.fault.BadKind.{BadKind}
use Rattle.trace_text.specs.declared.fault.TraceFault.{TraceFault}
use Rattle.trace_text.specs.declared.trace.Trace.{Trace}

-- the lines of traces with signals, beside built-in applications of these UUIDs: at the end no processor is inside
abbrev pub signal_lines : List (List ℕ) → LineGrammar NotifyFront NotifyTrace BadKind
signal_lines natives = record {
  first = no_lines;
  line_fault = λ before ended line. first_broken (line_rules natives before ended line);
  after_line = after_line;
  end_fault = λ before. end_fault before.trace;
  value = notify_trace_in;
}

-- lines that follow each other, each ended and with every rule kept, and lead from one trace to another
abbrev pub Leads : List (List ℕ) → NotifyFront → List (List ℕ) → NotifyFront → Type 0
Leads natives before lines after = grammar.Leads (signal_lines natives) before lines after

-- the fault of a piece, given the pieces behind it
abbrev pub piece_fault : List (List ℕ) → NotifyFront → List ℕ → List (List ℕ) → Option BadKind
piece_fault natives before piece pieces = grammar.piece_fault (signal_lines natives) before piece pieces

-- the text spells the trace
abbrev pub Spells : List (List ℕ) → List ℕ → NotifyTrace → Type 0
Spells natives text value = grammar.Spells (signal_lines natives) text value

-- the first fault of the text
abbrev pub IsFirstFault : List (List ℕ) → List ℕ → ℕ → BadKind → Type 0
IsFirstFault natives text place kind = grammar.IsFirstFault (signal_lines natives) text place kind

-- what was answered is the text's first fault, or want of memory
abbrev pub IsFaultOf : List (List ℕ) → List ℕ → TraceFault → Type 0
IsFaultOf natives text fault = IsFaultBy (IsFirstFault natives text) fault

-- a text spells one trace, or has one first fault, and not both
abbrev pub EveryText : Type 0
EveryText = (natives : List (List ℕ)) (text : List ℕ) → Meaning (Spells natives text) (IsFirstFault natives text)

-- the line doesn't begin with `signal`
abbrev pub is_no_signal : List ℕ → Bool
is_no_signal line = not (is_signal (words_of line))

-- a trace with no signal
abbrev pub without_signals : Trace → NotifyTrace
without_signals told = record { trace = told; signals = [] }

-- the text spells with signals what it spells as a trace, which has none; and its first fault is that of a trace
pub record IsTraceText (natives : List (List ℕ)) (text : List ℕ) : Type 0 where
  pub spells : (told : Trace) → trace.Spells natives text told → Spells natives text (without_signals told)
  pub only : (told : NotifyTrace) → Spells natives text told →
      (told ≡ without_signals told.trace) × trace.Spells natives text told.trace
  pub faults : (place : ℕ) (kind : BadKind) →
      trace.IsFirstFault natives text place kind → IsFirstFault natives text place kind
  pub no_other : (place : ℕ) (kind : BadKind) →
      IsFirstFault natives text place kind → trace.IsFirstFault natives text place kind

-- a text in which no line begins with `signal` is the text of a trace
abbrev pub AreTraces : Type 0
AreTraces = (natives : List (List ℕ)) (text : List ℕ) →
    list_all is_no_signal (pieces_of text) ≡ true → IsTraceText natives text
