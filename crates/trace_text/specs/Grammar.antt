-- The texts of traces: which trace a text spells, and what the first fault of any other text is.
use Rattle.std.specs.Prelude.{ℕ, ◌+◌, ◌≤◌, List, ◌==◌, Option}
use Rattle.std.specs.List.{count_by}
use Rattle.line_grammar.specs.Grammar.{LineGrammar}
use Rattle.line_grammar.specs.Grammar as grammar
use Rattle.line_grammar.specs.Meaning.{Meaning}
use Rattle.trace_text.specs.declared.fault.BadKind.{BadKind}
use Rattle.trace_text.specs.declared.fault.TraceFault.{TraceFault}
use Rattle.trace_text.specs.declared.fault.TraceFault.TheVariants.{Bad, Memory}
use Rattle.trace_text.specs.declared.trace.Trace.{Trace}
use Rattle.trace_text.specs.Limits.{Front, end_fault, first_broken, no_front, trace_in}
use Rattle.trace_text.specs.Rules.{line_rules, after_line}

-- what the line feeds of a text part: its lines, and at the end what stands behind the last line feed
abbrev pub pieces_of : List ℕ → List (List ℕ)
pieces_of text = grammar.pieces_of text

-- the lines of traces, beside built-in applications of these UUIDs: at the end no processor is inside
abbrev pub trace_lines : List (List ℕ) → LineGrammar Front Trace BadKind
trace_lines natives = record {
  first = no_front;
  line_fault = λ before ended line. first_broken (line_rules natives before ended line);
  after_line = after_line;
  end_fault = end_fault;
  value = trace_in;
}

-- lines that follow each other, each ended and with every rule kept, and lead from one trace to another
abbrev pub Leads : List (List ℕ) → Front → List (List ℕ) → Front → Type 0
Leads natives before lines after = grammar.Leads (trace_lines natives) before lines after

-- the fault of a piece, given the pieces behind it
abbrev pub piece_fault : List (List ℕ) → Front → List ℕ → List (List ℕ) → Option BadKind
piece_fault natives before piece pieces = grammar.piece_fault (trace_lines natives) before piece pieces

-- the text spells the trace
abbrev pub Spells : List (List ℕ) → List ℕ → Trace → Type 0
Spells natives text trace = grammar.Spells (trace_lines natives) text trace

-- the first fault of the text
abbrev pub IsFirstFault : List (List ℕ) → List ℕ → ℕ → BadKind → Type 0
IsFirstFault natives text place kind = grammar.IsFirstFault (trace_lines natives) text place kind

-- what was answered is the first fault of what was read, or want of memory
abbrev pub IsFaultBy : (ℕ → BadKind → Type 0) → TraceFault → Type 0
IsFaultBy First (Bad place kind) = First place kind
IsFaultBy First Memory = Unit {0}

-- what was answered is the text's first fault, or want of memory
abbrev pub IsFaultOf : List (List ℕ) → List ℕ → TraceFault → Type 0
IsFaultOf natives text fault = IsFaultBy (IsFirstFault natives text) fault

-- a place from 1 to the number of lines and one more; each line but a last one without its line feed has one
abbrev pub IsPlacedIn : List ℕ → TraceFault → Type 0
IsPlacedIn text (Bad place kind) = (1 ≤ place) × (place ≤ count_by (λ b. b == 10) text + 1)
IsPlacedIn text Memory = Unit {0}

-- a text spells one trace, or has one first fault, and not both
abbrev pub EveryText : Type 0
EveryText = (natives : List (List ℕ)) (text : List ℕ) → Meaning (Spells natives text) (IsFirstFault natives text)
