-- The texts of a client's scripts: which one a text spells, and what the first fault of any other text is. This project's own.
use Rattle.std.specs.Prelude.{ℕ, List, Option, None}
use Rattle.client_text.specs.Rules.{ScriptFront, after_line, line_rules, no_lines, script_in}
use Rattle.client_text.specs.declared.script.Script.{Script}
use Rattle.line_grammar.specs.Grammar.{LineGrammar}
use Rattle.line_grammar.specs.Grammar as grammar
use Rattle.line_grammar.specs.Meaning.{Meaning}
use Rattle.trace_text.specs.Grammar.{IsFaultBy}
use Rattle.trace_text.specs.Limits.{first_broken}
use Rattle.trace_text.specs.declared.fault.BadKind.{BadKind}
use Rattle.trace_text.specs.declared.fault.TraceFault.{TraceFault}

-- the lines of scripts, beside built-in applications of these UUIDs; the text may end behind any line
abbrev pub script_lines : List (List ℕ) → LineGrammar ScriptFront Script BadKind
script_lines natives = record {
  first = no_lines;
  line_fault = λ before ended line. first_broken (line_rules natives before ended line);
  after_line = after_line;
  end_fault = λ before. None;
  value = script_in;
}

-- lines that follow each other, each ended and with every rule kept, and lead from one script to another
abbrev pub Leads : List (List ℕ) → ScriptFront → List (List ℕ) → ScriptFront → Type 0
Leads natives before lines after = grammar.Leads (script_lines natives) before lines after

-- the fault of a piece, given the pieces behind it
abbrev pub piece_fault : List (List ℕ) → ScriptFront → List ℕ → List (List ℕ) → Option BadKind
piece_fault natives before piece pieces = grammar.piece_fault (script_lines natives) before piece pieces

-- the text spells the script
abbrev pub Spells : List (List ℕ) → List ℕ → Script → Type 0
Spells natives text value = grammar.Spells (script_lines natives) text value

-- the first fault of the text
abbrev pub IsFirstFault : List (List ℕ) → List ℕ → ℕ → BadKind → Type 0
IsFirstFault natives text place kind = grammar.IsFirstFault (script_lines natives) text place kind

-- what was answered is the text's first fault, or want of memory
abbrev pub IsFaultOf : List (List ℕ) → List ℕ → TraceFault → Type 0
IsFaultOf natives text fault = IsFaultBy (IsFirstFault natives text) fault

-- a text spells one script, or has one first fault, and not both
abbrev pub EveryText : Type 0
EveryText = (natives : List (List ℕ)) (text : List ℕ) → Meaning (Spells natives text) (IsFirstFault natives text)
