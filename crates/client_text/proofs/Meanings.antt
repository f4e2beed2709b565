-- What a text of a client's script means, and what its reader answers.
use Rattle.std.proofs.Common.{◌≡◌, ℕ, cond, List, [], ◌∷◌, Result, Ok, Err}
use Rattle.std.specs.List.{list_all}
use Rattle.line_grammar.specs.Grammar.{EndsEachLine}
use Rattle.line_grammar.specs.Reading.{read_pieces}
use Rattle.line_grammar.proofs.Meanings as grammar
use Rattle.text_lines.specs.Lines.{is_skipped}
use Rattle.text_lines.specs.Words.{words_of}
use Rattle.trace_text.specs.Grammar.{pieces_of}
use Rattle.trace_text.specs.Judging.{IsUnlessMemory}
use Rattle.trace_text.specs.Rules.{is_text_byte, word}
use Rattle.trace_text.specs.declared.fault.BadKind.{BadKind}
use Rattle.trace_text.specs.declared.fault.TraceFault.{TraceFault}
use Rattle.trace_text.proofs.Answered.{Clauses, answer_from_read, cut_breaks}
use Rattle.client_text.specs.Grammar.{EveryText, IsFirstFault, Spells, script_lines}
use Rattle.client_text.specs.Rules.{call_named, line_rules, no_lines, rules_of_words}
use Rattle.client_text.specs.Sound.{IsSoundScript}
use Rattle.client_text.specs.declared.script.Script.{Script}
use Rattle.client_text.proofs.SoundScripts.{sound_spelled}

ends_each_line : (natives : List (List ℕ)) → EndsEachLine (script_lines natives)
unfolding line_rules
ends_each_line natives before b bytes e =
    let line = b ∷ bytes in
    cut_breaks (list_all is_text_byte line) (cond (is_skipped line) [] (rules_of_words (call_named (word (words_of line) 0)) natives before (words_of line))) e

pub spelled_read : (natives : List (List ℕ)) (text : List ℕ) (value : Script) → read_pieces (script_lines natives) 1 no_lines (pieces_of text) ≡ Ok value → Spells natives text value
spelled_read natives text value e = grammar.spelled_read (script_lines natives) text value (ends_each_line natives) e

pub first_fault_read : (natives : List (List ℕ)) (text : List ℕ) (place : ℕ) (kind : BadKind) → read_pieces (script_lines natives) 1 no_lines (pieces_of text) ≡ Err (place, kind) → IsFirstFault natives text place kind
first_fault_read natives text place kind e = grammar.fault_read (script_lines natives) text (place, kind) e

pub every_text : EveryText
every_text natives text = grammar.meaning (script_lines natives) text (ends_each_line natives)

pub answer_read : (natives : List (List ℕ)) (text : List ℕ) (r : Result Script TraceFault) → IsUnlessMemory r (read_pieces (script_lines natives) 1 no_lines (pieces_of text))
    → Clauses (Spells natives text) (IsSoundScript natives) (IsFirstFault natives text) r
answer_read natives text r read =
    answer_from_read (script_lines natives) (IsSoundScript natives) text r (ends_each_line natives) (sound_spelled natives text) read
