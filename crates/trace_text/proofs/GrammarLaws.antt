-- The texts of traces and their first faults.
use Rattle.std.proofs.Common.{◌≡◌, ℕ, cond, List, [], ◌∷◌, Result, Ok, Err}
use Rattle.std.specs.List.{list_all}
use Rattle.line_grammar.specs.Grammar.{EndsEachLine}
use Rattle.line_grammar.specs.Reading.{read_pieces}
use Rattle.line_grammar.proofs.Meanings as grammar
use Rattle.text_lines.specs.Lines.{is_skipped}
use Rattle.text_lines.specs.Words.{words_of}
use Rattle.trace_text.specs.declared.fault.BadKind.{BadKind}
use Rattle.trace_text.specs.declared.fault.TraceFault.{TraceFault}
use Rattle.trace_text.specs.declared.trace.Trace.{Trace}
use Rattle.trace_text.specs.Limits.{no_front}
use Rattle.trace_text.specs.Rules.{line_rules, is_text_byte, kind_named, rules_of_kind, word}
use Rattle.trace_text.specs.Grammar.{EveryText, IsFirstFault, Spells, pieces_of, trace_lines}
use Rattle.trace_text.specs.Judging.{IsUnlessMemory}
use Rattle.trace_text.specs.Sound.{IsSound}
use Rattle.trace_text.proofs.Answered.{Clauses, answer_from_read, cut_breaks}
use Rattle.trace_text.proofs.SoundLaws.{IsSound-spelled}

ends_each_line : (natives : List (List ℕ)) → EndsEachLine (trace_lines natives)
unfolding line_rules
ends_each_line natives before b bytes e =
    let line = b ∷ bytes in
    cut_breaks (list_all is_text_byte line) (cond (is_skipped line) [] (rules_of_kind (kind_named (word (words_of line) 0)) natives before (words_of line))) e

pub spelled_read : (natives : List (List ℕ)) (text : List ℕ) (trace : Trace) → read_pieces (trace_lines natives) 1 no_front (pieces_of text) ≡ Ok trace → Spells natives text trace
spelled_read natives text trace e = grammar.spelled_read (trace_lines natives) text trace (ends_each_line natives) e

pub first_fault_read : (natives : List (List ℕ)) (text : List ℕ) (place : ℕ) (kind : BadKind) → read_pieces (trace_lines natives) 1 no_front (pieces_of text) ≡ Err (place, kind) → IsFirstFault natives text place kind
first_fault_read natives text place kind e = grammar.fault_read (trace_lines natives) text (place, kind) e

pub every_text : EveryText
every_text natives text = grammar.meaning (trace_lines natives) text (ends_each_line natives)

pub answer_read : (natives : List (List ℕ)) (text : List ℕ) (r : Result Trace TraceFault) → IsUnlessMemory r (read_pieces (trace_lines natives) 1 no_front (pieces_of text))
    → Clauses (Spells natives text) (IsSound natives) (IsFirstFault natives text) r
answer_read natives text r read =
    answer_from_read (trace_lines natives) (IsSound natives) text r (ends_each_line natives) (IsSound-spelled natives text) read
