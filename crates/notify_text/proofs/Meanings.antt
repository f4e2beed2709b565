-- What a text of a trace with signals means, and what its reader answers.
use Rattle.std.proofs.Common.{◌≡◌, ℕ, cond, List, [], ◌∷◌, Result, Ok, Err}
use Rattle.std.specs.List.{list_all}
use Rattle.line_grammar.specs.Grammar.{EndsEachLine}
use Rattle.line_grammar.specs.Reading.{read_pieces}
use Rattle.line_grammar.proofs.Meanings as grammar
use Rattle.text_lines.specs.Lines.{is_skipped}
use Rattle.text_lines.specs.Words.{words_of}
use Rattle.trace_text.specs.Grammar.{pieces_of}
use Rattle.trace_text.specs.Judging.{IsUnlessMemory}
use Rattle.trace_text.specs.Rules.{is_text_byte}
use Rattle.trace_text.specs.declared.fault.BadKind.{BadKind}
use Rattle.trace_text.specs.declared.fault.TraceFault.{TraceFault}
use Rattle.trace_text.proofs.Answered.{Clauses, answer_from_read, cut_breaks}
use Rattle.notify_text.specs.Grammar.{EveryText, IsFirstFault, Spells, signal_lines}
use Rattle.notify_text.specs.Rules.{line_rules, no_lines, rules_of_words}
use Rattle.notify_text.specs.Sound.{IsSoundTold}
use Rattle.notify_text.specs.declared.notify_trace.NotifyTrace.{NotifyTrace}
use Rattle.notify_text.proofs.SoundSignals.{sound-spelled}

ends_each_line : (natives : List (List ℕ)) → EndsEachLine (signal_lines natives)
unfolding line_rules
ends_each_line natives before b bytes e =
    let line = b ∷ bytes in
    cut_breaks (list_all is_text_byte line) (cond (is_skipped line) [] (rules_of_words natives before (words_of line))) e

pub spelled_read : (natives : List (List ℕ)) (text : List ℕ) (value : NotifyTrace) → read_pieces (signal_lines natives) 1 no_lines (pieces_of text) ≡ Ok value → Spells natives text value
spelled_read natives text value e = grammar.spelled_read (signal_lines natives) text value (ends_each_line natives) e

pub first_fault_read : (natives : List (List ℕ)) (text : List ℕ) (place : ℕ) (kind : BadKind) → read_pieces (signal_lines natives) 1 no_lines (pieces_of text) ≡ Err (place, kind) → IsFirstFault natives text place kind
first_fault_read natives text place kind e = grammar.fault_read (signal_lines natives) text (place, kind) e

pub every_text : EveryText
every_text natives text = grammar.meaning (signal_lines natives) text (ends_each_line natives)

pub answer_read : (natives : List (List ℕ)) (text : List ℕ) (r : Result NotifyTrace TraceFault) → IsUnlessMemory r (read_pieces (signal_lines natives) 1 no_lines (pieces_of text))
    → Clauses (Spells natives text) (IsSoundTold natives) (IsFirstFault natives text) r
answer_read natives text r read =
    answer_from_read (signal_lines natives) (IsSoundTold natives) text r (ends_each_line natives) (sound-spelled natives text) read
