-- A line of a trace with signals beside the same line of a trace: a line that is no signal's has one rule more.
use Rattle.std.proofs.Common.{◌≡◌, ℕ, Bool, true, false, cond, List, [], ◌∷◌, Option, Some, None, refl, sym, ap, ◌∙◌}
use Rattle.std.specs.Prelude.{◌||◌, not, drop}
use Rattle.std.specs.List.{list_all}
use Rattle.text_lines.specs.Lines.{is_skipped}
use Rattle.text_lines.specs.Words.{words_of}
use Rattle.trace_text.specs.Forms.{decimal}
use Rattle.line_grammar.specs.Grammar as grammar
use Rattle.trace_text.specs.Grammar.{piece_fault as trace_fault}
use Rattle.trace_text.specs.Limits.{Front, first_broken}
use Rattle.trace_text.specs.Rules.{added_by_kind, counts, is_text_byte, kind_named, rules_behind, rules_of_kind, word, words_behind}
use Rattle.trace_text.specs.Rules.{after_line as after_trace_line, line_rules as trace_rules}
use Rattle.trace_text.specs.declared.fault.BadKind.{BadKind}
use Rattle.trace_text.specs.declared.fault.BadKind.TheVariants as bad
use Rattle.trace_text.specs.declared.line_kind.LineKind.{LineKind}
use Rattle.notify_text.specs.Grammar.{piece_fault}
use Rattle.notify_text.specs.Rules.{NotifyFront, after_line, has_no_signal, is_header, is_signal, line_rules, other_rules, rules_of_words, signal_rules, with_line, with_signal}
use Rattle.notify_text.specs.Statement.{with_trace}

-- a rule more is a rule more
one-more : (counted place : Bool) (rest : Option BadKind)
    → cond counted (cond place rest (Some bad.Place)) (Some bad.Count) ≡ None
    → cond counted rest (Some bad.Count) ≡ None
one-more true true rest e = e
one-more true false rest e = absurd cc
one-more false place rest e = absurd cc

other-kept : (named : Option LineKind) (natives : List (List ℕ)) (before : NotifyFront) (words : List (List ℕ))
    → first_broken (other_rules named natives before words) ≡ None
    → first_broken (rules_of_kind named natives before.trace words) ≡ None
unfolding rules_behind
other-kept None natives before words e = e
other-kept (Some kind) natives before words e =
    one-more (counts (words_behind kind) words) (has_no_signal before.signals || not (is_header kind))
    (first_broken (rules_behind kind natives before.trace (drop 1 words))) e

-- where no signal stands
other-alone : (named : Option LineKind) (natives : List (List ℕ)) (before : Front) (words : List (List ℕ))
    → first_broken (other_rules named natives (record { trace = before; signals = [] }) words)
    ≡ first_broken (rules_of_kind named natives before words)
unfolding rules_behind
other-alone None natives before words = refl
other-alone (Some kind) natives before words = refl

-- ---- the rules of a line by its words

words-other : (natives : List (List ℕ)) (before : NotifyFront) (words : List (List ℕ)) → is_signal words ≡ false
    → first_broken (rules_of_words natives before words)
    ≡ first_broken (other_rules (kind_named (word words 0)) natives before words)
words-other natives before words plain =
    ap (λ (b : Bool). first_broken (cond b (signal_rules before words)
    (other_rules (kind_named (word words 0)) natives before words))) plain

-- behind two rules, unless the line is skipped
behind_two : (one two : BadKind × Bool) (skipped : Bool) (rules others : List (BadKind × Bool))
    → first_broken rules ≡ first_broken others
    → first_broken (one ∷ two ∷ cond skipped [] rules) ≡ first_broken (one ∷ two ∷ cond skipped [] others)
behind_two one two true rules others e = refl
behind_two one two false rules others e =
    ap (λ (o : Option BadKind). cond one.1 (cond two.1 o (Some two.0)) (Some one.0)) e

-- a line that is no signal's, where no signal stands
pub rules-alone : (natives : List (List ℕ)) (before : Front) (ended : Bool) (line : List ℕ)
    → is_signal (words_of line) ≡ false
    → first_broken (line_rules natives (record { trace = before; signals = [] }) ended line) ≡ first_broken (trace_rules natives before ended line)
unfolding line_rules trace_rules rules_behind
rules-alone natives before ended line plain =
    let alone : NotifyFront = record { trace = before; signals = [] } in
    behind_two (bad.Byte, list_all is_text_byte line) (bad.Cut, ended) (is_skipped line) (rules_of_words natives alone (words_of line))
    (rules_of_kind (kind_named (word (words_of line) 0)) natives before (words_of line))
    (words-other natives alone (words_of line) plain ∙ other-alone (kind_named (word (words_of line) 0)) natives before (words_of line))

-- the rules of the words decide, where the bytes may stand and the line isn't skipped
by-words : (text skipped : Bool) (rules : List (BadKind × Bool)) → text ≡ true → skipped ≡ false
    → first_broken ((bad.Byte, text) ∷ (bad.Cut, true) ∷ cond skipped [] rules) ≡ first_broken rules
by-words true false rules e f = refl
by-words true true rules e f = absurd cc
by-words false skipped rules e f = absurd cc

pub rules-by-words : (natives : List (List ℕ)) (before : NotifyFront) (line : List ℕ)
    → list_all is_text_byte line ≡ true → is_skipped line ≡ false
    → first_broken (line_rules natives before true line) ≡ first_broken (rules_of_words natives before (words_of line))
unfolding line_rules
rules-by-words natives before line text some =
    by-words (list_all is_text_byte line) (is_skipped line) (rules_of_words natives before (words_of line)) text some

-- a line that keeps its rules keeps those of a trace
behind_both : (text skipped : Bool) (rules others : List (BadKind × Bool))
    → (first_broken rules ≡ None → first_broken others ≡ None)
    → first_broken ((bad.Byte, text) ∷ (bad.Cut, true) ∷ cond skipped [] rules) ≡ None
    → first_broken ((bad.Byte, text) ∷ (bad.Cut, true) ∷ cond skipped [] others) ≡ None
behind_both true true rules others goes e = e
behind_both true false rules others goes e = goes e
behind_both false skipped rules others goes e = absurd cc

pub kept-of-trace : (natives : List (List ℕ)) (before : NotifyFront) (line : List ℕ)
    → is_signal (words_of line) ≡ false → first_broken (line_rules natives before true line) ≡ None
    → first_broken (trace_rules natives before.trace true line) ≡ None
unfolding line_rules trace_rules
kept-of-trace natives before line plain kept =
    behind_both (list_all is_text_byte line) (is_skipped line) (rules_of_words natives before (words_of line))
    (rules_of_kind (kind_named (word (words_of line) 0)) natives before.trace (words_of line))
    (λ e. other-kept (kind_named (word (words_of line) 0)) natives before (words_of line)
    (sym (words-other natives before (words_of line) plain) ∙ e))
    kept

-- ---- what a line adds

after_where : (before : NotifyFront) (line : List ℕ) (skipped : Bool) → is_skipped line ≡ skipped
    → is_signal (words_of line) ≡ false
    → after_line before line ≡ with_trace before (after_trace_line before.trace line)
unfolding after_line after_trace_line
after_where before line true is plain =
    let there : after_trace_line before.trace line ≡ before.trace = ap (λ (b : Bool).
    cond b before.trace (added_by_kind (kind_named (word (words_of line) 0)) before.trace (words_of line))) is in
    ap (λ (b : Bool). cond b before (with_line before line)) is ∙ ap (with_trace before) (sym there)
after_where before line false is plain =
    ap (λ (b : Bool). cond b before (with_line before line)) is
    ∙ ap (λ (b : Bool).
    cond b (with_signal before (decimal (word (words_of line) 1)))
    (with_trace before (after_trace_line before.trace line))) plain

pub after-same : (before : NotifyFront) (line : List ℕ) → is_signal (words_of line) ≡ false
    → after_line before line ≡ with_trace before (after_trace_line before.trace line)
after-same before line plain = after_where before line (is_skipped line) refl plain

pub after-signal : (before : NotifyFront) (line : List ℕ) → is_skipped line ≡ false → is_signal (words_of line) ≡ true
    → after_line before line ≡ with_signal before (decimal (word (words_of line) 1))
unfolding after_line
after-signal before line some is =
    ap (λ (b : Bool). cond b before (with_line before line)) some
    ∙ ap (λ (b : Bool).
    cond b (with_signal before (decimal (word (words_of line) 1)))
    (with_trace before (after_trace_line before.trace line))) is

pub after-skipped : (before : NotifyFront) (line : List ℕ) → is_skipped line ≡ true → after_line before line ≡ before
unfolding after_line
after-skipped before line is = ap (λ (b : Bool). cond b before (with_line before line)) is

-- ---- the end of a text

-- what stands behind the last line feed has the fault that it has in a trace
pub end-same : (natives : List (List ℕ)) (before : NotifyFront) (rest : List ℕ)
    → piece_fault natives before rest [] ≡ trace_fault natives before.trace rest []
unfolding grammar.piece_fault line_rules trace_rules
end-same natives before [] = refl
end-same natives before (b ∷ bytes) = refl
