-- A text without signals means what it means of a trace.
use Rattle.std.proofs.Common.{◌≡◌, ℕ, Bool, true, false, List, [], ◌∷◌, ◌++◌, Some, refl, sym, ap, ◌∙◌, subst}
use Rattle.std.specs.List.{list_all}
use Rattle.std.specs.Prelude.{not}
use Rattle.std.proofs.lemmas.Bool.{and_parts}
use Rattle.std.proofs.lemmas.List.Folds.{list_all-append}
use Rattle.text_lines.specs.Words.{words_of}
use Rattle.trace_text.specs.Grammar.{pieces_of}
use Rattle.line_grammar.specs.Grammar as grammar
use Rattle.trace_text.specs.Grammar as trace
use Rattle.trace_text.specs.Limits.{Front, first_broken, no_front, trace_in}
use Rattle.trace_text.specs.Rules.{after_line as after_trace_line, line_rules as trace_rules}
use Rattle.trace_text.specs.declared.fault.BadKind.{BadKind}
use Rattle.notify_text.specs.Grammar.{AreTraces, IsFirstFault, Leads, is_no_signal, piece_fault, without_signals}
use Rattle.notify_text.specs.Rules.{NotifyFront, after_line, is_signal, line_rules, notify_trace_in}
use Rattle.notify_text.specs.declared.notify_trace.NotifyTrace.{NotifyTrace}
use Rattle.notify_text.proofs.Lines.{after-same, rules-alone}

-- the lines so far of a trace, and no signals
abbrev no_signals : Front → NotifyFront
no_signals front = record { trace = front; signals = [] }

-- ---- a line

is_false : (b : Bool) → not b ≡ true → b ≡ false
is_false true e = absurd cc
is_false false e = refl

rules_as_trace : (natives : List (List ℕ)) (before : Front) (ended : Bool) (line : List ℕ) → is_no_signal line ≡ true
    → first_broken (line_rules natives (no_signals before) ended line) ≡ first_broken (trace_rules natives before ended line)
rules_as_trace natives before ended line plain =
    rules-alone natives before ended line (is_false (is_signal (words_of line)) plain)

after_as_trace : (before : Front) (line : List ℕ) → is_no_signal line ≡ true
    → after_line (no_signals before) line ≡ no_signals (after_trace_line before line)
after_as_trace before line plain = after-same (no_signals before) line (is_false (is_signal (words_of line)) plain)

-- ---- lines and pieces

leads_here : (natives : List (List ℕ)) (before : Front) (lines : List (List ℕ)) (after : Front)
    → list_all is_no_signal lines ≡ true → trace.Leads natives before lines after
    → Leads natives (no_signals before) lines (no_signals after)
leads_here natives before [] after plain leads = ap no_signals leads
leads_here natives before (line ∷ lines) after plain leads =
    let both = and_parts (is_no_signal line) (list_all is_no_signal lines) plain in (
      rules_as_trace natives before true line both.0 ∙ leads.0,
      subst (λ (t : NotifyFront). Leads natives t lines (no_signals after)) (sym (after_as_trace before line both.0))
          (leads_here natives (after_trace_line before line) lines after both.1 leads.1),
    )

leads_there : (natives : List (List ℕ)) (before : Front) (lines : List (List ℕ)) (after : NotifyFront)
    → list_all is_no_signal lines ≡ true → Leads natives (no_signals before) lines after
    → (after ≡ no_signals after.trace) × trace.Leads natives before lines after.trace
leads_there natives before [] after plain leads =
    (sym leads ∙ ap (λ (t : NotifyFront). no_signals t.trace) leads, ap (λ (t : NotifyFront). t.trace) leads)
leads_there natives before (line ∷ lines) after plain leads =
    let both = and_parts (is_no_signal line) (list_all is_no_signal lines) plain in
    let behind = leads_there natives (after_trace_line before line) lines after both.1
    (subst (λ (t : NotifyFront). Leads natives t lines after) (after_as_trace before line both.0) leads.1) in
    (behind.0, (sym (rules_as_trace natives before true line both.0) ∙ leads.0, behind.1))

piece_as_trace : (natives : List (List ℕ)) (before : Front) (piece : List ℕ) (back : List (List ℕ))
    → is_no_signal piece ≡ true
    → piece_fault natives (no_signals before) piece back ≡ trace.piece_fault natives before piece back
unfolding grammar.piece_fault
piece_as_trace natives before piece (next ∷ back) plain = rules_as_trace natives before true piece plain
piece_as_trace natives before [] [] plain = refl
piece_as_trace natives before (b ∷ bytes) [] plain = rules_as_trace natives before false (b ∷ bytes) plain

-- ---- texts

-- parts of a text without signals are without
in_front : (text : List ℕ) (front : List (List ℕ)) (piece : List ℕ) (back : List (List ℕ))
    → list_all is_no_signal (pieces_of text) ≡ true → pieces_of text ≡ front ++ piece ∷ back
    → (list_all is_no_signal front ≡ true) × (is_no_signal piece ≡ true)
in_front text front piece back plain is =
    let cut = and_parts (list_all is_no_signal front) (list_all is_no_signal (piece ∷ back))
    (sym (list_all-append is_no_signal front (piece ∷ back)) ∙ ap (list_all is_no_signal) (sym is) ∙ plain) in
    (cut.0, (and_parts (is_no_signal piece) (list_all is_no_signal back) cut.1).0)

fault_there : (natives : List (List ℕ)) (text : List ℕ) (place : ℕ) (kind : BadKind)
    → list_all is_no_signal (pieces_of text) ≡ true → IsFirstFault natives text place kind
    → trace.IsFirstFault natives text place kind
fault_there natives text place kind plain f =
    let parts = in_front text f.front f.piece f.back plain f.text_is in
    let leads = leads_there natives no_front f.front f.before parts.0 f.kept in
    let found = subst (λ (t : NotifyFront). piece_fault natives t f.piece f.back ≡ Some kind) leads.0 f.fault in
    record {
      front = f.front;
      piece = f.piece;
      back = f.back;
      text_is = f.text_is;
      before = f.before.trace;
      kept = leads.1;
      place_is = f.place_is;
      fault = sym (piece_as_trace natives f.before.trace f.piece f.back parts.1) ∙ found;
    }

pub are_traces : AreTraces
are_traces natives text plain = record {
  spells = λ told s. record {
    lines = s.lines;
    text_is = s.text_is;
    end = no_signals s.end;
    spelled = leads_here natives no_front s.lines s.end (in_front text s.lines [] [] plain s.text_is).0 s.spelled;
    value_is = ap without_signals s.value_is;
    no_end_fault = s.no_end_fault;
  };
  only = λ told s.
      let leads = leads_there natives no_front s.lines s.end (in_front text s.lines [] [] plain s.text_is).0 s.spelled in
      let alone : notify_trace_in s.end ≡ without_signals (trace_in s.end.trace) = ap notify_trace_in leads.0 in
      let trace_is : trace_in s.end.trace ≡ told.trace = ap (λ (t : NotifyTrace). t.trace) s.value_is in (
        sym s.value_is ∙ alone ∙ ap without_signals trace_is,
        record { lines = s.lines; text_is = s.text_is; end = s.end.trace; spelled = leads.1; value_is = trace_is; no_end_fault = s.no_end_fault },
      );
  faults = λ place kind f.
      let parts = in_front text f.front f.piece f.back plain f.text_is in
      record {
        front = f.front;
        piece = f.piece;
        back = f.back;
        text_is = f.text_is;
        before = no_signals f.before;
        kept = leads_here natives no_front f.front f.before parts.0 f.kept;
        place_is = f.place_is;
        fault = piece_as_trace natives f.before f.piece f.back parts.1 ∙ f.fault;
      };
  no_other = λ place kind f. fault_there natives text place kind plain f;
}
