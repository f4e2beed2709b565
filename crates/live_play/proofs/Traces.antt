-- Conversations without bad lines and refusals: their lines are a trace with signals, and without its signals a trace.
use Rattle.std.proofs.Common.{◌≡◌, ℕ, inl, inr, Bool, true, false, cond, List, [], ◌∷◌, ◌++◌, map, filter, Option, Some, None, refl, sym, ap, subst, ◌∙◌, append_assoc, eqb}
use Rattle.std.specs.Prelude.{is_some, not}
use Rattle.std.specs.List.{AllByRecursion, flat_map, list_all}
use Rattle.std.specs.Option.{option_map}
use Rattle.std.proofs.lemmas.Bool.{and_parts, eqb-true}
use Rattle.std.proofs.lemmas.List.Elements.{All-cons, All-nil}
use Rattle.kernel_model.specs.Application.{Native}
use Rattle.kernel_model.proofs.Parts.{option_map_some}
use Rattle.line_port.specs.History.{Input}
use Rattle.line_port.specs.History as heard
use Rattle.notify_play.specs.NotifyPlay.{Drivers}
use Rattle.notify_play.specs.Text.{notify_text_by, notify_text_of, notify_text_of_play}
use Rattle.notify_text.specs.Grammar.{Leads, is_no_signal}
use Rattle.notify_text.specs.Rules.{NotifyFront, after_line, is_signal, line_rules, no_lines, notify_trace_in}
use Rattle.notify_text.proofs.Lines.{after-same, after-signal, after-skipped, kept-of-trace}
use Rattle.play_model.specs.Line.{Line, text_of_line}
use Rattle.play_model.specs.Text.{text_by, text_of, text_of_play}
use Rattle.ta_isa.specs.declared.boot.Boot.{Boot}
use Rattle.text_lines.specs.Lines.{Lacks, is_skipped}
use Rattle.text_lines.specs.Words.{words_of}
use Rattle.trace_text.specs.Grammar.{pieces_of}
use Rattle.trace_text.specs.Grammar as trace
use Rattle.trace_text.specs.Limits.{Front, first_broken, trace_in}
use Rattle.trace_text.specs.Rules.{is_text_byte}
use Rattle.trace_text.specs.declared.fault.BadKind.{BadKind}
use Rattle.trace_text.specs.declared.trace.Trace.{Trace}
use Rattle.trace_text.proofs.Pieces.{first_piece}
use Rattle.live_play.specs.Answer.{Platform, after_heard, answer, fault_at, is_done, platform, refused_at, uuids_in}
use Rattle.live_play.specs.Conversation.{after_all, answers}
use Rattle.live_play.specs.Laws.{GoodConversationsAreTraces, IsUnasked, UnaskedConversationsAreRuns, all_done, lines_behind, text_of_lines, text_said}
use Rattle.live_play.proofs.Effects.{no_feed}
use Rattle.live_play.proofs.Talking.{answer_by, answer_unless, counted, play_of, printed_by, stage-first, talked, turns_are_told, with_boot, without_boot}

-- ---- lines of text have no line feed

abbrev is_other : ℕ → Type 0
is_other b = eqb b 10 ≡ false

no_feed_byte : (b : ℕ) → is_text_byte b ≡ true → is_other b
no_feed_byte b e = by (eqb b 10) refl
  where
    by : (same : Bool) → eqb b 10 ≡ same → is_other b
    by true is =
        let feed : b ≡ 10 = eqb-true b 10 is in
        absurd (let no : is_text_byte 10 ≡ true = subst (λ (n : ℕ). is_text_byte n ≡ true) feed e in cc)
    by false is = is

lacks_feed : (line : List ℕ) → list_all is_text_byte line ≡ true → Lacks 10 line
lacks_feed [] e = All-nil is_other
lacks_feed (b ∷ line) e =
    let p = and_parts (is_text_byte b) (list_all is_text_byte line) e in
    All-cons is_other b line (no_feed_byte b p.0) (lacks_feed line p.1)

abbrev LackFeeds : List (List ℕ) → Type 0
LackFeeds lines = AllByRecursion (Lacks 10) lines

-- so that they are the pieces of their text
pieces-lines : (lines : List (List ℕ)) → LackFeeds lines → pieces_of (text_of_lines lines) ≡ lines ++ [] ∷ []
pieces-lines [] lack = refl
pieces-lines (line ∷ lines) lack =
    let text : List ℕ = text_of_lines lines in
    first_piece (text_of_lines (line ∷ lines)) line text (lack.0, append_assoc line (10 ∷ []) text)
    ∙ ap (λ (l : List (List ℕ)). line ∷ l) (pieces-lines lines lack.1)

-- ---- lines that count

-- an answer that ends with `ok` is to a line that counts
record Counts (on : Platform) (before : NotifyFront) (line : List ℕ) (after : NotifyFront) : Type 0 where
  kept : fault_at on before line ≡ None
  counts : after ≡ after_line before line

counts_between : (on : Platform) (before : NotifyFront) (line : List ℕ) → fault_at on before line ≡ None → (refused : Option ℕ)
    → is_done (answer_unless on before (after_line before line) refused).ending ≡ true
    → Counts on before line (counted before (after_line before line) (answer_unless on before (after_line before line) refused).ending)
counts_between on before line kept (Some more) e = absurd cc
counts_between on before line kept None e = record { kept = kept; counts = refl }

counts_line : (on : Platform) (before : NotifyFront) (line : List ℕ) (fault : Option BadKind) → fault_at on before line ≡ fault
    → is_done (answer_by on before line fault).ending ≡ true
    → Counts on before line (counted before (after_line before line) (answer_by on before line fault).ending)
counts_line on before line (Some kind) is e = absurd cc
counts_line on before line None is e = counts_between on before line is (refused_at on (after_line before line)) e

record AreLed (on : Platform) (before : NotifyFront) (inputs : List Input) : Type 0 where
  lines : List (List ℕ)
  are : inputs ≡ map heard.Line lines
  leads : Leads (uuids_in on) before lines (after_all on before inputs)
  lack : LackFeeds lines

led_on : (on : Platform) (before : NotifyFront) (line : List ℕ) (inputs : List Input)
    → Counts on before line (after_heard on before (heard.Line line))
    → AreLed on (after_heard on before (heard.Line line)) inputs → AreLed on before (heard.Line line ∷ inputs)
led_on on before line inputs counted rest = record {
  lines = line ∷ rest.lines;
  are = ap (λ (l : List Input). heard.Line line ∷ l) rest.are;
  leads = (
    counted.kept,
    subst (λ (f : NotifyFront). Leads (uuids_in on) f rest.lines (after_all on (after_heard on before (heard.Line line)) inputs))
        counted.counts rest.leads,
  );
  lack = (lacks_feed line (no_feed (uuids_in on) before line counted.kept), rest.lack);
}

led : (on : Platform) (before : NotifyFront) (inputs : List Input) → all_done (answers on before inputs) ≡ true
    → AreLed on before inputs
led on before [] e = record { lines = []; are = refl; leads = refl; lack = tt }
led on before (heard.Line line ∷ inputs) e =
    let p = and_parts (is_done (answer on before (heard.Line line)).ending)
    (all_done (answers on (after_heard on before (heard.Line line)) inputs)) e in
    led_on on before line inputs (counts_line on before line (fault_at on before line) refl p.0)
    (led on (after_heard on before (heard.Line line)) inputs p.1)
led on before (heard.Long ∷ inputs) e = absurd cc
led on before (heard.Cut ∷ inputs) e = absurd cc

-- ---- a trace with signals

some_text : (one other : List ℕ) → Some one ≡ Some other → one ≡ other
some_text one other e = cc

-- what was said is the text of the play
said_is : (natives : List Native) (drivers : Drivers) (inputs : List Input) (text : List ℕ) (boot : Option Boot)
    → (lines_behind natives drivers inputs).trace.boot ≡ boot
    → notify_text_of natives drivers (notify_trace_in (lines_behind natives drivers inputs)) ≡ Some text
    → text_said natives drivers inputs ≡ text
said_is natives drivers inputs text None there e =
    let on : Platform = platform natives drivers in
    let last : NotifyFront = lines_behind natives drivers inputs in
    let grown = (talked on no_lines inputs (stage-first on)).grown (inl there) in
    let none = ap printed_by (without_boot on last there) in
    let written : Some [] ≡ Some text =
    sym (ap (λ (b : Option Boot). notify_text_by natives drivers (notify_trace_in last) b) there) ∙ e in
    ap (flat_map text_of_line) (sym grown.1 ∙ none) ∙ some_text [] text written
said_is natives drivers inputs text (Some boot) there e =
    let on : Platform = platform natives drivers in
    let last : NotifyFront = lines_behind natives drivers inputs in
    let written : option_map notify_text_of_play (play_of on boot last) ≡ Some text =
    sym (ap (λ (b : Option Boot). notify_text_by natives drivers (notify_trace_in last) b) there) ∙ e in
    let play = option_map_some notify_text_of_play (play_of on boot last) text written in
    let played_there = with_boot on boot last there ∙ play.1 in
    let grown = (talked on no_lines inputs (stage-first on)).grown (inr (ap is_some played_there)) in
    ap (flat_map text_of_line) (sym grown.1 ∙ ap printed_by played_there) ∙ play.2

pub good_conversations_are_traces : GoodConversationsAreTraces
good_conversations_are_traces natives drivers inputs e =
    let last : NotifyFront = lines_behind natives drivers inputs in
    let l = led (platform natives drivers) no_lines inputs e in
    record {
      lines = l.lines;
      are = l.are;
      leads = l.leads;
      spells = λ outside. record {
        lines = l.lines;
        text_is = pieces-lines l.lines l.lack;
        end = last;
        spelled = l.leads;
        value_is = refl;
        no_end_fault = outside;
      };
      text = λ text. said_is natives drivers inputs text last.trace.boot refl;
    }

-- ---- a trace without the signals

filtered_one : (line : List ℕ) (lines : List (List ℕ)) → Lacks 10 line → LackFeeds lines → (plain : Bool)
    → LackFeeds (cond plain (line ∷ lines) lines)
filtered_one line lines lacks lack true = (lacks, lack)
filtered_one line lines lacks lack false = lack

filtered_lack : (lines : List (List ℕ)) → LackFeeds lines → LackFeeds (filter is_no_signal lines)
filtered_lack [] lack = tt
filtered_lack (line ∷ lines) lack =
    filtered_one line (filter is_no_signal lines) lack.0 (filtered_lack lines lack.1) (is_no_signal line)

-- a signal adds nothing to the trace
signal_aside : (before : NotifyFront) (line : List ℕ) (skipped : Bool) → is_skipped line ≡ skipped
    → is_signal (words_of line) ≡ true → (after_line before line).trace ≡ before.trace
signal_aside before line true skips is = ap (λ (f : NotifyFront). f.trace) (after-skipped before line skips)
signal_aside before line false some is = ap (λ (f : NotifyFront). f.trace) (after-signal before line some is)

-- what leads from one trace to another where a line more stands in front
leads_by : (natives : List (List ℕ)) (before : NotifyFront) (line : List ℕ) (lines : List (List ℕ)) (after : Front)
    → first_broken (line_rules natives before true line) ≡ None
    → trace.Leads natives (after_line before line).trace lines after
    → (is : Bool) → is_signal (words_of line) ≡ is
    → trace.Leads natives before.trace (cond (not is) (line ∷ lines) lines) after
leads_by natives before line lines after kept leads true is =
    subst (λ (f : Front). trace.Leads natives f lines after) (signal_aside before line (is_skipped line) refl is) leads
leads_by natives before line lines after kept leads false is = (
  kept-of-trace natives before line is kept,
  subst (λ (f : Front). trace.Leads natives f lines after)
      (ap (λ (f : NotifyFront). f.trace) (after-same before line is)) leads,
)

leads_aside : (natives : List (List ℕ)) (before : NotifyFront) (lines : List (List ℕ)) (after : NotifyFront)
    → Leads natives before lines after → trace.Leads natives before.trace (filter is_no_signal lines) after.trace
leads_aside natives before [] after leads = ap (λ (f : NotifyFront). f.trace) leads
leads_aside natives before (line ∷ lines) after leads =
    leads_by natives before line (filter is_no_signal lines) after.trace leads.0
    (leads_aside natives (after_line before line) lines after leads.1) (is_signal (words_of line)) refl

-- the text of the trace's play
run_is : (natives : List Native) (drivers : Drivers) (inputs : List Input)
    → IsUnasked (platform natives drivers) (lines_behind natives drivers inputs)
    → text_of natives (trace_in (lines_behind natives drivers inputs).trace) ≡ Some (text_said natives drivers inputs)
run_is natives drivers inputs unasked =
    let on : Platform = platform natives drivers in
    let told : Trace = trace_in (lines_behind natives drivers inputs).trace in
    let held = turns_are_told on inputs unasked.boot unasked.told unasked.there unasked.boots unasked.played in
    ap (text_by natives told) unasked.there
    ∙ ap (option_map text_of_play) (held.unasked unasked.asks)
    ∙ ap (λ (lines : List Line). Some (flat_map text_of_line lines)) (sym held.printed)

pub unasked_conversations_are_runs : UnaskedConversationsAreRuns
unasked_conversations_are_runs natives drivers inputs e unasked =
    let last : NotifyFront = lines_behind natives drivers inputs in
    let l = led (platform natives drivers) no_lines inputs e in
    record {
      lines = l.lines;
      are = l.are;
      spells = λ outside. record {
        lines = filter is_no_signal l.lines;
        text_is = pieces-lines (filter is_no_signal l.lines) (filtered_lack l.lines l.lack);
        end = last.trace;
        spelled = leads_aside (uuids_in (platform natives drivers)) no_lines l.lines last l.leads;
        value_is = refl;
        no_end_fault = outside;
      };
      text = run_is natives drivers inputs unasked;
    }
