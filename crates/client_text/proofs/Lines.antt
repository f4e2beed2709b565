-- A line of a script: by what it is told by, and a line of the header beside the same line of a trace.
use Rattle.std.proofs.Common.{◌≡◌, ℕ, Bool, true, false, cond, List, [], ◌∷◌, ◌++◌, Option, Some, None, Result, Ok, Err, refl, sym, ap, ◌∙◌}
use Rattle.std.specs.Prelude.{drop}
use Rattle.std.specs.List.{list_all}
use Rattle.text_lines.specs.Lines.{is_skipped}
use Rattle.text_lines.specs.Words.{words_of}
use Rattle.line_grammar.specs.Grammar as grammar
use Rattle.trace_text.specs.Grammar.{piece_fault as trace_fault}
use Rattle.trace_text.specs.Judging.{IsTaken}
use Rattle.trace_text.specs.Limits.{Front, end_fault, first_broken, inside_after, trace_in}
use Rattle.trace_text.specs.Rules.{added, added_by_kind, counts, is_text_byte, kind_named, rules_behind, rules_of_kind, word, words_behind}
use Rattle.trace_text.specs.Rules.{after_line as after_trace_line, line_rules as trace_rules}
use Rattle.trace_text.specs.declared.fault.BadKind.{BadKind}
use Rattle.trace_text.specs.declared.fault.BadKind.TheVariants as bad
use Rattle.trace_text.specs.declared.fault.LineFault.{LineFault}
use Rattle.trace_text.specs.declared.fault.LineFault.TheVariants.{Broken, NoRoom}
use Rattle.trace_text.specs.declared.item.Item.{Item}
use Rattle.trace_text.specs.declared.trace.Trace.{Trace}
use Rattle.trace_text.specs.declared.line_kind.LineKind.{LineKind}
use Rattle.trace_text.specs.declared.line_kind.LineKind.TheVariants as kind
use Rattle.client_text.specs.Grammar.{piece_fault}
use Rattle.client_text.specs.Judging.{IsKept, header_fault}
use Rattle.client_text.specs.Rules.{ScriptFront, after_line, call_named, call_of, call_rules, has_no_call, header_rules, is_header, line_rules, rules_of_words, script_in, thread_limits, with_call, with_line}
use Rattle.client_text.specs.declared.call_kind.CallKind.{CallKind}
use Rattle.client_text.specs.declared.script.ScriptCall.{ScriptCall}

-- the header of what stands before is this one
abbrev pub with_header : ScriptFront → Front → ScriptFront
with_header before header = record before { header = header }

-- ---- rules behind others

pub broken_front : (rules others : List (BadKind × Bool)) (kind : BadKind) → first_broken rules ≡ Some kind
    → first_broken (rules ++ others) ≡ Some kind
broken_front [] others kind e = absurd cc
broken_front ((k, true) ∷ rules) others kind e = broken_front rules others kind e
broken_front ((k, false) ∷ rules) others kind e = e

pub kept_front : (rules others : List (BadKind × Bool)) → first_broken rules ≡ None
    → first_broken (rules ++ others) ≡ first_broken others
kept_front [] others e = refl
kept_front ((k, true) ∷ rules) others e = kept_front rules others e
kept_front ((k, false) ∷ rules) others e = absurd cc

pub both_kept : (rules others : List (BadKind × Bool)) → first_broken (rules ++ others) ≡ None
    → (first_broken rules ≡ None) × (first_broken others ≡ None)
both_kept [] others e = (refl, e)
both_kept ((k, true) ∷ rules) others e = both_kept rules others e
both_kept ((k, false) ∷ rules) others e = absurd cc

-- ---- a line by its words

by_words : (text skipped : Bool) (rules : List (BadKind × Bool)) → text ≡ true → skipped ≡ false
    → first_broken ((bad.Byte, text) ∷ (bad.Cut, true) ∷ cond skipped [] rules) ≡ first_broken rules
by_words true false rules e f = refl
by_words true true rules e f = absurd cc
by_words false skipped rules e f = absurd cc

-- that it keeps all rules says that its bytes may stand there, and where it isn't skipped, that it keeps those of its words
kept_words : (text skipped : Bool) (rules : List (BadKind × Bool)) → skipped ≡ false
    → first_broken ((bad.Byte, text) ∷ (bad.Cut, true) ∷ cond skipped [] rules) ≡ None
    → (text ≡ true) × (first_broken rules ≡ None)
kept_words true false rules e kept = (refl, kept)
kept_words true true rules e kept = absurd cc
kept_words false skipped rules e kept = absurd cc

pub rules_by_words : (natives : List (List ℕ)) (before : ScriptFront) (line : List ℕ)
    → list_all is_text_byte line ≡ true → is_skipped line ≡ false
    → first_broken (line_rules natives before true line)
    ≡ first_broken (rules_of_words (call_named (word (words_of line) 0)) natives before (words_of line))
unfolding line_rules
rules_by_words natives before line text some =
    by_words (list_all is_text_byte line) (is_skipped line)
    (rules_of_words (call_named (word (words_of line) 0)) natives before (words_of line)) text some

pub kept_by_words : (natives : List (List ℕ)) (before : ScriptFront) (line : List ℕ) → is_skipped line ≡ false
    → first_broken (line_rules natives before true line) ≡ None
    → (list_all is_text_byte line ≡ true)
    × (first_broken (rules_of_words (call_named (word (words_of line) 0)) natives before (words_of line)) ≡ None)
unfolding line_rules
kept_by_words natives before line some kept =
    kept_words (list_all is_text_byte line) (is_skipped line)
    (rules_of_words (call_named (word (words_of line) 0)) natives before (words_of line)) some kept

pub bad_byte : (natives : List (List ℕ)) (before : ScriptFront) (line : List ℕ) → list_all is_text_byte line ≡ false
    → first_broken (line_rules natives before true line) ≡ Some bad.Byte
unfolding line_rules
bad_byte natives before line other =
    ap (λ (b : Bool). first_broken ((bad.Byte, b) ∷ (bad.Cut, true) ∷ cond (is_skipped line) []
    (rules_of_words (call_named (word (words_of line) 0)) natives before (words_of line)))) other

pub skipped_kept : (natives : List (List ℕ)) (before : ScriptFront) (line : List ℕ) → list_all is_text_byte line ≡ true
    → is_skipped line ≡ true → first_broken (line_rules natives before true line) ≡ None
unfolding line_rules
skipped_kept natives before line text is =
    ap (λ (b : Bool). first_broken ((bad.Byte, b) ∷ (bad.Cut, true) ∷ cond (is_skipped line) []
    (rules_of_words (call_named (word (words_of line) 0)) natives before (words_of line)))) text
    ∙ ap (λ (b : Bool). first_broken (cond b [] (rules_of_words (call_named (word (words_of line) 0)) natives before (words_of line)))) is

-- ---- what a line adds

pub after_skipped : (before : ScriptFront) (line : List ℕ) → is_skipped line ≡ true → after_line before line ≡ before
unfolding after_line
after_skipped before line is =
    ap (λ (b : Bool). cond b before (with_line (call_named (word (words_of line) 0)) before line)) is

pub after_some : (before : ScriptFront) (line : List ℕ) (named : Option CallKind) → is_skipped line ≡ false
    → call_named (word (words_of line) 0) ≡ named → after_line before line ≡ with_line named before line
unfolding after_line
after_some before line named some is =
    ap (λ (b : Bool). cond b before (with_line (call_named (word (words_of line) 0)) before line)) some
    ∙ ap (λ (o : Option CallKind). with_line o before line) is

-- ---- calls

pub call_taken : (natives : List (List ℕ)) (before after : ScriptFront) (line : List ℕ) (kind : CallKind)
    (result : Result Unit LineFault) → list_all is_text_byte line ≡ true → is_skipped line ≡ false
    → call_named (word (words_of line) 0) ≡ Some kind
    → IsTaken result (call_rules kind before (words_of line)) (with_call before (call_of kind (words_of line))) after
    → IsTaken result (line_rules natives before true line) (after_line before line) after
call_taken natives before after line kind result text some is taken = by_result result taken
  where
    rules : first_broken (line_rules natives before true line) ≡ first_broken (call_rules kind before (words_of line))
    rules = rules_by_words natives before line text some
        ∙ ap (λ (o : Option CallKind). first_broken (rules_of_words o natives before (words_of line))) is

    by_result : (r : Result Unit LineFault)
        → IsTaken r (call_rules kind before (words_of line)) (with_call before (call_of kind (words_of line))) after
        → IsTaken r (line_rules natives before true line) (after_line before line) after
    by_result (Ok done) t = (rules ∙ t.0, t.1 ∙ sym (after_some before line (Some kind) some is))
    by_result (Err (Broken k)) t = rules ∙ t
    by_result (Err NoRoom) t = tt

-- ---- the header

pub header_taken : (natives : List (List ℕ)) (before after : ScriptFront) (line : List ℕ) (result : Result Unit LineFault)
    → list_all is_text_byte line ≡ true → is_skipped line ≡ false → call_named (word (words_of line) 0) ≡ None
    → IsTaken result (header_rules (kind_named (word (words_of line) 0)) natives before (words_of line))
    (with_header before (after_trace_line before.header line)) after
    → IsTaken result (line_rules natives before true line) (after_line before line) after
header_taken natives before after line result text some is taken = by_result result taken
  where
    wanted : List (BadKind × Bool)
    wanted = header_rules (kind_named (word (words_of line) 0)) natives before (words_of line)

    rules : first_broken (line_rules natives before true line) ≡ first_broken wanted
    rules = rules_by_words natives before line text some
        ∙ ap (λ (o : Option CallKind). first_broken (rules_of_words o natives before (words_of line))) is

    by_result : (r : Result Unit LineFault)
        → IsTaken r wanted (with_header before (after_trace_line before.header line)) after
        → IsTaken r (line_rules natives before true line) (after_line before line) after
    by_result (Ok done) t = (rules ∙ t.0, t.1 ∙ sym (after_some before line None some is))
    by_result (Err (Broken k)) t = rules ∙ t
    by_result (Err NoRoom) t = tt

-- the three rules that are looked at before a line's words are read
three_kept : (one two three : Bool) (rules : List (BadKind × Bool))
    → first_broken ((bad.Item, one) ∷ (bad.Count, two) ∷ (bad.Place, three) ∷ []) ≡ None
    → (one ≡ true) × (two ≡ true)
    × (first_broken ((bad.Item, one) ∷ (bad.Count, two) ∷ (bad.Place, three) ∷ rules) ≡ first_broken rules)
three_kept true true true rules e = (refl, refl, refl)
three_kept false two three rules e = absurd cc
three_kept true false three rules e = absurd cc
three_kept true true false rules e = absurd cc

-- where a line of the header breaks none of them, its rules are those of the same line of a trace, and the limit of threads
pub trace_by_kind : (natives : List (List ℕ)) (before : Front) (line : List ℕ) (kind : LineKind)
    → list_all is_text_byte line ≡ true → is_skipped line ≡ false → kind_named (word (words_of line) 0) ≡ Some kind
    → counts (words_behind kind) (words_of line) ≡ true
    → first_broken (trace_rules natives before true line)
    ≡ first_broken (rules_behind kind natives before (drop 1 (words_of line)))
unfolding trace_rules rules_behind
trace_by_kind natives before line kind text some named counted =
    by_words (list_all is_text_byte line) (is_skipped line)
    (rules_of_kind (kind_named (word (words_of line) 0)) natives before (words_of line)) text some
    ∙ ap (λ (o : Option LineKind). first_broken (rules_of_kind o natives before (words_of line))) named
    ∙ ap (λ (b : Bool). first_broken ((bad.Count, b) ∷ rules_behind kind natives before (drop 1 (words_of line)))) counted

pub header_by_kind : (natives : List (List ℕ)) (before : ScriptFront) (line : List ℕ) (kind : LineKind)
    → list_all is_text_byte line ≡ true → is_skipped line ≡ false → kind_named (word (words_of line) 0) ≡ Some kind
    → header_fault kind before (words_of line) ≡ None
    → first_broken (header_rules (Some kind) natives before (words_of line))
    ≡ first_broken (trace_rules natives before.header true line ++ thread_limits kind (words_of line))
header_by_kind natives before line kind text some named none = parts (first_broken behind) refl
  where
    ws : List (List ℕ)
    ws = words_of line

    behind : List (BadKind × Bool)
    behind = rules_behind kind natives before.header (drop 1 ws)

    kept : (is_header kind ≡ true) × (counts (words_behind kind) ws ≡ true)
        × (first_broken (header_rules (Some kind) natives before ws) ≡ first_broken (behind ++ thread_limits kind ws))
    kept = three_kept (is_header kind) (counts (words_behind kind) ws) (has_no_call before.calls) (behind ++ thread_limits kind ws) none

    same : first_broken (trace_rules natives before.header true line) ≡ first_broken behind
    same = trace_by_kind natives before.header line kind text some named kept.1

    parts : (o : Option BadKind) → first_broken behind ≡ o
        → first_broken (header_rules (Some kind) natives before ws)
        ≡ first_broken (trace_rules natives before.header true line ++ thread_limits kind ws)
    parts None e =
        kept.2 ∙ kept_front behind (thread_limits kind ws) e
        ∙ sym (kept_front (trace_rules natives before.header true line) (thread_limits kind ws) (same ∙ e))
    parts (Some k) e =
        kept.2 ∙ broken_front behind (thread_limits kind ws) k e
        ∙ sym (broken_front (trace_rules natives before.header true line) (thread_limits kind ws) k (same ∙ e))

-- ---- no line of the header is an item of a trace

items_stay : (kind : LineKind) (before : Front) (ws : List (List ℕ)) → is_header kind ≡ true
    → (added kind before ws).items ≡ before.items
unfolding added
items_stay kind.Boot before ws e = refl
items_stay kind.Ta before ws e = refl
items_stay kind.Mem before ws e = refl
items_stay kind.Key before ws e = refl
items_stay kind.Smc before ws e = absurd cc
items_stay kind.Enter before ws e = absurd cc
items_stay kind.Leave before ws e = absurd cc
items_stay kind.Write before ws e = absurd cc
items_stay kind.Show before ws e = absurd cc

first_kept : (kind : BadKind) (passed : Bool) (behind : List (BadKind × Bool)) → first_broken ((kind, passed) ∷ behind) ≡ None
    → passed ≡ true
first_kept kind true behind e = refl
first_kept kind false behind e = absurd cc

items_by_kind : (named : Option LineKind) (natives : List (List ℕ)) (before : ScriptFront) (words : List (List ℕ))
    → first_broken (header_rules named natives before words) ≡ None
    → (added_by_kind named before.header words).items ≡ before.header.items
items_by_kind None natives before words kept = refl
items_by_kind (Some kind) natives before words kept =
    items_stay kind before.header (drop 1 words)
    (first_kept bad.Item (is_header kind)
    ((bad.Count, counts (words_behind kind) words) ∷ (bad.Place, has_no_call before.calls)
    ∷ rules_behind kind natives before.header (drop 1 words) ++ thread_limits kind words) kept)

items_unless : (skipped : Bool) (before after : Front) → after.items ≡ before.items → (cond skipped before after).items ≡ before.items
items_unless true before after e = refl
items_unless false before after e = e

items_trace : (natives : List (List ℕ)) (before : ScriptFront) (line : List ℕ)
    → first_broken (header_rules (kind_named (word (words_of line) 0)) natives before (words_of line)) ≡ None
    → (after_trace_line before.header line).items ≡ before.header.items
unfolding after_trace_line
items_trace natives before line kept =
    items_unless (is_skipped line) before.header _
    (items_by_kind (kind_named (word (words_of line) 0)) natives before (words_of line) kept)

items_with : (named : Option CallKind) (natives : List (List ℕ)) (before : ScriptFront) (line : List ℕ)
    → first_broken (rules_of_words named natives before (words_of line)) ≡ None
    → (with_line named before line).header.items ≡ before.header.items
items_with None natives before line kept = items_trace natives before line kept
items_with (Some kind) natives before line kept = refl

items_where : (natives : List (List ℕ)) (before : ScriptFront) (line : List ℕ) (skipped : Bool) → is_skipped line ≡ skipped
    → first_broken (line_rules natives before true line) ≡ None
    → (after_line before line).header.items ≡ before.header.items
items_where natives before line true is kept =
    ap (λ (f : ScriptFront). f.header.items) (after_skipped before line is)
items_where natives before line false is kept =
    ap (λ (f : ScriptFront). f.header.items) (after_some before line (call_named (word (words_of line) 0)) is refl)
    ∙ items_with (call_named (word (words_of line) 0)) natives before line (kept_by_words natives before line is kept).1

pub no_items : (natives : List (List ℕ)) (before : ScriptFront) (line : List ℕ)
    → first_broken (line_rules natives before true line) ≡ None → before.header.items ≡ []
    → (after_line before line).header.items ≡ []
no_items natives before line kept none = items_where natives before line (is_skipped line) refl kept ∙ none

-- ---- the end of a text

-- what stands behind the last line feed has the fault that it has in a trace, where no item stands before
pub end_same : (natives : List (List ℕ)) (before : ScriptFront) (rest : List ℕ) → end_fault before.header ≡ None
    → piece_fault natives before rest [] ≡ trace_fault natives before.header rest []
unfolding grammar.piece_fault line_rules trace_rules
end_same natives before [] none = sym none
end_same natives before (b ∷ bytes) none = refl

-- ---- what a line of the header says that is kept

-- its own rules, and those of the same line of a trace
pub header_kept : (natives : List (List ℕ)) (before : ScriptFront) (line : List ℕ) → is_skipped line ≡ false
    → call_named (word (words_of line) 0) ≡ None → first_broken (line_rules natives before true line) ≡ None
    → (first_broken (header_rules (kind_named (word (words_of line) 0)) natives before (words_of line)) ≡ None)
    × (first_broken (trace_rules natives before.header true line) ≡ None)
header_kept natives before line some is kept = (header, by_kind (kind_named (word (words_of line) 0)) refl)
  where
    ws : List (List ℕ)
    ws = words_of line

    words : (list_all is_text_byte line ≡ true) × (first_broken (rules_of_words (call_named (word ws 0)) natives before ws) ≡ None)
    words = kept_by_words natives before line some kept

    header : first_broken (header_rules (kind_named (word ws 0)) natives before ws) ≡ None
    header = sym (ap (λ (o : Option CallKind). first_broken (rules_of_words o natives before ws)) is) ∙ words.1

    apart : (one two three : Bool) (rules : List (BadKind × Bool))
        → first_broken ((bad.Item, one) ∷ (bad.Count, two) ∷ (bad.Place, three) ∷ rules) ≡ None
        → (two ≡ true) × (first_broken rules ≡ None)
    apart true true true rules e = (refl, e)
    apart false two three rules e = absurd cc
    apart true false three rules e = absurd cc
    apart true true false rules e = absurd cc

    by_kind : (named : Option LineKind) → kind_named (word ws 0) ≡ named → first_broken (trace_rules natives before.header true line) ≡ None
    by_kind None e =
        let none : first_broken (header_rules None natives before ws) ≡ None =
        sym (ap (λ (o : Option LineKind). first_broken (header_rules o natives before ws)) e) ∙ header in
        absurd cc
    by_kind (Some kind) e =
        let all : first_broken (header_rules (Some kind) natives before ws) ≡ None =
        sym (ap (λ (o : Option LineKind). first_broken (header_rules o natives before ws)) e) ∙ header in
        let behind = rules_behind kind natives before.header (drop 1 ws) in
        let p = apart (is_header kind) (counts (words_behind kind) ws) (has_no_call before.calls) (behind ++ thread_limits kind ws) all in
        trace_by_kind natives before.header line kind words.0 some e p.0 ∙ (both_kept behind (thread_limits kind ws) p.1).0

-- ---- the reader

-- a header and calls
abbrev pub front_of : Front → List ScriptCall → ScriptFront
front_of header calls = record { header = header; calls = calls }

-- without items nobody is inside
none_inside : (items : List Item) → items ≡ [] → end_fault (record { boot = None; fills = []; items = items; keyed = false }) ≡ None
unfolding inside_after
none_inside items e =
    ap (λ (is : List Item). end_fault (record { boot = None; fills = []; items = is; keyed = false })) e

pub no_end : (front : ScriptFront) → front.header.items ≡ [] → end_fault front.header ≡ None
no_end front e = none_inside front.header.items e

-- what is known of a line of a kind of the header that has none
pub record IsHeaderLine (before : ScriptFront) (line : List ℕ) (kind : LineKind) : Type 0 where
  pub text : list_all is_text_byte line ≡ true
  pub some : is_skipped line ≡ false
  pub named : kind_named (word (words_of line) 0) ≡ Some kind
  pub none : header_fault kind before (words_of line) ≡ None

header_is : (natives : List (List ℕ)) (before : ScriptFront) (line : List ℕ) (kind : LineKind) → IsHeaderLine before line kind
    → first_broken (header_rules (kind_named (word (words_of line) 0)) natives before (words_of line))
    ≡ first_broken (trace_rules natives before.header true line ++ thread_limits kind (words_of line))
header_is natives before line kind is =
    ap (λ (o : Option LineKind). first_broken (header_rules o natives before (words_of line))) is.named
    ∙ header_by_kind natives before line kind is.text is.some is.named is.none

-- it is refused as a line of a trace
pub header_stops : (natives : List (List ℕ)) (before after : ScriptFront) (line : List ℕ) (kind : LineKind) (fault : LineFault)
    (header : Front) → IsHeaderLine before line kind
    → IsTaken (Err fault) (trace_rules natives before.header true line) (after_trace_line before.header line) header
    → IsTaken (Err fault) (header_rules (kind_named (word (words_of line) 0)) natives before (words_of line))
    (with_header before (after_trace_line before.header line)) after
header_stops natives before after line kind (Broken k) header is taken =
    header_is natives before line kind is
    ∙ broken_front (trace_rules natives before.header true line) (thread_limits kind (words_of line)) k taken
header_stops natives before after line kind NoRoom header is taken = tt

-- it is taken as one, and then its threads are looked at
pub header_ends : (natives : List (List ℕ)) (before : ScriptFront) (line : List ℕ) (kind : LineKind) (header : Front)
    (result : Result Unit LineFault) → IsHeaderLine before line kind
    → (first_broken (trace_rules natives before.header true line) ≡ None) × (header ≡ after_trace_line before.header line)
    → IsKept result (thread_limits kind (words_of line))
    → IsTaken result (header_rules (kind_named (word (words_of line) 0)) natives before (words_of line))
    (with_header before (after_trace_line before.header line)) (with_header before header)
header_ends natives before line kind header (Ok done) is taken kept = (
  header_is natives before line kind is
      ∙ kept_front (trace_rules natives before.header true line) (thread_limits kind (words_of line)) taken.0 ∙ kept,
  ap (with_header before) taken.1,
)
header_ends natives before line kind header (Err (Broken k)) is taken kept =
    header_is natives before line kind is
    ∙ kept_front (trace_rules natives before.header true line) (thread_limits kind (words_of line)) taken.0 ∙ kept
header_ends natives before line kind header (Err NoRoom) is taken kept = absurd kept

-- the script of a trace and of calls
pub script_is : (told : Trace) (front : ScriptFront) (calls : List ScriptCall) → told ≡ trace_in front.header → calls ≡ front.calls
    → record { boot = told.boot; fills = told.fills; calls = calls } ≡ script_in front
script_is told front calls told_is calls_are =
    ap (λ (t : Trace). record { boot = t.boot; fills = t.fills; calls = calls }) told_is
    ∙ ap (λ (cs : List ScriptCall). record { boot = front.header.boot; fills = front.header.fills; calls = cs }) calls_are
