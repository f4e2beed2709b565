-- What a line that keeps its rules adds to the lines that count.
use Rattle.std.proofs.Common.{◌≡◌, ℕ, Bool, true, false, cond, List, [], ◌∷◌, ◌++◌, length, drop, Option, Some, None, refl, sym, ap, subst, ◌∙◌, arith}
use Rattle.std.specs.Prelude.{◌||◌, IfNone, is_none, is_some}
use Rattle.std.specs.List.{list_all}
use Rattle.std.proofs.lemmas.List.{length-append}
use Rattle.notify_text.specs.Rules.{NotifyFront, after_line, has_no_signal, is_signal, line_rules, no_lines, other_rules, signal_rules, with_signal}
use Rattle.notify_text.specs.Statement.{with_trace}
use Rattle.notify_text.specs.declared.notify_trace.Signal.{Signal}
use Rattle.notify_text.proofs.Lines.{after-same, after-signal, after-skipped, rules-by-words}
use Rattle.ta_isa.specs.declared.boot.App.{App}
use Rattle.ta_isa.specs.declared.boot.Boot.{Boot}
use Rattle.text_lines.specs.Lines.{is_skipped}
use Rattle.text_lines.specs.Words.{words_of}
use Rattle.trace_text.specs.Forms.{decimal}
use Rattle.trace_text.specs.Limits.{Front, first_broken, has_no_item, with_app, with_item, with_key}
use Rattle.trace_text.specs.Rules.{added, added_by_kind, is_text_byte, kind_named, rules_behind, word}
use Rattle.trace_text.specs.Rules.{after_line as after_trace_line}
use Rattle.trace_text.specs.declared.item.Item.{Item}
use Rattle.trace_text.specs.declared.line_kind.LineKind.{LineKind}
use Rattle.trace_text.specs.declared.line_kind.LineKind.TheVariants as kind
use Rattle.trace_text.proofs.SoundLaws.{AreKept, are_kept}
use Rattle.live_play.proofs.Steps.{AreWithin, within-more, within-push}

-- what holds of lines that count: signals stand among the items, and without a boot there are none of either
pub record AreOrderly (lines : NotifyFront) : Type 0 where
  pub within : AreWithin (length lines.trace.items) lines.signals
  pub no_boot : IfNone lines.trace.boot ((lines.trace.items ≡ []) × (lines.signals ≡ []))

pub orderly-first : AreOrderly no_lines
orderly-first = record { within = tt; no_boot = (refl, refl) }

-- there are no items and no signals
pub record IsHeader (lines : NotifyFront) : Type 0 where
  pub items : lines.trace.items ≡ []
  pub signals : lines.signals ≡ []

-- what a line adds
pub data Effect (before after : NotifyFront) : Type 0 where
  -- nothing
  Stays : after ≡ before → Effect before after
  -- something of the header, before all items and signals
  Heads : IsHeader before → IsHeader after → (is_some before.trace.boot ≡ true → is_some after.trace.boot ≡ true)
      → is_some after.trace.boot ≡ true → Effect before after
  -- an item, behind a boot
  AddsItem : (i : Item) → is_some before.trace.boot ≡ true → after ≡ with_trace before (with_item before.trace i)
      → Effect before after
  -- a signal, behind a boot
  AddsSignal : (value : ℕ) → is_some before.trace.boot ≡ true → after ≡ with_signal before value → Effect before after

-- ---- words

pub no_signals : (signals : List Signal) → has_no_signal signals ≡ true → signals ≡ []
no_signals [] e = refl
no_signals (signal ∷ signals) e = absurd cc

pub no_items : (items : List Item) → has_no_item items ≡ true → items ≡ []
no_items [] e = refl
no_items (i ∷ items) e = absurd cc

or_false : (b : Bool) → (b || false) ≡ true → b ≡ true
or_false true e = refl
or_false false e = absurd cc

header-before : (before : NotifyFront) → has_no_item before.trace.items ≡ true → (has_no_signal before.signals || false) ≡ true
    → IsHeader before
header-before before items signals = record {
  items = no_items before.trace.items items;
  signals = no_signals before.signals (or_false (has_no_signal before.signals) signals);
}

none_there : (boot : Option Boot) (P : Type 0) → is_none boot ≡ true → IfNone boot P → P
none_there None P e p = p
none_there (Some b) P e p = absurd cc

app_stays : (boot : Option Boot) (app : App) → is_some boot ≡ true → is_some (with_app boot app) ≡ true
app_stays None app e = e
app_stays (Some boot) app e = refl

key_stays : (boot : Option Boot) (key : List ℕ) → is_some boot ≡ true → is_some (with_key boot key) ≡ true
key_stays None key e = e
key_stays (Some boot) key e = refl

-- ---- a line of each kind

abbrev Adds : LineKind → Type 0
Adds kind = (natives : List (List ℕ)) (before : NotifyFront) (words : List (List ℕ)) → AreOrderly before
    → AreKept (other_rules (Some kind) natives before words)
    → Effect before (with_trace before (added kind before.trace (drop 1 words)))

adds_boot : Adds kind.Boot
unfolding rules_behind added
adds_boot natives before words orderly kept =
    let none = none_there before.trace.boot ((before.trace.items ≡ []) × (before.signals ≡ [])) kept.1.1.0 orderly.no_boot in
    Heads (record { items = none.0; signals = none.1 }) (record { items = none.0; signals = none.1 }) (λ e. refl) refl

adds_ta : Adds kind.Ta
unfolding rules_behind added
adds_ta natives before words orderly kept =
    let header = header-before before kept.1.1.1.0 kept.1.0 in
    Heads header (record { items = header.items; signals = header.signals })
    (app_stays before.trace.boot _) (app_stays before.trace.boot _ kept.1.1.0)

adds_mem : Adds kind.Mem
unfolding rules_behind added
adds_mem natives before words orderly kept =
    let header = header-before before kept.1.1.1.0 kept.1.0 in
    Heads header (record { items = header.items; signals = header.signals }) (λ e. e) kept.1.1.0

adds_key : Adds kind.Key
unfolding rules_behind added
adds_key natives before words orderly kept =
    let header = header-before before kept.1.1.1.0 kept.1.0 in
    Heads header (record { items = header.items; signals = header.signals })
    (key_stays before.trace.boot _) (key_stays before.trace.boot _ kept.1.1.0)

adds_smc : Adds kind.Smc
unfolding rules_behind added
adds_smc natives before words orderly kept = AddsItem _ kept.1.1.0 refl

adds_enter : Adds kind.Enter
unfolding rules_behind added
adds_enter natives before words orderly kept = AddsItem _ kept.1.1.0 refl

adds_leave : Adds kind.Leave
unfolding rules_behind added
adds_leave natives before words orderly kept = AddsItem _ kept.1.1.0 refl

adds_write : Adds kind.Write
unfolding rules_behind added
adds_write natives before words orderly kept = AddsItem _ kept.1.1.0 refl

adds_show : Adds kind.Show
unfolding rules_behind added
adds_show natives before words orderly kept = AddsItem _ kept.1.1.0 refl

adds_any : (kind : LineKind) → Adds kind
adds_any kind.Boot = adds_boot
adds_any kind.Ta = adds_ta
adds_any kind.Mem = adds_mem
adds_any kind.Key = adds_key
adds_any kind.Smc = adds_smc
adds_any kind.Enter = adds_enter
adds_any kind.Leave = adds_leave
adds_any kind.Write = adds_write
adds_any kind.Show = adds_show

by_kind : (named : Option LineKind) (natives : List (List ℕ)) (before : NotifyFront) (words : List (List ℕ))
    → AreOrderly before → first_broken (other_rules named natives before words) ≡ None
    → Effect before (with_trace before (added_by_kind named before.trace words))
by_kind None natives before words orderly kept = absurd cc
by_kind (Some kind) natives before words orderly kept =
    adds_any kind natives before words orderly (are_kept (other_rules (Some kind) natives before words) kept)

-- ---- any line

-- the trace behind a line that isn't skipped
trace_behind : (before : Front) (line : List ℕ) → is_skipped line ≡ false
    → after_trace_line before line ≡ added_by_kind (kind_named (word (words_of line) 0)) before (words_of line)
unfolding after_trace_line
trace_behind before line some =
    ap (λ (b : Bool). cond b before (added_by_kind (kind_named (word (words_of line) 0)) before (words_of line))) some

by_words : (is : Bool) (natives : List (List ℕ)) (before : NotifyFront) (line : List ℕ) → AreOrderly before
    → is_skipped line ≡ false → is_signal (words_of line) ≡ is
    → first_broken (cond is (signal_rules before (words_of line))
    (other_rules (kind_named (word (words_of line) 0)) natives before (words_of line))) ≡ None
    → Effect before (after_line before line)
by_words true natives before line orderly some is kept =
    let rules = are_kept (signal_rules before (words_of line)) kept in
    AddsSignal (decimal (word (words_of line) 1)) rules.1.0 (after-signal before line some is)
by_words false natives before line orderly some is kept =
    let there : after_line before line
    ≡ with_trace before (added_by_kind (kind_named (word (words_of line) 0)) before.trace (words_of line)) =
    after-same before line is ∙ ap (with_trace before) (trace_behind before.trace line some) in
    subst (λ (after : NotifyFront). Effect before after) (sym there)
    (by_kind (kind_named (word (words_of line) 0)) natives before (words_of line) orderly kept)

is_text : (natives : List (List ℕ)) (before : NotifyFront) (line : List ℕ)
    → first_broken (line_rules natives before true line) ≡ None → list_all is_text_byte line ≡ true
unfolding line_rules
is_text natives before line kept = (are_kept (line_rules natives before true line) kept).0

by_skipped : (skipped : Bool) (natives : List (List ℕ)) (before : NotifyFront) (line : List ℕ) → AreOrderly before
    → is_skipped line ≡ skipped → first_broken (line_rules natives before true line) ≡ None
    → Effect before (after_line before line)
by_skipped true natives before line orderly is kept = Stays (after-skipped before line is)
by_skipped false natives before line orderly is kept =
    by_words (is_signal (words_of line)) natives before line orderly is refl
    (sym (rules-by-words natives before line (is_text natives before line kept) is) ∙ kept)

pub effect : (natives : List (List ℕ)) (before : NotifyFront) (line : List ℕ) → AreOrderly before
    → first_broken (line_rules natives before true line) ≡ None → Effect before (after_line before line)
effect natives before line orderly kept = by_skipped (is_skipped line) natives before line orderly refl kept

-- a line that keeps its rules has no line feed
pub no_feed : (natives : List (List ℕ)) (before : NotifyFront) (line : List ℕ)
    → first_broken (line_rules natives before true line) ≡ None → list_all is_text_byte line ≡ true
no_feed = is_text

-- ---- lines stay in order

none_here : (boot : Option Boot) (P : Type 0) → is_some boot ≡ true → IfNone boot P
none_here None P e = absurd cc
none_here (Some boot) P e = tt

pub orderly-behind : (before after : NotifyFront) → AreOrderly before → Effect before after → AreOrderly after
orderly-behind before after orderly (Stays is) = subst AreOrderly (sym is) orderly
orderly-behind before after orderly (Heads was header stays there) = record {
  within = subst (λ (s : List Signal). AreWithin (length after.trace.items) s) (sym header.signals) tt;
  no_boot = none_here after.trace.boot _ there;
}
orderly-behind before after orderly (AddsItem i there is) = subst AreOrderly (sym is) (record {
  within = within-more (length before.trace.items) (length (before.trace.items ++ i ∷ [])) before.signals
      (omega (arith, length-append before.trace.items (i ∷ []))) orderly.within;
  no_boot = none_here before.trace.boot _ there;
})
orderly-behind before after orderly (AddsSignal value there is) = subst AreOrderly (sym is) (record {
  within = within-push (length before.trace.items) value before.signals orderly.within;
  no_boot = none_here before.trace.boot _ there;
})
