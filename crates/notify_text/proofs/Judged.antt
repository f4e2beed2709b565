-- A line as it is judged: by the rules of a trace, in the scene of the lines so far, and where it begins none of a trace, by
-- those of a signal.
use Rattle.std.proofs.Common.{◌≡◌, ℕ, Bool, true, false, cond, List, [], ◌∷◌, drop, Option, Some, None, Result, Ok, Err, refl, sym, ap, subst, ◌∙◌}
use Rattle.std.specs.Prelude.{IfNone, is_some, not, ◌&&◌, ◌||◌}
use Rattle.std.specs.List.{list_all, list_any}
use Rattle.std.proofs.lemmas.Bool.{or_parts}
use Rattle.std.proofs.lemmas.Slice.Eq.{bytes_eq-Decides}
use Rattle.std.specs.Prelude.{codes}
use Rattle.notify_text.specs.Judging.{other_line}
use Rattle.notify_text.specs.Rules.{NotifyFront, after_line, has_no_signal, is_header, is_signal, line_rules, other_rules, signal_rules, with_signal}
use Rattle.notify_text.specs.Statement.{HasBootOfSignals, scene_of, with_statement, with_trace}
use Rattle.notify_text.specs.declared.notify_trace.Signal.{Signal}
use Rattle.notify_text.proofs.Lines.{after-signal}
use Rattle.ta_isa.specs.declared.boot.Boot.{Boot}
use Rattle.text_lines.specs.Lines.{is_skipped}
use Rattle.text_lines.specs.Words.{words_of}
use Rattle.trace_text.specs.Forms.{decimal}
use Rattle.trace_text.specs.Judging.{Judged}
use Rattle.trace_text.specs.Limits.{SceneState, first_broken, has_no_item}
use Rattle.trace_text.specs.Limits as trace
use Rattle.trace_text.specs.Rules.{added, added_by_kind, counts, is_text_byte, kind_named, rules_at, rules_behind, rules_in, rules_of_words, said_by, said_by_words, said_in, word, words_behind}
use Rattle.trace_text.specs.Rules.{after_line as after_trace_line}
use Rattle.trace_text.specs.Statement.{IsJudgedBy, closed_if}
use Rattle.trace_text.specs.Statement.{with_statement as with_trace_statement}
use Rattle.trace_text.specs.declared.fault.BadKind.{BadKind}
use Rattle.trace_text.specs.declared.fault.BadKind.TheVariants as bad
use Rattle.trace_text.specs.declared.fault.LineFault.{LineFault}
use Rattle.trace_text.specs.declared.fault.LineFault.TheVariants.{Broken, NoRoom}
use Rattle.trace_text.specs.declared.line_kind.LineKind.{LineKind}
use Rattle.trace_text.specs.declared.line_kind.LineKind.TheVariants as kind
use Rattle.trace_text.specs.declared.statement.Statement.{Statement}
use Rattle.trace_text.specs.declared.statement.Statement.TheVariants as says
use Rattle.trace_text.proofs.SoundLaws.{are_kept}

-- ---- the rules of a line that begins one of a trace don't say that it begins none

abbrev is_item : BadKind → Bool
is_item bad.Item = true
is_item _ = false

abbrev any_item : List (BadKind × Bool) → Bool
any_item rules = list_any (λ (rule : BadKind × Bool). is_item rule.0) rules

one_broken : (kind : BadKind) (passed : Bool) (behind : Option BadKind) → is_item kind ≡ false → (behind ≡ Some bad.Item → ⊥) → cond passed behind (Some kind) ≡ Some bad.Item → ⊥
one_broken kind true behind other none e = none e
one_broken kind false behind other none e =
    let same : kind ≡ bad.Item = cc in
    let item : true ≡ false = subst (λ (k : BadKind). is_item k ≡ false) same other in
    cc

never_item : (rules : List (BadKind × Bool)) → any_item rules ≡ false → first_broken rules ≡ Some bad.Item → ⊥
never_item [] none e = cc
never_item ((kind, passed) ∷ rules) none e =
    let p = or_parts (is_item kind) (any_item rules) none in
    one_broken kind passed (first_broken rules) p.0 (never_item rules p.1) e

no_item : (kind : LineKind) (natives : List (List ℕ)) (scene : SceneState) (ws : List (List ℕ)) → any_item (rules_in kind natives scene ws) ≡ false
no_item kind.Boot natives scene ws = refl
no_item kind.Ta natives scene ws = refl
no_item kind.Mem natives scene ws = refl
no_item kind.Key natives scene ws = refl
no_item kind.Smc natives scene ws = refl
no_item kind.Enter natives scene ws = refl
no_item kind.Leave natives scene ws = refl
no_item kind.Write natives scene ws = refl
no_item kind.Show natives scene ws = refl

-- ---- the rules of a line of a trace, in the scene

item_same : (none : Bool) (rest : Option BadKind) → cond (none || true) rest (Some bad.Place) ≡ rest
item_same true rest = refl
item_same false rest = refl

boot_same : (none booted : Bool) (rest : Option BadKind) → (booted ≡ false → none ≡ true)
    → cond (none || false) (cond (not booted) rest (Some bad.Place)) (Some bad.Place) ≡ cond (not booted) rest (Some bad.Place)
boot_same true booted rest has = refl
boot_same false true rest has = refl
boot_same false false rest has = absurd (cc (has refl))

header_same : (none booted empty : Bool) (rest : Option BadKind)
    → cond (none || false) (cond booted (cond empty rest (Some bad.Place)) (Some bad.Place)) (Some bad.Place)
    ≡ cond booted (cond (empty && none) rest (Some bad.Place)) (Some bad.Place)
header_same true true true rest = refl
header_same true true false rest = refl
header_same true false empty rest = refl
header_same false true true rest = refl
header_same false true false rest = refl
header_same false false empty rest = refl

none_yet : (boot : Option Boot) (signals : List Signal) → IfNone boot (signals ≡ []) → is_some boot ≡ false → has_no_signal signals ≡ true
none_yet None signals none e = ap has_no_signal none
none_yet (Some boot) signals none e = absurd cc

kind_same : (kind : LineKind) (natives : List (List ℕ)) (front : NotifyFront) (ws : List (List ℕ)) → HasBootOfSignals front
    → first_broken ((bad.Place, has_no_signal front.signals || not (is_header kind)) ∷ rules_behind kind natives front.trace ws)
    ≡ first_broken (rules_in kind natives (scene_of front) ws)
unfolding rules_behind
kind_same kind.Boot natives front ws has =
    boot_same (has_no_signal front.signals) (is_some front.trace.boot) _ (none_yet front.trace.boot front.signals has)
kind_same kind.Ta natives front ws has = header_same (has_no_signal front.signals) (is_some front.trace.boot) (has_no_item front.trace.items) _
kind_same kind.Mem natives front ws has = header_same (has_no_signal front.signals) (is_some front.trace.boot) (has_no_item front.trace.items) _
kind_same kind.Key natives front ws has = header_same (has_no_signal front.signals) (is_some front.trace.boot) (has_no_item front.trace.items) _
kind_same kind.Smc natives front ws has = item_same (has_no_signal front.signals) _
kind_same kind.Enter natives front ws has = item_same (has_no_signal front.signals) _
kind_same kind.Leave natives front ws has = item_same (has_no_signal front.signals) _
kind_same kind.Write natives front ws has = item_same (has_no_signal front.signals) _
kind_same kind.Show natives front ws has = item_same (has_no_signal front.signals) _

named_same : (named : Option LineKind) (natives : List (List ℕ)) (front : NotifyFront) (words : List (List ℕ)) → HasBootOfSignals front
    → first_broken (other_rules named natives front words) ≡ first_broken (rules_of_words named natives (scene_of front) words)
named_same None natives front words has = refl
named_same (Some kind) natives front words has =
    ap (λ (o : Option BadKind). cond (counts (words_behind kind) words) o (Some bad.Count)) (kind_same kind natives front (drop 1 words) has)

-- ---- whole lines

-- the first rule that a line breaks as one of a trace, and as one of a trace with signals
abbrev as_trace : Bool → Bool → Option LineKind → List (List ℕ) → SceneState → List (List ℕ) → Option BadKind
as_trace text skipped named natives scene words =
    first_broken ((bad.Byte, text) ∷ (bad.Cut, true) ∷ cond skipped [] (rules_of_words named natives scene words))

abbrev as_told : Bool → Bool → Bool → Option LineKind → List (List ℕ) → NotifyFront → List (List ℕ) → Option BadKind
as_told text skipped signal named natives front words =
    first_broken ((bad.Byte, text) ∷ (bad.Cut, true) ∷ cond skipped [] (cond signal (signal_rules front words) (other_rules named natives front words)))

-- they are the same, unless it begins no line of a trace
line_same : (text skipped signal : Bool) (named : Option LineKind) (natives : List (List ℕ)) (front : NotifyFront) (words : List (List ℕ)) → HasBootOfSignals front → (signal ≡ true → named ≡ None)
    → (as_trace text skipped named natives (scene_of front) words ≡ Some bad.Item → ⊥) → as_told text skipped signal named natives front words ≡ as_trace text skipped named natives (scene_of front) words
line_same false skipped signal named natives front words has none known = refl
line_same true true signal named natives front words has none known = refl
line_same true false false named natives front words has none known = named_same named natives front words has
line_same true false true named natives front words has none known =
    absurd (known (ap (λ (n : Option LineKind). first_broken (rules_of_words n natives (scene_of front) words)) (none refl)))

-- what is known of a line that begins none
record IsUnknown (text skipped : Bool) (named : Option LineKind) : Type 0 where
  text_is : text ≡ true
  some : skipped ≡ false
  unnamed : named ≡ None

unknown : (text skipped : Bool) (named : Option LineKind) (natives : List (List ℕ)) (scene : SceneState) (words : List (List ℕ)) → as_trace text skipped named natives scene words ≡ Some bad.Item → IsUnknown text skipped named
unknown false skipped named natives scene words e = absurd cc
unknown true true named natives scene words e = absurd cc
unknown true false None natives scene words e = record { text_is = refl; some = refl; unnamed = refl }
unknown true false (Some kind) natives scene words e =
    absurd (one_broken bad.Count (counts (words_behind kind) words) (first_broken (rules_in kind natives scene (drop 1 words))) refl (never_item (rules_in kind natives scene (drop 1 words)) (no_item kind natives scene (drop 1 words))) e)

other_same : (text skipped signal : Bool) (named : Option LineKind) (natives : List (List ℕ)) (front : NotifyFront) (words : List (List ℕ)) → text ≡ true → skipped ≡ false → named ≡ None
    → as_told text skipped signal named natives front words ≡ first_broken ((bad.Item, signal) ∷ signal_rules front words)
other_same true false true None natives front words text some unnamed = refl
other_same true false false None natives front words text some unnamed = refl
other_same true false signal (Some kind) natives front words text some unnamed = absurd cc
other_same true true signal named natives front words text some unnamed = absurd cc
other_same false skipped signal named natives front words text some unnamed = absurd cc

-- a signal begins no line of a trace
signal_unnamed : (words : List (List ℕ)) → is_signal words ≡ true → kind_named (word words 0) ≡ None
unfolding kind_named
signal_unnamed words is = ap kind_named ((bytes_eq-Decides (word words 0) (codes "signal")).0 is)

-- a line that keeps the rules of a trace is no signal's
plain : (text skipped signal : Bool) (named : Option LineKind) (natives : List (List ℕ)) (scene : SceneState) (words : List (List ℕ)) → (signal ≡ true → named ≡ None) → as_trace text skipped named natives scene words ≡ None
    → skipped ≡ false → signal ≡ false
plain text skipped false named natives scene words none kept some = refl
plain text true true named natives scene words none kept some = absurd cc
plain false false true named natives scene words none kept some = absurd cc
plain true false true named natives scene words none kept some =
    let broken : first_broken (rules_of_words named natives scene words) ≡ Some bad.Item = ap (λ (n : Option LineKind). first_broken (rules_of_words n natives scene words)) (none refl) in
    absurd cc

-- ---- what a line adds

adds_by_kind : (kind : LineKind) (front : NotifyFront) (ws : List (List ℕ)) → with_statement front (said_by kind ws) ≡ with_trace front (with_trace_statement front.trace (said_by kind ws))
adds_by_kind kind.Boot front ws = refl
adds_by_kind kind.Ta front ws = refl
adds_by_kind kind.Mem front ws = refl
adds_by_kind kind.Key front ws = refl
adds_by_kind kind.Smc front ws = refl
adds_by_kind kind.Enter front ws = refl
adds_by_kind kind.Leave front ws = refl
adds_by_kind kind.Write front ws = refl
adds_by_kind kind.Show front ws = refl

adds_by_words : (skipped signal : Bool) (named : Option LineKind) (front : NotifyFront) (words : List (List ℕ)) (value : ℕ) → (skipped ≡ false → signal ≡ false)
    → with_statement front (cond skipped says.Blank (said_by_words named words))
    ≡ cond skipped front (cond signal (with_signal front value) (with_trace front (cond skipped front.trace (added_by_kind named front.trace words))))
unfolding added
adds_by_words true signal named front words value plain = refl
adds_by_words false true named front words value plain = absurd (cc (plain refl))
adds_by_words false false None front words value plain = refl
adds_by_words false false (Some kind) front words value plain = adds_by_kind kind front (drop 1 words)

adds_line : (front : NotifyFront) (line : List ℕ) → (is_skipped line ≡ false → is_signal (words_of line) ≡ false) → with_statement front (said_in line) ≡ after_line front line
unfolding said_in after_line after_trace_line
adds_line front line plain =
    adds_by_words (is_skipped line) (is_signal (words_of line)) (kind_named (word (words_of line) 0)) front (words_of line) (decimal (word (words_of line) 1)) plain

-- ---- how it is judged

pub told_judged : (natives : List (List ℕ)) (scene : SceneState) (front : NotifyFront) (line : List ℕ) (result : Result Statement LineFault) → scene ≡ scene_of front → HasBootOfSignals front → (result ≡ Err (Broken bad.Item) → ⊥)
    → Judged (λ (s : Statement). s) result (rules_at natives scene true line) (said_in line)
    → IsJudgedBy with_statement result (line_rules natives front true line) front (after_line front line)
unfolding line_rules
told_judged natives scene front line (Ok said) is has known judged =
    let words = words_of line in
    let named = kind_named (word words 0) in
    let kept : first_broken (rules_at natives (scene_of front) true line) ≡ None = rw is at judged.0 in (
      line_same (list_all is_text_byte line) (is_skipped line) (is_signal words) named natives front words has (signal_unnamed words) (λ e. cc) ∙ kept,
      ap (with_statement front) judged.1 ∙ adds_line front line (plain (list_all is_text_byte line) (is_skipped line) (is_signal words) named natives (scene_of front) words (signal_unnamed words) kept),
    )
told_judged natives scene front line (Err (Broken kind)) is has known judged =
    let words = words_of line in
    let named = kind_named (word words 0) in
    let broken : first_broken (rules_at natives (scene_of front) true line) ≡ Some kind = rw is at judged in
    line_same (list_all is_text_byte line) (is_skipped line) (is_signal words) named natives front words has (signal_unnamed words)
    (λ e. let same : kind ≡ bad.Item = cc in known (ap (λ (k : BadKind). Err (Broken k)) same))
    ∙ broken
told_judged natives scene front line (Err NoRoom) is has known judged = tt

-- the rules of a line that begins none of a trace
others : (natives : List (List ℕ)) (scene : SceneState) (front : NotifyFront) (line : List ℕ) → scene ≡ scene_of front → first_broken (rules_at natives scene true line) ≡ Some bad.Item
    → (first_broken (line_rules natives front true line) ≡ first_broken (other_line scene.is_booted (words_of line))) × (is_skipped line ≡ false)
unfolding line_rules
others natives scene front line is e =
    let words = words_of line in
    let named = kind_named (word words 0) in
    let known = unknown (list_all is_text_byte line) (is_skipped line) named natives scene words e in (
      other_same (list_all is_text_byte line) (is_skipped line) (is_signal words) named natives front words known.text_is known.some known.unnamed
          ∙ sym (ap (λ (s : SceneState). first_broken (other_line s.is_booted words)) is),
      known.some,
    )

pub other_judged : (natives : List (List ℕ)) (scene : SceneState) (front : NotifyFront) (line : List ℕ) (result : Result Statement LineFault) → scene ≡ scene_of front → first_broken (rules_at natives scene true line) ≡ Some bad.Item
    → Judged (λ (s : Statement). s) result (other_line scene.is_booted (words_of line)) (says.Signal (decimal (word (words_of line) 1)))
    → IsJudgedBy with_statement result (line_rules natives front true line) front (after_line front line)
other_judged natives scene front line (Ok said) is e judged =
    let are = others natives scene front line is e in
    let signal = (are_kept (other_line scene.is_booted (words_of line)) judged.0).0 in
    (are.0 ∙ judged.0, ap (with_statement front) judged.1 ∙ sym (after-signal front line are.1 signal))
other_judged natives scene front line (Err (Broken kind)) is e judged = (others natives scene front line is e).0 ∙ judged
other_judged natives scene front line (Err NoRoom) is e judged = tt

pub unknown_broken : (fault : LineFault) (rules : List (BadKind × Bool)) (said : Statement) → fault ≡ Broken bad.Item → Judged (λ (s : Statement). s) (Err fault) rules said → first_broken rules ≡ Some bad.Item
unknown_broken (Broken kind) rules said is judged = let same : kind ≡ bad.Item = cc in judged ∙ ap (λ (k : BadKind). Some k) same
unknown_broken NoRoom rules said is judged = absurd cc

-- ---- the reader

swap : (a b : Bool) → (not (not a) && b) ≡ (b && a)
swap true true = refl
swap true false = refl
swap false true = refl
swap false false = refl

-- the scene of a reader
pub closed_scene : (front : NotifyFront) (scene : SceneState) (is_closed : Bool) → scene ≡ trace.scene_of front.trace → is_closed ≡ not (has_no_signal front.signals) → closed_if is_closed scene ≡ scene_of front
closed_scene front scene is_closed is closed =
    ap (closed_if is_closed) is
    ∙ ap (λ (c : Bool). closed_if c (trace.scene_of front.trace)) closed
    ∙ ap (λ (o : Bool). record (trace.scene_of front.trace) { is_open = o }) (swap (has_no_signal front.signals) (has_no_item front.trace.items))
