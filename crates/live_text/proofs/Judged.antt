-- A line as it is judged: by the rules of a trace with signals, and where it begins none of these lines, by those of `history off`.
use Rattle.std.proofs.Common.{◌≡◌, ℕ, Bool, true, false, cond, eqb, List, [], ◌∷◌, length, Option, Some, None, Result, Ok, Err, refl, sym, ap, subst, ◌∙◌, arith}
use Rattle.std.specs.Prelude.{IfNone, ◌||◌, codes, is_none, is_some, not}
use Rattle.std.specs.List.{list_all, onto_first, slice_split}
use Rattle.std.proofs.lemmas.Bool.{eqb-true, ne_eqb}
use Rattle.std.proofs.lemmas.Slice.Eq.{bytes_eq-Decides}
use Rattle.live_text.specs.Judging.{history_line}
use Rattle.live_text.specs.Rules.{LiveFront, after_line, history_rules, is_history, line_rules, with_told, without_history}
use Rattle.live_text.specs.Scene.{HasItsBoot, IsSceneOf, LiveScene, scene_of}
use Rattle.live_text.specs.Statement.{IsJudged, with_line, with_statement}
use Rattle.live_text.specs.declared.line.LiveLine.{LiveLine}
use Rattle.live_text.specs.declared.line.LiveLine.TheVariants.{HistoryOff, Says}
use Rattle.notify_text.specs.Rules.{NotifyFront, is_signal, rules_of_words}
use Rattle.notify_text.specs.Rules as told
use Rattle.notify_text.specs.Statement.{HasBootOfSignals, IsEmpty}
use Rattle.notify_text.specs.Statement as told_statement
use Rattle.ta_isa.specs.declared.boot.Boot.{Boot}
use Rattle.text_lines.specs.Lines.{is_skipped}
use Rattle.text_lines.specs.Words.{words_of}
use Rattle.trace_text.specs.Judging.{Judged}
use Rattle.trace_text.specs.Limits.{first_broken}
use Rattle.trace_text.specs.Rules.{is_text_byte, kind_named, word}
use Rattle.trace_text.specs.Statement.{IsJudgedBy}
use Rattle.trace_text.specs.declared.fault.BadKind.{BadKind}
use Rattle.trace_text.specs.declared.fault.BadKind.TheVariants as bad
use Rattle.trace_text.specs.declared.fault.LineFault.{LineFault}
use Rattle.trace_text.specs.declared.fault.LineFault.TheVariants.{Broken, NoRoom}
use Rattle.trace_text.specs.declared.statement.Statement.{Statement}
use Rattle.trace_text.specs.declared.statement.Statement.TheVariants as says
use Rattle.trace_text.proofs.SoundLaws.{are_kept}

-- ---- a line that begins with `history` begins none of a trace with signals

same_word : (words : List (List ℕ)) → is_history words ≡ true → word words 0 ≡ codes "history"
same_word words is = (bytes_eq-Decides (word words 0) (codes "history")).0 is

no_signal : (words : List (List ℕ)) → is_history words ≡ true → is_signal words ≡ false
no_signal words is = rw (same_word words is) refl

unnamed : (words : List (List ℕ)) → is_history words ≡ true → kind_named (word words 0) ≡ None
unfolding kind_named
unnamed words is = rw (same_word words is) refl

comment_words : (pieces : List (List ℕ)) → is_history (onto_first 35 pieces) ≡ true → ⊥
comment_words [] is = let same : 35 ∷ [] ≡ codes "history" = same_word ((35 ∷ []) ∷ []) is in cc
comment_words (piece ∷ pieces) is = let same : 35 ∷ piece ≡ codes "history" = same_word ((35 ∷ piece) ∷ pieces) is in cc

second_passes : (first second : Bool) → first ≡ false → (first || second) ≡ true → second ≡ true
second_passes false second fails passes = passes
second_passes true second fails passes = absurd cc

not_skipped : (line : List ℕ) → is_skipped line ≡ true → is_history (words_of line) ≡ true → ⊥
unfolding is_skipped
not_skipped [] skipped is = let same : [] ≡ codes "history" = same_word ([] ∷ []) is in cc
not_skipped (c ∷ cs) skipped is =
    let some : eqb (length (c ∷ cs)) 0 ≡ false = ne_eqb _ _ (λ e. omega (arith, e)) in
    let comment : c ≡ 35 = eqb-true c 35 (second_passes _ _ some skipped) in
    comment_words (slice_split (λ b. eqb b 32) cs) (subst (λ (b : ℕ). is_history (words_of (b ∷ cs)) ≡ true) comment is)

-- ---- its rules

-- the first rule that a line breaks in a trace with signals, and here
abbrev as_told : Bool → Bool → List (BadKind × Bool) → Option BadKind
as_told text skipped rules = first_broken ((bad.Byte, text) ∷ (bad.Cut, true) ∷ cond skipped [] rules)

byte_or_item : (text skipped : Bool) (rules : List (BadKind × Bool)) → skipped ≡ false → first_broken rules ≡ Some bad.Item → as_told text skipped rules ≡ cond text (Some bad.Item) (Some bad.Byte)
byte_or_item true false rules some broken = broken
byte_or_item false false rules some broken = refl
byte_or_item text true rules some broken = absurd cc

words_broken : (natives : List (List ℕ)) (before : NotifyFront) (words : List (List ℕ)) → is_history words ≡ true → first_broken (rules_of_words natives before words) ≡ Some bad.Item
words_broken natives before words is = rw (no_signal words is, unnamed words is) refl

some_line : (skipped : Bool) (line : List ℕ) → is_skipped line ≡ skipped → is_history (words_of line) ≡ true → skipped ≡ false
some_line true line is history = absurd (not_skipped line is history)
some_line false line is history = refl

history_told : (natives : List (List ℕ)) (before : NotifyFront) (line : List ℕ) → is_history (words_of line) ≡ true
    → first_broken (told.line_rules natives before true line) ≡ cond (list_all is_text_byte line) (Some bad.Item) (Some bad.Byte)
unfolding told.line_rules
history_told natives before line is =
    byte_or_item (list_all is_text_byte line) (is_skipped line) (rules_of_words natives before (words_of line)) (some_line (is_skipped line) line refl is) (words_broken natives before (words_of line) is)

behind_text : (text : Bool) (told rest : Option BadKind) → told ≡ cond text (Some bad.Item) (Some bad.Byte) → (told ≡ Some bad.Item → ⊥) → cond text rest (Some bad.Byte) ≡ told
behind_text true told rest is other = absurd (other is)
behind_text false told rest is other = sym is

-- where a line breaks another rule, or none, its rules are those of a trace with signals
where_same : (history : Bool) (natives : List (List ℕ)) (before : LiveFront) (line : List ℕ) → is_history (words_of line) ≡ history → (first_broken (told.line_rules natives before.told true line) ≡ Some bad.Item → ⊥)
    → first_broken (line_rules natives before true line) ≡ first_broken (told.line_rules natives before.told true line)
unfolding line_rules
where_same false natives before line is other = rw is refl
where_same true natives before line is other =
    rw is (behind_text (list_all is_text_byte line) (first_broken (told.line_rules natives before.told true line)) (first_broken (history_rules before (words_of line))) (history_told natives before.told line is) other)

same_rules : (natives : List (List ℕ)) (before : LiveFront) (line : List ℕ) → (first_broken (told.line_rules natives before.told true line) ≡ Some bad.Item → ⊥)
    → first_broken (line_rules natives before true line) ≡ first_broken (told.line_rules natives before.told true line)
same_rules natives before line other = where_same (is_history (words_of line)) natives before line refl other

-- and it isn't `history off`
plain : (history : Bool) (natives : List (List ℕ)) (before : NotifyFront) (line : List ℕ) → is_history (words_of line) ≡ history → first_broken (told.line_rules natives before true line) ≡ None → history ≡ false
plain false natives before line is kept = refl
plain true natives before line is kept = absurd (broken (list_all is_text_byte line) (sym (history_told natives before line is) ∙ kept))
  where
    broken : (text : Bool) → cond text (Some bad.Item) (Some bad.Byte) ≡ None → ⊥
    broken true e = cc
    broken false e = cc

pub plain_after : (natives : List (List ℕ)) (before : LiveFront) (line : List ℕ) → is_history (words_of line) ≡ false → after_line before line ≡ with_told before (told.after_line before.told line)
unfolding after_line
plain_after natives before line is = rw is refl

pub history_after : (before : LiveFront) (line : List ℕ) → is_history (words_of line) ≡ true → after_line before line ≡ without_history before
unfolding after_line
history_after before line is = rw is refl

-- ---- what it says

pub adds_told : (before : LiveFront) (said : Statement) → with_statement before said ≡ with_told before (told_statement.with_statement before.told said)
adds_told before says.Blank = refl
adds_told before (says.Boot size) = refl
adds_told before (says.App app) = refl
adds_told before (says.Fill fill) = refl
adds_told before (says.Key key) = refl
adds_told before (says.Item item) = refl
adds_told before (says.Signal value) = refl

-- without a boot there is no signal
no_signals : (boot : Option Boot) (told : NotifyFront) → IfNone boot (IsEmpty told) → IfNone boot (told.signals ≡ [])
no_signals None told empty = empty.signals
no_signals (Some boot) told empty = tt

pub has_boot : (front : LiveFront) → HasItsBoot front → HasBootOfSignals front.told
has_boot front has = no_signals front.told.trace.boot front.told has

pub said_judged : (natives : List (List ℕ)) (front : LiveFront) (line : List ℕ) (said : Statement)
    → IsJudgedBy told_statement.with_statement (Ok said) (told.line_rules natives front.told true line) front.told (told.after_line front.told line)
    → IsJudged (Ok (Says said)) (line_rules natives front true line) front (after_line front line)
said_judged natives front line said judged = (
  same_rules natives front line (λ e. cc) ∙ judged.0,
  adds_told front said ∙ ap (with_told front) judged.1
      ∙ sym (plain_after natives front line (plain (is_history (words_of line)) natives front.told line refl judged.0)),
)

pub fault_judged : (natives : List (List ℕ)) (front : LiveFront) (line : List ℕ) (fault : LineFault) → (fault ≡ Broken bad.Item → ⊥)
    → IsJudgedBy told_statement.with_statement (Err fault) (told.line_rules natives front.told true line) front.told (told.after_line front.told line)
    → IsJudged (Err fault) (line_rules natives front true line) front (after_line front line)
fault_judged natives front line (Broken kind) known judged =
    same_rules natives front line (λ e. let same : kind ≡ bad.Item = cc in known (ap (λ (k : BadKind). Broken k) same)) ∙ judged
fault_judged natives front line NoRoom known judged = tt

pub unknown_broken : (fault : LineFault) (rules : List (BadKind × Bool)) (before after : NotifyFront) → fault ≡ Broken bad.Item → IsJudgedBy told_statement.with_statement (Err fault) rules before after → first_broken rules ≡ Some bad.Item
unknown_broken (Broken kind) rules before after is judged = let same : kind ≡ bad.Item = cc in judged ∙ ap (λ (k : BadKind). Some k) same
unknown_broken NoRoom rules before after is judged = absurd cc

-- a line that begins none of a trace with signals
is_text : (text : Bool) (rest : Option BadKind) → cond text rest (Some bad.Byte) ≡ Some bad.Item → text ≡ true
is_text true rest e = refl
is_text false rest e = absurd cc

text_of_told : (natives : List (List ℕ)) (before : NotifyFront) (line : List ℕ) → first_broken (told.line_rules natives before true line) ≡ Some bad.Item → list_all is_text_byte line ≡ true
unfolding told.line_rules
text_of_told natives before line e =
    is_text (list_all is_text_byte line) (first_broken (cond (is_skipped line) [] (rules_of_words natives before (words_of line)))) e

none_is : (boot : Option Boot) → not (is_some boot) ≡ is_none boot
none_is None = refl
none_is (Some boot) = refl

other_rules : (history : Bool) (natives : List (List ℕ)) (front : LiveFront) (line : List ℕ) → is_history (words_of line) ≡ history → first_broken (told.line_rules natives front.told true line) ≡ Some bad.Item
    → first_broken (line_rules natives front true line) ≡ first_broken (history_line (scene_of front) (words_of line))
unfolding line_rules
other_rules false natives front line is e = rw is e
other_rules true natives front line is e =
    let text = text_of_told natives front.told line e in
    rw (is, text, none_is front.told.trace.boot) refl

pub history_judged : (natives : List (List ℕ)) (scene : LiveScene) (front : LiveFront) (line : List ℕ) (result : Result LiveLine LineFault) → IsSceneOf scene front → first_broken (told.line_rules natives front.told true line) ≡ Some bad.Item
    → Judged (λ (l : LiveLine). l) result (history_line scene (words_of line)) HistoryOff → IsJudged result (line_rules natives front true line) front (after_line front line)
history_judged natives scene front line (Ok said) is e judged =
    let rules = other_rules (is_history (words_of line)) natives front line refl e in
    let kept : first_broken (history_line (scene_of front) (words_of line)) ≡ None = rw is at judged.0 in
    let history = (are_kept (history_line (scene_of front) (words_of line)) kept).0 in
    (rules ∙ kept, ap (with_line front) judged.1 ∙ sym (history_after front line history))
history_judged natives scene front line (Err (Broken kind)) is e judged =
    other_rules (is_history (words_of line)) natives front line refl e ∙ rw is at judged
history_judged natives scene front line (Err NoRoom) is e judged = tt
