-- Lines that count stay within their limits.
use Rattle.std.proofs.Common.{◌≡◌, ℕ, Bool, true, false, cond, List, [], ◌∷◌, drop, Option, Some, None, refl, sym, ap, subst, ◌∙◌}
use Rattle.std.specs.Prelude.{IfNone, is_some}
use Rattle.std.specs.List.{list_all}
use Rattle.live_text.specs.Rules.{LiveFront, is_history}
use Rattle.live_text.specs.Rules as live
use Rattle.live_text.specs.Sound.{AreSound, LinesStaySound}
use Rattle.live_text.proofs.Judged.{history_after, plain_after}
use Rattle.notify_text.specs.Rules.{NotifyFront, after_line, is_signal, line_rules, no_lines, other_rules, signal_rules, with_signal}
use Rattle.notify_text.specs.Statement.{IsEmpty, with_trace}
use Rattle.notify_text.proofs.Lines.{after-same, after-signal, after-skipped, kept-of-trace, rules-by-words}
use Rattle.ta_isa.specs.declared.boot.App.{App}
use Rattle.ta_isa.specs.declared.boot.Boot.{Boot}
use Rattle.text_lines.specs.Lines.{is_skipped}
use Rattle.text_lines.specs.Words.{words_of}
use Rattle.trace_text.specs.Forms.{decimal}
use Rattle.trace_text.specs.Limits.{Front, first_broken, with_app, with_key}
use Rattle.trace_text.specs.Rules.{added, added_by_kind, is_text_byte, kind_named, rules_behind, word}
use Rattle.trace_text.specs.Rules.{after_line as after_trace_line}
use Rattle.trace_text.specs.declared.line_kind.LineKind.{LineKind}
use Rattle.trace_text.specs.declared.line_kind.LineKind.TheVariants as kind
use Rattle.trace_text.proofs.SoundLaws.{AreKept, IsSoFarOf, all_lines, are_kept, at_first}

-- ---- a boot stands behind each line that adds something

with_app_there : (boot : Option Boot) (app : App) → is_some boot ≡ true → is_some (with_app boot app) ≡ true
with_app_there None app e = e
with_app_there (Some boot) app e = refl

with_key_there : (boot : Option Boot) (key : List ℕ) → is_some boot ≡ true → is_some (with_key boot key) ≡ true
with_key_there None key e = e
with_key_there (Some boot) key e = refl

boot_behind : (kind : LineKind) (natives : List (List ℕ)) (told : Front) (ws : List (List ℕ)) → AreKept (rules_behind kind natives told ws)
    → is_some (added kind told ws).boot ≡ true
unfolding rules_behind added
boot_behind kind.Boot natives told ws kept = refl
boot_behind kind.Ta natives told ws kept = with_app_there told.boot _ kept.0
boot_behind kind.Mem natives told ws kept = kept.0
boot_behind kind.Key natives told ws kept = with_key_there told.boot _ kept.0
boot_behind kind.Smc natives told ws kept = kept.0
boot_behind kind.Enter natives told ws kept = kept.0
boot_behind kind.Leave natives told ws kept = kept.0
boot_behind kind.Write natives told ws kept = kept.0
boot_behind kind.Show natives told ws kept = kept.0

has_there : (boot : Option Boot) (P : Type 0) → is_some boot ≡ true → IfNone boot P
has_there None P e = absurd cc
has_there (Some boot) P e = tt

-- ---- a line

-- the lines of a conversation that give these of a trace with signals
abbrev live_of : Bool → NotifyFront → LiveFront
live_of forgets told = record { told = told; forgets = forgets }

sound_of : (natives : List (List ℕ)) (forgets : Bool) (told : NotifyFront) → IfNone told.trace.boot (IsEmpty told) → IsSoFarOf natives told.trace → AreSound natives (live_of forgets told)
sound_of natives forgets told has so_far = record {
  no_boot = has;
  boot = so_far.is_boot;
  fills = so_far.are_fills;
  items = so_far.are_items;
  in_turn = so_far.in_turn;
}

nothing_yet : (boot : Option Boot) (front : NotifyFront) → IfNone boot (IsEmpty front)
    → IfNone boot ((front.trace.fills ≡ []) × (front.trace.items ≡ []))
nothing_yet None front empty = (empty.fills, empty.items)
nothing_yet (Some boot) front empty = tt

so_far_of : (natives : List (List ℕ)) (front : LiveFront) → AreSound natives front → IsSoFarOf natives front.told.trace
so_far_of natives front sound = record {
  no_boot = nothing_yet front.told.trace.boot front.told sound.no_boot;
  is_boot = sound.boot;
  are_fills = sound.fills;
  are_items = sound.items;
  in_turn = sound.in_turn;
}

-- a line of a trace of this kind
behind_named : (named : Option LineKind) (natives : List (List ℕ)) (before : NotifyFront) (words : List (List ℕ))
    → first_broken (other_rules named natives before words) ≡ None
    → is_some (added_by_kind named before.trace words).boot ≡ true
behind_named None natives before words kept = absurd cc
behind_named (Some kind) natives before words kept =
    boot_behind kind natives before.trace (drop 1 words) (are_kept (other_rules (Some kind) natives before words) kept).1.1

trace_behind : (told : Front) (line : List ℕ) → is_skipped line ≡ false
    → after_trace_line told line ≡ added_by_kind (kind_named (word (words_of line) 0)) told (words_of line)
unfolding after_trace_line
trace_behind told line some =
    ap (λ (b : Bool). cond b told (added_by_kind (kind_named (word (words_of line) 0)) told (words_of line))) some

is_text : (natives : List (List ℕ)) (before : NotifyFront) (line : List ℕ)
    → first_broken (line_rules natives before true line) ≡ None → list_all is_text_byte line ≡ true
unfolding line_rules
is_text natives before line kept = (are_kept (line_rules natives before true line) kept).0

-- the rules of a line that is no signal's, by its words
front_rules : (natives : List (List ℕ)) (front : NotifyFront) (line : List ℕ) → list_all is_text_byte line ≡ true → is_skipped line ≡ false → is_signal (words_of line) ≡ false
    → first_broken (line_rules natives front true line) ≡ first_broken (other_rules (kind_named (word (words_of line) 0)) natives front (words_of line))
front_rules natives front line text some plain =
    rules-by-words natives front line text some
    ∙ ap (λ (b : Bool). first_broken (cond b (signal_rules front (words_of line))
    (other_rules (kind_named (word (words_of line) 0)) natives front (words_of line)))) plain

-- lines of a trace with signals that stay so behind this one
abbrev StaysSound : List (List ℕ) → Bool → NotifyFront → List ℕ → Type 0
StaysSound natives forgets before line =
    AreSound natives (live_of forgets before) → first_broken (line_rules natives before true line) ≡ None → AreSound natives (live_of forgets (after_line before line))

sound_other : (natives : List (List ℕ)) (forgets : Bool) (before : NotifyFront) (line : List ℕ) → is_skipped line ≡ false → is_signal (words_of line) ≡ false → StaysSound natives forgets before line
sound_other natives forgets before line some plain sound kept =
    let now : Front = after_trace_line before.trace line in
    let so_far = all_lines natives before.trace (line ∷ []) now (kept-of-trace natives before line plain kept, refl)
    (so_far_of natives (live_of forgets before) sound) in
    let there : is_some now.boot ≡ true =
    ap (λ (f : Front). is_some f.boot) (trace_behind before.trace line some)
    ∙ behind_named (kind_named (word (words_of line) 0)) natives before (words_of line)
    (sym (front_rules natives before line (is_text natives before line kept) some plain) ∙ kept) in
    subst (λ (told : NotifyFront). AreSound natives (live_of forgets told)) (sym (after-same before line plain))
    (sound_of natives forgets (with_trace before now) (has_there now.boot _ there) so_far)

sound_signal : (natives : List (List ℕ)) (forgets : Bool) (before : NotifyFront) (line : List ℕ) → is_skipped line ≡ false → is_signal (words_of line) ≡ true → StaysSound natives forgets before line
sound_signal natives forgets before line some is sound kept =
    let rules : first_broken (signal_rules before (words_of line)) ≡ None =
    sym (ap (λ (b : Bool). first_broken (cond b (signal_rules before (words_of line))
    (other_rules (kind_named (word (words_of line) 0)) natives before (words_of line)))) is)
    ∙ sym (rules-by-words natives before line (is_text natives before line kept) some) ∙ kept in
    let there = (are_kept (signal_rules before (words_of line)) rules).1.0 in
    subst (λ (told : NotifyFront). AreSound natives (live_of forgets told)) (sym (after-signal before line some is))
    (sound_of natives forgets (with_signal before (decimal (word (words_of line) 1))) (has_there before.trace.boot _ there) (so_far_of natives (live_of forgets before) sound))

sound_some : (natives : List (List ℕ)) (forgets : Bool) (before : NotifyFront) (line : List ℕ) → is_skipped line ≡ false → (signal : Bool) → is_signal (words_of line) ≡ signal → StaysSound natives forgets before line
sound_some natives forgets before line some true is = sound_signal natives forgets before line some is
sound_some natives forgets before line some false is = sound_other natives forgets before line some is

sound_told : (natives : List (List ℕ)) (forgets : Bool) (before : NotifyFront) (line : List ℕ) (skipped : Bool) → is_skipped line ≡ skipped → StaysSound natives forgets before line
sound_told natives forgets before line true is sound kept = subst (λ (told : NotifyFront). AreSound natives (live_of forgets told)) (sym (after-skipped before line is)) sound
sound_told natives forgets before line false is sound kept =
    sound_some natives forgets before line is (is_signal (words_of line)) refl sound kept

-- ---- any line

plain_rules : (natives : List (List ℕ)) (before : LiveFront) (line : List ℕ) → is_history (words_of line) ≡ false → first_broken (live.line_rules natives before true line) ≡ first_broken (line_rules natives before.told true line)
unfolding live.line_rules
plain_rules natives before line is = rw is refl

sound_line : (natives : List (List ℕ)) (before : LiveFront) (line : List ℕ) (history : Bool) → is_history (words_of line) ≡ history → AreSound natives before
    → first_broken (live.line_rules natives before true line) ≡ None → AreSound natives (live.after_line before line)
sound_line natives before line true is sound kept =
    subst (AreSound natives) (sym (history_after before line is))
    (sound_of natives true before.told sound.no_boot (so_far_of natives before sound))
sound_line natives before line false is sound kept =
    subst (AreSound natives) (sym (plain_after natives before line is))
    (sound_told natives before.forgets before.told line (is_skipped line) refl sound (sym (plain_rules natives before line is) ∙ kept))

pub lines_stay_sound : LinesStaySound
lines_stay_sound = record {
  first = λ natives.
      sound_of natives false no_lines (record { fills = refl; items = refl; keyed = refl; signals = refl }) (at_first natives);
  onward = λ natives before line sound kept. sound_line natives before line (is_history (words_of line)) refl sound kept;
}
