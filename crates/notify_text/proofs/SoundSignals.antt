-- What is spelled is within its limits: the lines of the trace lead to it among the signals, and each signal stands behind
-- as many items as there are then.
use Rattle.std.proofs.Common.{◌≡◌, ℕ, ◌≤◌, Bool, true, false, cond, List, [], ◌∷◌, ◌++◌, length, Option, Some, None, refl, sym, subst, arith}
use Rattle.std.specs.Prelude.{All, IfNone, drop, is_some}
use Rattle.std.proofs.lemmas.List.{length-append}
use Rattle.std.proofs.lemmas.List.Elements.{All-nil, All-push}
use Rattle.std.proofs.lemmas.List.Quantifiers.{all_pairs_push}
use Rattle.ta_isa.specs.declared.boot.App.{App}
use Rattle.ta_isa.specs.declared.boot.Boot.{Boot}
use Rattle.text_lines.specs.Lines.{is_skipped}
use Rattle.text_lines.specs.Words.{words_of}
use Rattle.trace_text.specs.Forms.{decimal, is_decimal}
use Rattle.trace_text.specs.Limits.{Front, first_broken, is_within, with_app, with_key}
use Rattle.trace_text.specs.Rules.{added, added_by_kind, counts, kind_named, word}
use Rattle.trace_text.specs.Rules.{after_line as after_trace_line}
use Rattle.trace_text.specs.declared.fault.BadKind.{BadKind}
use Rattle.trace_text.specs.declared.fault.BadKind.TheVariants as bad
use Rattle.trace_text.specs.declared.item.Item.{Item}
use Rattle.trace_text.specs.declared.line_kind.LineKind.{LineKind}
use Rattle.trace_text.specs.declared.line_kind.LineKind.TheVariants as kind
use Rattle.trace_text.proofs.SoundLaws.{IsSoFarOf, all_lines, at_first, at_last}
use Rattle.trace_text.proofs.SoundWords.{within}
use Rattle.notify_text.specs.Grammar.{Leads, Spells}
use Rattle.notify_text.specs.Rules.{NotifyFront, after_line, is_signal, line_rules, no_lines, signal_rules, with_signal}
use Rattle.notify_text.specs.Statement.{HasBootOfSignals, with_trace}
use Rattle.notify_text.specs.Sound.{AreInOrder, IsSoundSignal, IsSoundTold}
use Rattle.notify_text.specs.declared.notify_trace.NotifyTrace.{NotifyTrace}
use Rattle.notify_text.specs.declared.notify_trace.Signal.{Signal}
use Rattle.notify_text.proofs.Lines.{after-same, after-signal, after-skipped, kept-of-trace}

-- what the lines so far have led to
record IsSoFarTold (natives : List (List ℕ)) (told : NotifyFront) : Type 0 where
  trace : IsSoFarOf natives told.trace
  no_boot : IfNone told.trace.boot (told.signals ≡ [])
  signals : All (IsSoundSignal (length told.trace.items)) told.signals
  in_order : AreInOrder told.signals

-- ---- a line of the trace adds to it, and takes nothing away

-- a boot stays, and the items stay in front
record Grows (before after : Front) : Type 0 where
  boot : is_some before.boot ≡ true → is_some after.boot ≡ true
  items : length before.items ≤ length after.items

grows-not : (before : Front) → Grows before before
grows-not before = record { boot = λ e. e; items = omega arith }

grows-item : (before : Front) (item : Item) → Grows before (record before { items = before.items ++ item ∷ [] })
grows-item before item = record { boot = λ e. e; items = omega (arith, length-append before.items (item ∷ [])) }

grows-ta : (boot : Option Boot) (app : App) → is_some boot ≡ true → is_some (with_app boot app) ≡ true
grows-ta None app e = e
grows-ta (Some boot) app e = refl

grows-key : (boot : Option Boot) (key : List ℕ) → is_some boot ≡ true → is_some (with_key boot key) ≡ true
grows-key None key e = e
grows-key (Some boot) key e = refl

grows-added : (kind : LineKind) (before : Front) (ws : List (List ℕ)) → Grows before (added kind before ws)
unfolding added
grows-added kind.Boot before ws = record { boot = λ e. refl; items = omega arith }
grows-added kind.Ta before ws = record { boot = λ e. grows-ta before.boot _ e; items = omega arith }
grows-added kind.Mem before ws = record { boot = λ e. e; items = omega arith }
grows-added kind.Key before ws = record { boot = λ e. grows-key before.boot _ e; items = omega arith }
grows-added kind.Smc before ws = grows-item before _
grows-added kind.Enter before ws = grows-item before _
grows-added kind.Leave before ws = grows-item before _
grows-added kind.Write before ws = grows-item before _
grows-added kind.Show before ws = grows-item before _

grows-by-kind : (named : Option LineKind) (before : Front) (words : List (List ℕ))
    → Grows before (added_by_kind named before words)
grows-by-kind None before words = grows-not before
grows-by-kind (Some kind) before words = grows-added kind before (drop 1 words)

grows-unless : (skipped : Bool) (before after : Front) → Grows before after → Grows before (cond skipped before after)
grows-unless true before after grows = grows-not before
grows-unless false before after grows = grows

grows-line : (before : Front) (line : List ℕ) → Grows before (after_trace_line before line)
unfolding after_trace_line
grows-line before line =
    grows-unless (is_skipped line) before _ (grows-by-kind (kind_named (word (words_of line) 0)) before (words_of line))

-- signals stay within limits that grow
wider : (few more : ℕ) → few ≤ more → (signal : Signal) → IsSoundSignal few signal → IsSoundSignal more signal
wider few more le signal sound = record { some = sound.some; few = sound.few; there = omega (arith, le, sound.there) }

all-wider : (few more : ℕ) (signals : List Signal) → few ≤ more → All (IsSoundSignal few) signals
    → All (IsSoundSignal more) signals
all-wider few more signals le all = λ i d lt. wider few more le _ (all i d lt)

none-there : (before after : Option Boot) (signals : List Signal) → (is_some before ≡ true → is_some after ≡ true)
    → IfNone before (signals ≡ []) → IfNone after (signals ≡ [])
none-there before (Some boot) signals stays none = tt
none-there None None signals stays none = none
none-there (Some boot) None signals stays none = let e = stays refl in absurd cc

so_far-line : (natives : List (List ℕ)) (before : NotifyFront) (line : List ℕ) → is_signal (words_of line) ≡ false
    → first_broken (line_rules natives before true line) ≡ None → IsSoFarTold natives before
    → IsSoFarTold natives (with_trace before (after_trace_line before.trace line))
so_far-line natives before line plain kept so_far =
    let grows = grows-line before.trace line in
    record {
      trace = all_lines natives before.trace (line ∷ []) (after_trace_line before.trace line)
          (kept-of-trace natives before line plain kept, refl) so_far.trace;
      no_boot = none-there before.trace.boot (after_trace_line before.trace line).boot before.signals grows.boot so_far.no_boot;
      signals = all-wider _ _ before.signals grows.items so_far.signals;
      in_order = so_far.in_order;
    }

-- ---- a signal

-- what its rules say
record IsKeptSignal (before : NotifyFront) (value : ℕ) : Type 0 where
  boots : is_some before.trace.boot ≡ true
  some : 1 ≤ value
  few : value ≤ 63

four-kept : (counted boots number few : Bool)
    → first_broken ((bad.Count, counted) ∷ (bad.Place, boots) ∷ (bad.Number, number) ∷ (bad.Range, few) ∷ []) ≡ None
    → (boots ≡ true) × (few ≡ true)
four-kept true true true true e = (refl, refl)
four-kept true true true false e = absurd cc
four-kept true true false few e = absurd cc
four-kept true false number few e = absurd cc
four-kept false boots number few e = absurd cc

kept-signal : (before : NotifyFront) (words : List (List ℕ)) → first_broken (signal_rules before words) ≡ None
    → IsKeptSignal before (decimal (word words 1))
kept-signal before words e =
    let kept = four-kept (counts 1 words) (is_some before.trace.boot) (is_decimal (word words 1))
    (is_within 1 63 (decimal (word words 1))) e in
    let limits = within 1 63 (decimal (word words 1)) kept.1 in
    record { boots = kept.0; some = limits.0; few = limits.1 }

rules-signal : (text skipped signal : Bool) (rules others : List (BadKind × Bool)) → skipped ≡ false → signal ≡ true
    → first_broken ((bad.Byte, text) ∷ (bad.Cut, true) ∷ cond skipped [] (cond signal rules others)) ≡ None
    → first_broken rules ≡ None
rules-signal true false true rules others some is e = e
rules-signal false false true rules others some is e = absurd cc
rules-signal text true signal rules others some is e = absurd cc
rules-signal text false false rules others some is e = absurd cc

kept-signal-line : (natives : List (List ℕ)) (before : NotifyFront) (line : List ℕ) → is_skipped line ≡ false
    → is_signal (words_of line) ≡ true → first_broken (line_rules natives before true line) ≡ None
    → IsKeptSignal before (decimal (word (words_of line) 1))
unfolding line_rules
kept-signal-line natives before line some is e =
    kept-signal before (words_of line)
    (rules-signal _ (is_skipped line) (is_signal (words_of line)) (signal_rules before (words_of line)) _ some is e)

booted-none : (boot : Option Boot) (signals : List Signal) → is_some boot ≡ true → IfNone boot (signals ≡ [])
booted-none (Some boot) signals e = tt
booted-none None signals e = absurd cc

so_far-signal : (natives : List (List ℕ)) (before : NotifyFront) (value : ℕ) → IsKeptSignal before value
    → IsSoFarTold natives before → IsSoFarTold natives (with_signal before value)
so_far-signal natives before value kept so_far =
    let items = length before.trace.items in
    let signal : Signal = record { at = items; value = value } in
    record {
      trace = so_far.trace;
      no_boot = booted-none before.trace.boot (before.signals ++ signal ∷ []) kept.boots;
      signals = All-push (IsSoundSignal items) before.signals signal so_far.signals
          (record { some = kept.some; few = kept.few; there = omega arith });
      in_order = all_pairs_push (λ (earlier later : Signal). earlier.at ≤ later.at) before.signals signal so_far.in_order
          (λ k d lt. (so_far.signals k d lt).there);
    }

-- ---- lines

-- a signal stands behind a boot there too
boot-where : (natives : List (List ℕ)) (before : NotifyFront) (line : List ℕ) (skipped signal : Bool)
    → is_skipped line ≡ skipped → is_signal (words_of line) ≡ signal
    → first_broken (line_rules natives before true line) ≡ None → HasBootOfSignals before
    → HasBootOfSignals (after_line before line)
boot-where natives before line true signal is e kept has = subst HasBootOfSignals (sym (after-skipped before line is)) has
boot-where natives before line false true is e kept has =
    let signal : Signal = record { at = length before.trace.items; value = decimal (word (words_of line) 1) } in
    subst HasBootOfSignals (sym (after-signal before line is e))
    (booted-none before.trace.boot (before.signals ++ signal ∷ []) (kept-signal-line natives before line is e kept).boots)
boot-where natives before line false false is e kept has =
    subst HasBootOfSignals (sym (after-same before line e))
    (none-there before.trace.boot (after_trace_line before.trace line).boot before.signals (grows-line before.trace line).boot has)

pub boot-stays : (natives : List (List ℕ)) (before : NotifyFront) (line : List ℕ)
    → first_broken (line_rules natives before true line) ≡ None → HasBootOfSignals before
    → HasBootOfSignals (after_line before line)
boot-stays natives before line kept has =
    boot-where natives before line (is_skipped line) (is_signal (words_of line)) refl refl kept has

so_far-any : (natives : List (List ℕ)) (before : NotifyFront) (line : List ℕ) (skipped signal : Bool)
    → is_skipped line ≡ skipped → is_signal (words_of line) ≡ signal
    → first_broken (line_rules natives before true line) ≡ None → IsSoFarTold natives before
    → IsSoFarTold natives (after_line before line)
so_far-any natives before line true signal is e kept so_far =
    subst (IsSoFarTold natives) (sym (after-skipped before line is)) so_far
so_far-any natives before line false true is e kept so_far =
    subst (IsSoFarTold natives) (sym (after-signal before line is e))
    (so_far-signal natives before (decimal (word (words_of line) 1)) (kept-signal-line natives before line is e kept) so_far)
so_far-any natives before line false false is e kept so_far =
    subst (IsSoFarTold natives) (sym (after-same before line e)) (so_far-line natives before line e kept so_far)

so_far-lines : (natives : List (List ℕ)) (before : NotifyFront) (lines : List (List ℕ)) (after : NotifyFront)
    → Leads natives before lines after → IsSoFarTold natives before → IsSoFarTold natives after
so_far-lines natives before [] after leads so_far = subst (IsSoFarTold natives) leads so_far
so_far-lines natives before (line ∷ lines) after leads so_far =
    so_far-lines natives (after_line before line) lines after leads.1
    (so_far-any natives before line (is_skipped line) (is_signal (words_of line)) refl refl leads.0 so_far)

so_far-first : (natives : List (List ℕ)) → IsSoFarTold natives no_lines
so_far-first natives = record {
  trace = at_first natives;
  no_boot = refl;
  signals = All-nil (IsSoundSignal 0);
  in_order = λ i j d lt within. absurd (omega (arith, within));
}

pub sound-spelled : (natives : List (List ℕ)) (text : List ℕ) (told : NotifyTrace) → Spells natives text told
    → IsSoundTold natives told
sound-spelled natives text told s =
    let last = so_far-lines natives no_lines s.lines s.end s.spelled (so_far-first natives) in
    let trace = last.trace in
    subst (IsSoundTold natives) s.value_is (record {
      trace = record {
        no_boot = trace.no_boot;
        boot = trace.is_boot;
        fills = trace.are_fills;
        items = trace.are_items;
        in_turn = trace.in_turn;
        ended = at_last s.end.trace s.no_end_fault;
      };
      no_boot = last.no_boot;
      signals = last.signals;
      in_order = last.in_order;
    })
