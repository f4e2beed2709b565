-- What is spelled is within its limits: the lines of the header lead to it as those of a trace, and each call is within those of
-- calls.
use Rattle.std.proofs.Common.{◌≡◌, ℕ, ◌+◌, ◌≤◌, Bool, true, false, cond, leb, ltb, List, [], ◌∷◌, ◌++◌, length, map, append_assoc, Option, Some, None, refl, sym, ap, subst, ◌∙◌, arith, length-drop}
use Rattle.std.specs.Prelude.{All, IfNone, IfSome, IsTrue, drop, is_some}
use Rattle.std.specs.List.{list_all}
use Rattle.std.specs.Option.{option_map, option_map_or}
use Rattle.std.proofs.lemmas.Bool.{and_parts, leb-true}
use Rattle.std.proofs.lemmas.List.{append-nil, length-map}
use Rattle.std.proofs.lemmas.List.Elements.{All-nil, All-push}
use Rattle.std.proofs.lemmas.List.Sums.{AllPass-from_list_all}
use Rattle.ta_isa.specs.declared.boot.App.{App}
use Rattle.ta_isa.specs.declared.boot.Boot.{Boot}
use Rattle.text_lines.specs.Lines.{is_skipped}
use Rattle.text_lines.specs.Words.{words_of}
use Rattle.trace_text.specs.Forms.{decimal, is_decimal}
use Rattle.trace_text.specs.Limits.{Front, first_broken, is_within, with_app, with_key}
use Rattle.trace_text.specs.Rules.{added, added_by_kind, counts, kind_named, rules_behind, word, words_behind}
use Rattle.trace_text.specs.Rules.{after_line as after_trace_line}
use Rattle.trace_text.specs.declared.fault.BadKind.{BadKind}
use Rattle.trace_text.specs.declared.fault.BadKind.TheVariants as bad
use Rattle.trace_text.specs.declared.line_kind.LineKind.{LineKind}
use Rattle.trace_text.specs.declared.line_kind.LineKind.TheVariants as kind
use Rattle.trace_text.proofs.SoundLaws.{AreKept, IsSoFarOf, all_lines, are_kept, at_first}
use Rattle.trace_text.proofs.SoundWords.{within}
use Rattle.client_text.specs.Forms.{has_length, is_name, param_of, small}
use Rattle.client_text.specs.Grammar.{Leads, Spells}
use Rattle.client_text.specs.Rules.{ScriptFront, after_line, call_named, call_of, call_rules, cancel_in, close_rules, has_between, has_no_call, header_rules, invoke_rules, is_header, is_two_or_more, line_rules, no_lines, open_rules, params_behind, rules_of_words, before_params, thread_limits, with_call}
use Rattle.trace_text.specs.Sound.{IsSoundBoot}
use Rattle.client_text.specs.Sound.{AreNamedBehind, IsClientBoot, IsNamedBehind, IsSoundCall, IsSoundCancel, IsSoundNamed, IsSoundScript}
use Rattle.client_text.specs.declared.call_kind.CallKind.{CallKind}
use Rattle.client_text.specs.declared.call_kind.CallKind.TheVariants as call
use Rattle.client_text.specs.declared.script.Script.{Script}
use Rattle.client_text.specs.declared.script.ScriptCall.{ScriptCall}
use Rattle.client_text.specs.declared.script.ScriptParam.{ScriptParam}
use Rattle.client_text.proofs.Counts.{before_there}
use Rattle.client_text.proofs.Uuids.{sixteen_bytes}
use Rattle.client_text.proofs.Lines.{after_skipped, after_some, both_kept, header_kept, kept_by_words, with_header}

-- what the lines so far have led to
record IsSoFarScript (natives : List (List ℕ)) (front : ScriptFront) : Type 0 where
  header : IsSoFarOf natives front.header
  no_boot : IfNone front.header.boot (front.calls ≡ [])
  threads : IfSome front.header.boot (λ boot. 2 ≤ boot.threads)
  calls : All IsSoundCall front.calls
  names : AreNamedBehind [] front.calls

-- ---- a line of the header

two : (threads : List ℕ) → is_two_or_more threads ≡ true → 2 ≤ decimal threads
two threads e = let p = and_parts (is_decimal threads) (leb 2 (decimal threads)) e in leb-true 2 (decimal threads) p.1

app_threads : (boot : Option Boot) (app : App) → IfSome boot (λ b. 2 ≤ b.threads) → IfSome (with_app boot app) (λ b. 2 ≤ b.threads)
app_threads None app e = tt
app_threads (Some boot) app e = e

key_threads : (boot : Option Boot) (key : List ℕ) → IfSome boot (λ b. 2 ≤ b.threads) → IfSome (with_key boot key) (λ b. 2 ≤ b.threads)
key_threads None key e = tt
key_threads (Some boot) key e = e

second_word : (words : List (List ℕ)) → word (drop 1 words) 1 ≡ word words 2
second_word [] = refl
second_word (first ∷ words) = refl

-- the boot has its threads after a line of each kind
threads_added : (kind : LineKind) (before : Front) (words : List (List ℕ)) → is_header kind ≡ true
    → AreKept (thread_limits kind words) → IfSome before.boot (λ b. 2 ≤ b.threads)
    → IfSome (added kind before (drop 1 words)).boot (λ b. 2 ≤ b.threads)
unfolding added
threads_added kind.Boot before words header limits so_far =
    subst (λ (w : List ℕ). 2 ≤ decimal w) (sym (second_word words)) (two (word words 2) limits.0)
threads_added kind.Ta before words header limits so_far = app_threads before.boot _ so_far
threads_added kind.Mem before words header limits so_far = so_far
threads_added kind.Key before words header limits so_far = key_threads before.boot _ so_far
threads_added kind.Smc before words header limits so_far = absurd cc
threads_added kind.Enter before words header limits so_far = absurd cc
threads_added kind.Leave before words header limits so_far = absurd cc
threads_added kind.Write before words header limits so_far = absurd cc
threads_added kind.Show before words header limits so_far = absurd cc

threads_by_kind : (named : Option LineKind) (natives : List (List ℕ)) (before : ScriptFront) (words : List (List ℕ))
    → first_broken (header_rules named natives before words) ≡ None → IfSome before.header.boot (λ b. 2 ≤ b.threads)
    → IfSome (added_by_kind named before.header words).boot (λ b. 2 ≤ b.threads)
threads_by_kind None natives before words kept so_far = so_far
threads_by_kind (Some kind) natives before words kept so_far =
    let rules = are_kept (header_rules (Some kind) natives before words) kept in
    let behind = rules_behind kind natives before.header (drop 1 words) in
    let limits = (both_kept behind (thread_limits kind words) (behind_three (is_header kind) (counts (words_behind kind) words) (has_no_call before.calls) (behind ++ thread_limits kind words) kept)).1 in
    threads_added kind before.header words rules.0 (are_kept (thread_limits kind words) limits) so_far
  where
    behind_three : (one two three : Bool) (rules : List (BadKind × Bool))
        → first_broken ((bad.Item, one) ∷ (bad.Count, two) ∷ (bad.Place, three) ∷ rules) ≡ None → first_broken rules ≡ None
    behind_three true true true rules e = e
    behind_three false two three rules e = absurd cc
    behind_three true false three rules e = absurd cc
    behind_three true true false rules e = absurd cc

threads_line : (natives : List (List ℕ)) (before : ScriptFront) (line : List ℕ) → is_skipped line ≡ false
    → first_broken (header_rules (kind_named (word (words_of line) 0)) natives before (words_of line)) ≡ None
    → IfSome before.header.boot (λ b. 2 ≤ b.threads)
    → IfSome (after_trace_line before.header line).boot (λ b. 2 ≤ b.threads)
unfolding after_trace_line
threads_line natives before line some kept so_far =
    unless (is_skipped line) before.header _ so_far
    (threads_by_kind (kind_named (word (words_of line) 0)) natives before (words_of line) kept so_far)
  where
    unless : (skipped : Bool) (was now : Front) → IfSome was.boot (λ b. 2 ≤ b.threads) → IfSome now.boot (λ b. 2 ≤ b.threads)
        → IfSome (cond skipped was now).boot (λ b. 2 ≤ b.threads)
    unless true was now e f = e
    unless false was now e f = f

-- no call stands before a line of the header
no_call : (named : Option LineKind) (natives : List (List ℕ)) (before : ScriptFront) (words : List (List ℕ))
    → first_broken (header_rules named natives before words) ≡ None → before.calls ≡ []
no_call None natives before words kept = absurd cc
no_call (Some kind) natives before words kept =
    let rules = are_kept (header_rules (Some kind) natives before words) kept in
    none before.calls rules.1.1.0
  where
    none : (calls : List ScriptCall) → has_no_call calls ≡ true → calls ≡ []
    none [] e = refl
    none (c ∷ calls) e = absurd cc

if_none : (boot : Option Boot) (calls : List ScriptCall) → calls ≡ [] → IfNone boot (calls ≡ [])
if_none None calls e = e
if_none (Some boot) calls e = tt

so_far_header : (natives : List (List ℕ)) (before : ScriptFront) (line : List ℕ) → is_skipped line ≡ false
    → call_named (word (words_of line) 0) ≡ None → first_broken (line_rules natives before true line) ≡ None
    → IsSoFarScript natives before → IsSoFarScript natives (with_header before (after_trace_line before.header line))
so_far_header natives before line some is kept so_far =
    let lines = header_kept natives before line some is kept in
    record {
      header = all_lines natives before.header (line ∷ []) (after_trace_line before.header line) (lines.1, refl) so_far.header;
      no_boot = if_none _ before.calls (no_call (kind_named (word (words_of line) 0)) natives before (words_of line) lines.0);
      threads = threads_line natives before line some lines.0 so_far.threads;
      calls = so_far.calls;
      names = so_far.names;
    }

-- ---- a call

-- what its rules say
record IsKeptCall (before : ScriptFront) (added : ScriptCall) : Type 0 where
  boots : is_some before.header.boot ≡ true
  sound : IsSoundCall added
  named : IsNamedBehind before.calls added

-- at most four parameters are left of so few words
few_left : (least most : ℕ) (words params : List (List ℕ)) → has_between least most words ≡ true
    → length params + most ≤ length words + 4 → length params ≤ 4
unfolding has_between
few_left least most words params e few =
    let p = and_parts (is_within least most (length words)) (list_all (λ w. ltb 0 (length w)) words) e in
    let limits = within least most (length words) p.0 in
    omega (arith, limits.1, few)

have_lengths : (words : List (List ℕ)) → list_all has_length (map param_of words) ≡ true
    → All (λ param. IsTrue (has_length param)) (map param_of words)
have_lengths words e = λ k d lt. AllPass-from_list_all has_length (map param_of words) e k d lt

named : (name : List ℕ) (params : List (List ℕ)) → is_name name ≡ true → length params ≤ 4
    → list_all has_length (map param_of params) ≡ true → IsSoundNamed name (map param_of params)
named name params is few lengths = record {
  letters = is;
  few = omega (arith, few, length-map params param_of);
  lengths = have_lengths params lengths;
}

three_gone : (words : List (List ℕ)) → has_between 3 7 words ≡ true → length (drop 3 words) + 7 ≤ length words + 4
unfolding has_between
three_gone words e =
    let p = and_parts (is_within 3 7 (length words)) (list_all (λ w. ltb 0 (length w)) words) e in
    let limits = within 3 7 (length words) p.0 in
    omega (arith, limits.0, length-drop 3 words)

sound_cancel : (cancel : Option (List ℕ)) → option_map_or (λ number. is_within 1 1000 (small number)) cancel true ≡ true
    → IsSoundCancel (option_map small cancel)
sound_cancel None e = tt
sound_cancel (Some number) e = e

-- one call more
named_more : (before calls : List ScriptCall) (added : ScriptCall) → AreNamedBehind before calls → IsNamedBehind (before ++ calls) added
    → AreNamedBehind before (calls ++ added ∷ [])
named_more before [] added names is = (subst (λ (b : List ScriptCall). IsNamedBehind b added) (append-nil before) is, tt)
named_more before (call ∷ calls) added names is = (
  names.0,
  named_more (before ++ call ∷ []) calls added names.1
      (subst (λ (b : List ScriptCall). IsNamedBehind b added) (sym (append_assoc before (call ∷ []) calls)) is),
)

kept_open : (before : ScriptFront) (words : List (List ℕ)) → AreKept (open_rules before words)
    → IsKeptCall before (call_of call.Open words)
kept_open before words (counted, (boots, (name, (_, (id, (lengths, (new, _))))))) = record {
  boots = boots;
  sound = (
    named (word words 1) (drop 3 words) name (few_left 3 7 words (drop 3 words) counted (three_gone words counted)) lengths,
    sixteen_bytes (word words 2) id,
  );
  named = new;
}

-- at most four are left
kept_params : (before : ℕ) (words : List (List ℕ)) → has_between 3 (before + 4) words ≡ true → before ≤ length words
    → length (drop before words) ≤ 4
unfolding has_between
kept_params before words e there =
    let p = and_parts (is_within 3 (before + 4) (length words)) (list_all (λ w. ltb 0 (length w)) words) e in
    let limits = within 3 (before + 4) (length words) p.0 in
    omega (arith, limits.1, there, length-drop before words)

kept_invoke : (before : ScriptFront) (words : List (List ℕ)) → AreKept (invoke_rules before words)
    → IsKeptCall before (call_of call.Invoke words)
kept_invoke before words (counted, (boots, (name, (_, (_, (_, (cancel, (lengths, (opened, _))))))))) = record {
  boots = boots;
  sound = (
    named (word words 1) (params_behind words) name (kept_params (before_params words) words counted (before_there words counted)) lengths,
    sound_cancel (cancel_in words) cancel,
  );
  named = opened;
}

kept_close : (before : ScriptFront) (words : List (List ℕ)) → AreKept (close_rules before words)
    → IsKeptCall before (call_of call.Close words)
kept_close before words (_, (boots, (name, (opened, _)))) = record {
  boots = boots;
  sound = record { letters = name; few = omega arith; lengths = All-nil (λ (param : ScriptParam). IsTrue (has_length param)) };
  named = opened;
}

kept_call : (kind : CallKind) (before : ScriptFront) (words : List (List ℕ)) → AreKept (call_rules kind before words)
    → IsKeptCall before (call_of kind words)
kept_call call.Open before words kept = kept_open before words kept
kept_call call.Invoke before words kept = kept_invoke before words kept
kept_call call.Close before words kept = kept_close before words kept

booted : (boot : Option Boot) (calls : List ScriptCall) → is_some boot ≡ true → IfNone boot (calls ≡ [])
booted (Some boot) calls e = tt
booted None calls e = absurd cc

so_far_call : (natives : List (List ℕ)) (before : ScriptFront) (added : ScriptCall) → IsKeptCall before added
    → IsSoFarScript natives before → IsSoFarScript natives (with_call before added)
so_far_call natives before added kept so_far = record {
  header = so_far.header;
  no_boot = booted before.header.boot (before.calls ++ added ∷ []) kept.boots;
  threads = so_far.threads;
  calls = All-push IsSoundCall before.calls added so_far.calls kept.sound;
  names = named_more [] before.calls added so_far.names kept.named;
}

-- ---- lines

so_far_some : (natives : List (List ℕ)) (before : ScriptFront) (line : List ℕ) (named : Option CallKind) → is_skipped line ≡ false
    → call_named (word (words_of line) 0) ≡ named → first_broken (line_rules natives before true line) ≡ None
    → IsSoFarScript natives before → IsSoFarScript natives (after_line before line)
so_far_some natives before line None some is kept so_far =
    subst (IsSoFarScript natives) (sym (after_some before line None some is)) (so_far_header natives before line some is kept so_far)
so_far_some natives before line (Some kind) some is kept so_far =
    let words = words_of line in
    let rules : first_broken (call_rules kind before words) ≡ None =
    sym (ap (λ (o : Option CallKind). first_broken (rules_of_words o natives before words)) is)
    ∙ (kept_by_words natives before line some kept).1 in
    subst (IsSoFarScript natives) (sym (after_some before line (Some kind) some is))
    (so_far_call natives before (call_of kind words) (kept_call kind before words (are_kept (call_rules kind before words) rules)) so_far)

so_far_any : (natives : List (List ℕ)) (before : ScriptFront) (line : List ℕ) (skipped : Bool) → is_skipped line ≡ skipped
    → first_broken (line_rules natives before true line) ≡ None → IsSoFarScript natives before
    → IsSoFarScript natives (after_line before line)
so_far_any natives before line true is kept so_far =
    subst (IsSoFarScript natives) (sym (after_skipped before line is)) so_far
so_far_any natives before line false is kept so_far =
    so_far_some natives before line (call_named (word (words_of line) 0)) is refl kept so_far

so_far_lines : (natives : List (List ℕ)) (before : ScriptFront) (lines : List (List ℕ)) (after : ScriptFront)
    → Leads natives before lines after → IsSoFarScript natives before → IsSoFarScript natives after
so_far_lines natives before [] after leads so_far = subst (IsSoFarScript natives) leads so_far
so_far_lines natives before (line ∷ lines) after leads so_far =
    so_far_lines natives (after_line before line) lines after leads.1
    (so_far_any natives before line (is_skipped line) refl leads.0 so_far)

so_far_first : (natives : List (List ℕ)) → IsSoFarScript natives no_lines
so_far_first natives = record { header = at_first natives; no_boot = refl; threads = tt; calls = All-nil IsSoundCall; names = tt }

both : (natives : List (List ℕ)) (front : ScriptFront) → IsSoFarScript natives front → IfSome front.header.boot (IsClientBoot natives)
both natives front so_far = by_boot front.header.boot so_far.header.is_boot so_far.threads
  where
    by_boot : (boot : Option Boot) → IfSome boot (IsSoundBoot natives) → IfSome boot (λ b. 2 ≤ b.threads)
        → IfSome boot (IsClientBoot natives)
    by_boot None sound threads = tt
    by_boot (Some boot) sound threads = record { boots = sound; two_threads = threads }

neither : (natives : List (List ℕ)) (front : ScriptFront) → IsSoFarScript natives front
    → IfNone front.header.boot ((front.header.fills ≡ []) × (front.calls ≡ []))
neither natives front so_far = by_boot front.header.boot so_far.header.no_boot so_far.no_boot
  where
    by_boot : (boot : Option Boot) → IfNone boot ((front.header.fills ≡ []) × (front.header.items ≡ [])) → IfNone boot (front.calls ≡ [])
        → IfNone boot ((front.header.fills ≡ []) × (front.calls ≡ []))
    by_boot None header calls = (header.0, calls)
    by_boot (Some boot) header calls = tt

pub sound_spelled : (natives : List (List ℕ)) (text : List ℕ) (script : Script) → Spells natives text script
    → IsSoundScript natives script
sound_spelled natives text script s =
    let last = so_far_lines natives no_lines s.lines s.end s.spelled (so_far_first natives) in
    subst (IsSoundScript natives) s.value_is (record {
      no_boot = neither natives s.end last;
      boot = both natives s.end last;
      fills = last.header.are_fills;
      calls = last.calls;
      names = last.names;
    })
