-- A trace that a text spells is within its limits: line by line.
use Rattle.std.proofs.Common.{◌≡◌, ℕ, zero, suc, ◌+◌, ◌<◌, Bool, true, false, cond, eqb, ltb, List, [], ◌∷◌, ◌++◌, length, map, drop, replicate, Option, Some, None, refl, sym, ap, subst, ◌∙◌, arith, length-drop}
use Rattle.std.specs.Prelude.{not, ◌||◌, All, IfNone, IfSome}
use Rattle.std.specs.List.{AllByRecursion, fold, list_all, list_any}
use Rattle.std.specs.Str.{bytes_eq}
use Rattle.std.proofs.Math.ListN.{length-set}
use Rattle.std.proofs.lemmas.Bool.{and_parts, or_parts, eqb-true, ltb-true, not-true, not_from_false}
use Rattle.std.proofs.lemmas.List.{length-append, length-map}
use Rattle.std.proofs.lemmas.List.Elements.{All-push, All-nil}
use Rattle.std.proofs.lemmas.List.Quantifiers.{all_pairs_push}
use Rattle.std.proofs.lemmas.List.Sums.{AllPass-from_list_all}
use Rattle.ta_isa.specs.declared.boot.App.{App}
use Rattle.ta_isa.specs.declared.boot.Boot.{Boot}
use Rattle.ta_isa.specs.Reading.{image_of}
use Rattle.ta_isa.specs.Spelling.{IsValid}
use Rattle.trace_text.specs.declared.fault.BadKind.{BadKind}
use Rattle.trace_text.specs.declared.fault.BadKind.TheVariants as bad
use Rattle.trace_text.specs.declared.item.Item.{Item}
use Rattle.trace_text.specs.declared.item.Item.TheVariants as item
use Rattle.trace_text.specs.declared.line_kind.LineKind.{LineKind}
use Rattle.trace_text.specs.declared.line_kind.LineKind.TheVariants as kind
use Rattle.trace_text.specs.declared.trace.Fill.{Fill}
use Rattle.trace_text.specs.declared.trace.Trace.{Trace}
use Rattle.trace_text.specs.Forms.{bytes, decimal, hexadecimal, register, uuid}
use Rattle.trace_text.specs.Limits.{app_limits, boot_limits, Front, cpus_of, end_fault, first_broken, inside_after, is_inside, is_known, moved, no_front, no_key, outside, uuids_of}
use Rattle.trace_text.specs.Grammar.{Leads, Spells}
use Rattle.text_lines.specs.Words.{words_of}
use Rattle.text_lines.specs.Lines.{is_skipped}
use Rattle.trace_text.specs.Rules.{added, added_by_kind, after_line, app_of, call_rules, counts, cpu_rules, fill_of, is_text_byte, kind_named, line_rules, mem_rules, rules_behind, rules_of_kind, show_rules, size_of, word, words_behind, write_rules}
use Rattle.trace_text.specs.Statement.{boot_of}
use Rattle.trace_text.specs.Sound.{can_come, ComeInTurn, IsSound, IsSoundBoot, IsSoundCall, IsSoundFill, IsSoundItem}
use Rattle.trace_text.proofs.SoundWords.{fails_at, in_ram, part_of_ram, sound_registers, valid_image, within}

abbrev pub IsKept : BadKind × Bool → Type 0
IsKept rule = rule.1 ≡ true

-- each rule is kept
abbrev pub AreKept : List (BadKind × Bool) → Type 0
AreKept rules = AllByRecursion IsKept rules

pub one_kept : (kind : BadKind) (passed : Bool) (behind : Option BadKind) → cond passed behind (Some kind) ≡ None → (passed ≡ true) × (behind ≡ None)
one_kept kind true behind e = (refl, e)
one_kept kind false behind e = absurd cc

pub are_kept : (rules : List (BadKind × Bool)) → first_broken rules ≡ None → AreKept rules
are_kept [] e = tt
are_kept ((kind, passed) ∷ rules) e =
    let p = one_kept kind passed (first_broken rules) e in
    (p.0, are_kept rules p.1)

-- ---- what the words of each kind of line say

pub sound_boot : (natives : List (List ℕ)) (cpus threads frames : ℕ) → AreKept (boot_limits cpus threads frames) → IsSoundBoot natives (record { cpus = cpus; threads = threads; frames = frames; apps = []; key = no_key })
sound_boot natives cpus threads frames (few_cpus, (few_threads, (few_frames, _))) =
    let cpus_in = within 1 8 cpus few_cpus in
    let threads_in = within 1 16 threads few_threads in
    let frames_in = within 1 1024 frames few_frames in
    record {
      boots = record {
        some_processor = cpus_in.0;
        few_processors = cpus_in.1;
        some_thread = threads_in.0;
        few_threads = threads_in.1;
        some_frame = frames_in.0;
        few_frames = frames_in.1;
        few_apps = omega arith;
        valid = All-nil (λ app. IsValid app.image);
        apart = λ i j d lt inside. absurd (omega arith);
      };
      no_native = λ k d lt. absurd (omega arith);
    }

-- some application has this UUID
pub any_uuid : (apps : List App) (id : List ℕ) → list_any (λ uuid. bytes_eq uuid id) (uuids_of apps) ≡ list_any (λ (app : App). bytes_eq app.uuid id) apps
any_uuid [] id = refl
any_uuid (app ∷ apps) id = ap (λ (b : Bool). bytes_eq app.uuid id || b) (any_uuid apps id)

pub sound_apps : (natives : List (List ℕ)) (boot : Boot) (id image : List ℕ) → AreKept (app_limits natives (uuids_of boot.apps) id image) → IsValid (image_of image) → IsSoundBoot natives boot
    → IsSoundBoot natives (record boot { apps = boot.apps ++ record { uuid = id; image = image_of image } ∷ [] })
unfolding is_known
sound_apps natives boot id image (room, (new, _)) valid sound =
    let app : App = record { uuid = id; image = image_of image } in
    let few = ltb-true (length (uuids_of boot.apps)) 16 room in
    let unknown = or_parts (list_any (λ uuid. bytes_eq uuid id) (uuids_of boot.apps)) (list_any (λ native. bytes_eq native id) natives) (not-true _ new) in
    let was = sound.boots in
    record {
      boots = record {
        some_processor = was.some_processor;
        few_processors = was.few_processors;
        some_thread = was.some_thread;
        few_threads = was.few_threads;
        some_frame = was.some_frame;
        few_frames = was.few_frames;
        few_apps = omega (arith, few, length-map boot.apps (λ (a : App). a.uuid), length-append boot.apps (app ∷ []));
        valid = All-push (λ a. IsValid a.image) boot.apps app was.valid valid;
        apart = all_pairs_push (λ earlier later. not (bytes_eq earlier.uuid later.uuid) ≡ true) boot.apps app was.apart (fails_at (λ a. bytes_eq a.uuid app.uuid) boot.apps (sym (any_uuid boot.apps id) ∙ unknown.0));
      };
      no_native = All-push (λ a. not (list_any (λ native. bytes_eq native a.uuid) natives) ≡ true) boot.apps app sound.no_native (not_from_false _ unknown.1);
    }

sound_fill : (addr hex : List ℕ) → 0 < length hex → AreKept (mem_rules addr hex) → IsSoundFill (fill_of addr hex)
sound_fill addr hex some (_, (digits, (ram, _))) = part_of_ram (hexadecimal addr) hex some digits ram

sound_call : (cpus : ℕ) (cpu steps : List ℕ) (regs : List (List ℕ)) (free : Bool) → length regs ≡ 8 → AreKept (call_rules cpus cpu steps regs ++ (bad.Inside, free) ∷ [])
    → IsSoundCall cpus (decimal cpu) (decimal steps) (map register regs) × (free ≡ true)
sound_call cpus cpu steps regs free eight (_, (_, (forms, (granted, (there, (outside_is, _)))))) =
    let steps_in = within 1 1000000 (decimal steps) granted in (
      record {
        processor = ltb-true (decimal cpu) cpus there;
        some_step = steps_in.0;
        few_steps = steps_in.1;
        eight = length-map regs register ∙ eight;
        registers = sound_registers regs forms;
      },
      outside_is,
    )

sound_cpu : (cpus : ℕ) (cpu : List ℕ) (inside : Bool) → AreKept (cpu_rules cpus cpu ++ (bad.Inside, inside) ∷ []) → (decimal cpu < cpus) × (inside ≡ true)
sound_cpu cpus cpu inside (_, (there, (is_inside, _))) = (ltb-true (decimal cpu) cpus there, is_inside)

sound_write : (cpus : ℕ) (cpu addr hex : List ℕ) → 0 < length hex → AreKept (write_rules cpus cpu addr hex) → IsSoundItem cpus (item.Write (decimal cpu) (hexadecimal addr) (bytes hex))
sound_write cpus cpu addr hex some (_, (_, (digits, (ram, (there, _))))) = (ltb-true (decimal cpu) cpus there, part_of_ram (hexadecimal addr) hex some digits ram)

sound_show : (cpus : ℕ) (cpu addr len : List ℕ) → AreKept (show_rules cpus cpu addr len) → IsSoundItem cpus (item.Show (decimal cpu) (hexadecimal addr) (decimal len))
sound_show cpus cpu addr len (_, (_, (_, (few, (ram, (there, _)))))) =
    let shown = within 1 4096 (decimal len) few in
    (ltb-true (decimal cpu) cpus there, record { some = shown.0; in_ram = in_ram (hexadecimal addr) (decimal len) ram }, shown.1)

-- ---- traces, line by line

-- what holds of the trace of the lines so far
pub record IsSoFar (natives : List (List ℕ)) (boot : Option Boot) (fills : List Fill) (items : List Item) : Type 0 where
  pub no_boot : IfNone boot ((fills ≡ []) × (items ≡ []))
  pub is_boot : IfSome boot (IsSoundBoot natives)
  pub are_fills : All IsSoundFill fills
  pub are_items : All (IsSoundItem (cpus_of boot)) items
  pub in_turn : ComeInTurn outside items

abbrev pub IsSoFarOf : List (List ℕ) → Front → Type 0
IsSoFarOf natives front = IsSoFar natives front.boot front.fills front.items

pub at_first : (natives : List (List ℕ)) → IsSoFarOf natives no_front
at_first natives = record {
  no_boot = (refl, refl);
  is_boot = tt;
  are_fills = All-nil IsSoundFill;
  are_items = All-nil (IsSoundItem 0);
  in_turn = tt;
}

pub with_boot : (natives : List (List ℕ)) (boot : Boot) (fills : List Fill) (items : List Item) → IsSoundBoot natives boot → IsSoFar natives None fills items → IsSoFar natives (Some boot) fills items
with_boot natives boot fills items sound before = record {
  no_boot = tt;
  is_boot = sound;
  are_fills = before.are_fills;
  are_items = subst (λ (is : List Item). All (IsSoundItem boot.cpus) is) (sym before.no_boot.1) (All-nil (IsSoundItem boot.cpus));
  in_turn = before.in_turn;
}

pub with_apps : (natives : List (List ℕ)) (boot : Boot) (app : App) (fills : List Fill) (items : List Item) → IsSoundBoot natives (record boot { apps = boot.apps ++ app ∷ [] }) → IsSoFar natives (Some boot) fills items
    → IsSoFar natives (Some (record boot { apps = boot.apps ++ app ∷ [] })) fills items
with_apps natives boot app fills items sound before = record {
  no_boot = tt;
  is_boot = sound;
  are_fills = before.are_fills;
  are_items = before.are_items;
  in_turn = before.in_turn;
}

-- another key changes no limit
sound_key : (natives : List (List ℕ)) (boot : Boot) (key : List ℕ) → IsSoundBoot natives boot → IsSoundBoot natives (record boot { key = key })
sound_key natives boot key sound =
    let was = sound.boots in
    record {
      boots = record {
        some_processor = was.some_processor;
        few_processors = was.few_processors;
        some_thread = was.some_thread;
        few_threads = was.few_threads;
        some_frame = was.some_frame;
        few_frames = was.few_frames;
        few_apps = was.few_apps;
        valid = was.valid;
        apart = was.apart;
      };
      no_native = sound.no_native;
    }

pub keyed_boot : (natives : List (List ℕ)) (boot : Boot) (key : List ℕ) (fills : List Fill) (items : List Item) → IsSoFar natives (Some boot) fills items → IsSoFar natives (Some (record boot { key = key })) fills items
keyed_boot natives boot key fills items before = record {
  no_boot = tt;
  is_boot = sound_key natives boot key before.is_boot;
  are_fills = before.are_fills;
  are_items = before.are_items;
  in_turn = before.in_turn;
}

pub with_fill : (natives : List (List ℕ)) (boot : Boot) (fills : List Fill) (fill : Fill) (items : List Item) → IsSoundFill fill → IsSoFar natives (Some boot) fills items → IsSoFar natives (Some boot) (fills ++ fill ∷ []) items
with_fill natives boot fills fill items sound before = record {
  no_boot = tt;
  is_boot = before.is_boot;
  are_fills = All-push IsSoundFill fills fill before.are_fills sound;
  are_items = before.are_items;
  in_turn = before.in_turn;
}

turn_push : (inside : List Bool) (items : List Item) (i : Item) → ComeInTurn inside items → can_come (fold moved inside items) i ≡ true → ComeInTurn inside (items ++ i ∷ [])
turn_push inside [] i turn comes = (comes, tt)
turn_push inside (j ∷ items) i turn comes = (turn.0, turn_push (moved inside j) items i turn.1 comes)

pub with_one : (natives : List (List ℕ)) (boot : Boot) (fills : List Fill) (items : List Item) (i : Item) → IsSoundItem boot.cpus i → can_come (inside_after items) i ≡ true → IsSoFar natives (Some boot) fills items
    → IsSoFar natives (Some boot) fills (items ++ i ∷ [])
unfolding inside_after
with_one natives boot fills items i sound comes before = record {
  no_boot = tt;
  is_boot = before.is_boot;
  are_fills = before.are_fills;
  are_items = All-push (IsSoundItem boot.cpus) items i before.are_items sound;
  in_turn = turn_push outside items i before.in_turn comes;
}

-- ---- one lemma for each kind of line, where its rules are kept

-- the line adds to the trace within its limits, where it keeps its rules and no word is empty
abbrev Adds : LineKind → List (List ℕ) → Option Boot → List Fill → List Item → Bool → List (List ℕ) → Type 0
Adds kind natives boot fills items keyed ws =
    let before : Front = record { boot = boot; fills = fills; items = items; keyed = keyed } in
    AreKept (rules_behind kind natives before ws) → length ws ≡ words_behind kind → ((n : ℕ) → n < words_behind kind → 0 < length (word ws n)) → IsSoFar natives boot fills items
    → IsSoFarOf natives (added kind before ws)

after_boot : (natives : List (List ℕ)) (boot : Option Boot) (fills : List Fill) (items : List Item) (keyed : Bool) (ws : List (List ℕ)) → Adds kind.Boot natives boot fills items keyed ws
unfolding rules_behind added
after_boot natives None fills items keyed ws (_, said) count some so_far =
    with_boot natives (boot_of (size_of (word ws 0) (word ws 1) (word ws 2))) fills items (sound_boot natives (decimal (word ws 0)) (decimal (word ws 1)) (decimal (word ws 2)) said.1.1.1) so_far
after_boot natives (Some boot) fills items keyed ws (first, _) count some so_far = absurd cc

after_ta : (natives : List (List ℕ)) (boot : Option Boot) (fills : List Fill) (items : List Item) (keyed : Bool) (ws : List (List ℕ)) → Adds kind.Ta natives boot fills items keyed ws
unfolding rules_behind added
after_ta natives None fills items keyed ws (booted, _) count some so_far = absurd cc
after_ta natives (Some boot) fills items keyed ws (_, (_, (_, (hex, said)))) count some so_far =
    with_apps natives boot (app_of (word ws 0) (word ws 1)) fills items
    (sound_apps natives boot (uuid (word ws 0)) (bytes (word ws 1)) said (valid_image (word ws 1) hex said.1.1.0) so_far.is_boot) so_far

after_mem : (natives : List (List ℕ)) (boot : Option Boot) (fills : List Fill) (items : List Item) (keyed : Bool) (ws : List (List ℕ)) → Adds kind.Mem natives boot fills items keyed ws
unfolding rules_behind added
after_mem natives None fills items keyed ws (booted, _) count some so_far = absurd cc
after_mem natives (Some boot) fills items keyed ws (_, (_, said)) count some so_far =
    with_fill natives boot fills (fill_of (word ws 0) (word ws 1)) items (sound_fill (word ws 0) (word ws 1) (some 1 (omega arith)) said) so_far

after_key : (natives : List (List ℕ)) (boot : Option Boot) (fills : List Fill) (items : List Item) (keyed : Bool) (ws : List (List ℕ)) → Adds kind.Key natives boot fills items keyed ws
unfolding rules_behind added
after_key natives None fills items keyed ws (booted, _) count some so_far = absurd cc
after_key natives (Some boot) fills items keyed ws said count some so_far = keyed_boot natives boot (bytes (word ws 0)) fills items so_far

after_smc : (natives : List (List ℕ)) (boot : Option Boot) (fills : List Fill) (items : List Item) (keyed : Bool) (ws : List (List ℕ)) → Adds kind.Smc natives boot fills items keyed ws
unfolding rules_behind added
after_smc natives None fills items keyed ws (booted, _) count some so_far = absurd cc
after_smc natives (Some boot) fills items keyed ws (_, said) count some so_far =
    let call = sound_call boot.cpus (word ws 0) (word ws 1) (drop 2 ws) (not (is_inside items (decimal (word ws 0)))) (omega (arith, length-drop 2 ws)) said in
    with_one natives boot fills items (item.Smc (decimal (word ws 0)) (decimal (word ws 1)) (map register (drop 2 ws))) call.0 call.1 so_far

after_enter : (natives : List (List ℕ)) (boot : Option Boot) (fills : List Fill) (items : List Item) (keyed : Bool) (ws : List (List ℕ)) → Adds kind.Enter natives boot fills items keyed ws
unfolding rules_behind added
after_enter natives None fills items keyed ws (booted, _) count some so_far = absurd cc
after_enter natives (Some boot) fills items keyed ws (_, said) count some so_far =
    let call = sound_call boot.cpus (word ws 0) (word ws 1) (drop 2 ws) (not (is_inside items (decimal (word ws 0)))) (omega (arith, length-drop 2 ws)) said in
    with_one natives boot fills items (item.Enter (decimal (word ws 0)) (decimal (word ws 1)) (map register (drop 2 ws))) call.0 call.1 so_far

after_leave : (natives : List (List ℕ)) (boot : Option Boot) (fills : List Fill) (items : List Item) (keyed : Bool) (ws : List (List ℕ)) → Adds kind.Leave natives boot fills items keyed ws
unfolding rules_behind added
after_leave natives None fills items keyed ws (booted, _) count some so_far = absurd cc
after_leave natives (Some boot) fills items keyed ws (_, said) count some so_far =
    let left = sound_cpu boot.cpus (word ws 0) (is_inside items (decimal (word ws 0))) said in
    with_one natives boot fills items (item.Leave (decimal (word ws 0))) left.0 left.1 so_far

after_write : (natives : List (List ℕ)) (boot : Option Boot) (fills : List Fill) (items : List Item) (keyed : Bool) (ws : List (List ℕ)) → Adds kind.Write natives boot fills items keyed ws
unfolding rules_behind added
after_write natives None fills items keyed ws (booted, _) count some so_far = absurd cc
after_write natives (Some boot) fills items keyed ws (_, said) count some so_far =
    with_one natives boot fills items (item.Write (decimal (word ws 0)) (hexadecimal (word ws 1)) (bytes (word ws 2))) (sound_write boot.cpus (word ws 0) (word ws 1) (word ws 2) (some 2 (omega arith)) said) refl so_far

after_show : (natives : List (List ℕ)) (boot : Option Boot) (fills : List Fill) (items : List Item) (keyed : Bool) (ws : List (List ℕ)) → Adds kind.Show natives boot fills items keyed ws
unfolding rules_behind added
after_show natives None fills items keyed ws (booted, _) count some so_far = absurd cc
after_show natives (Some boot) fills items keyed ws (_, said) count some so_far =
    with_one natives boot fills items (item.Show (decimal (word ws 0)) (hexadecimal (word ws 1)) (decimal (word ws 2))) (sound_show boot.cpus (word ws 0) (word ws 1) (word ws 2) said) refl so_far

after_any : (kind : LineKind) (natives : List (List ℕ)) (boot : Option Boot) (fills : List Fill) (items : List Item) (keyed : Bool) (ws : List (List ℕ)) → Adds kind natives boot fills items keyed ws
after_any kind.Boot = after_boot
after_any kind.Ta = after_ta
after_any kind.Mem = after_mem
after_any kind.Key = after_key
after_any kind.Smc = after_smc
after_any kind.Enter = after_enter
after_any kind.Leave = after_leave
after_any kind.Write = after_write
after_any kind.Show = after_show

-- ---- whole lines

-- so many words behind the first one, and none of them empty
counted : (behind : ℕ) (words : List (List ℕ)) → counts behind words ≡ true → (length (drop 1 words) ≡ behind) × ((n : ℕ) → n < behind → 0 < length (word (drop 1 words) n))
unfolding counts
counted behind [] e =
    let p = and_parts (eqb 0 (behind + 1)) true e in
    let no_word = eqb-true 0 (behind + 1) p.0 in
    absurd (omega arith)
counted behind (first ∷ words) e =
    let p = and_parts (eqb (length (first ∷ words)) (behind + 1)) (list_all (λ w. ltb 0 (length w)) (first ∷ words)) e in
    let whole = eqb-true (length (first ∷ words)) (behind + 1) p.0 in
    let others = and_parts (ltb 0 (length first)) (list_all (λ w. ltb 0 (length w)) words) p.1 in
    let count : length words ≡ behind = omega arith in
    (count, λ n lt. ltb-true 0 (length (word words n)) (AllPass-from_list_all (λ w. ltb 0 (length w)) words others.1 n [] (omega arith)))

by_kind : (named : Option LineKind) (natives : List (List ℕ)) (before : Front) (words : List (List ℕ)) → first_broken (rules_of_kind named natives before words) ≡ None → IsSoFarOf natives before
    → IsSoFarOf natives (added_by_kind named before words)
unfolding rules_behind
by_kind None natives before words e so_far = absurd cc
by_kind (Some kind) natives before words e so_far =
    let rules = are_kept (rules_of_kind (Some kind) natives before words) e in
    let count = counted (words_behind kind) words rules.0 in
    after_any kind natives before.boot before.fills before.items before.keyed (drop 1 words) rules.1 count.0 count.1 so_far

unless_skipped : (skipped : Bool) (named : Option LineKind) (natives : List (List ℕ)) (before : Front) (words : List (List ℕ)) → first_broken (cond skipped [] (rules_of_kind named natives before words)) ≡ None → IsSoFarOf natives before
    → IsSoFarOf natives (cond skipped before (added_by_kind named before words))
unless_skipped true named natives before words e so_far = so_far
unless_skipped false named natives before words e so_far = by_kind named natives before words e so_far

one_line : (natives : List (List ℕ)) (before : Front) (line : List ℕ) → first_broken (line_rules natives before true line) ≡ None → IsSoFarOf natives before → IsSoFarOf natives (after_line before line)
unfolding line_rules after_line
one_line natives before line e so_far =
    let words = words_of line in
    let named = kind_named (word words 0) in
    let rest = cond (is_skipped line) [] (rules_of_kind named natives before words) in
    let p = one_kept bad.Byte (list_all is_text_byte line) (first_broken rest) e in
    unless_skipped (is_skipped line) named natives before words p.1 so_far

pub all_lines : (natives : List (List ℕ)) (before : Front) (lines : List (List ℕ)) (after : Front) → Leads natives before lines after → IsSoFarOf natives before → IsSoFarOf natives after
all_lines natives before [] after leads so_far = subst (λ (t : Front). IsSoFarOf natives t) leads so_far
all_lines natives before (line ∷ lines) after leads so_far = all_lines natives (after_line before line) lines after leads.1 (one_line natives before line leads.0 so_far)

-- ---- the end

length-moved : (inside : List Bool) (i : Item) → length (moved inside i) ≡ length inside
length-moved inside (item.Smc cpu steps regs) = refl
length-moved inside (item.Enter cpu steps regs) = length-set inside cpu true
length-moved inside (item.Leave cpu) = length-set inside cpu false
length-moved inside (item.Write cpu addr bs) = refl
length-moved inside (item.Show cpu addr len) = refl

length-fold : (inside : List Bool) (items : List Item) → length (fold moved inside items) ≡ length inside
length-fold inside [] = refl
length-fold inside (i ∷ items) = length-fold (moved inside i) items ∙ length-moved inside i

all_outside : (n : ℕ) (inside : List Bool) → length inside ≡ n → list_any (λ i. i) inside ≡ false → inside ≡ replicate n false
all_outside zero [] len none = refl
all_outside zero (i ∷ inside) len none = absurd (omega arith)
all_outside (suc n) [] len none = absurd (omega arith)
all_outside (suc n) (i ∷ inside) len none =
    let p = or_parts i (list_any (λ j. j) inside) none in
    let others = all_outside n inside (omega arith) p.1 in
    cc (p.0, others)

no_one : (anyone : Bool) → cond anyone (Some bad.Unended) None ≡ None → anyone ≡ false
no_one true e = absurd cc
no_one false e = refl

pub at_last : (end : Front) → end_fault end ≡ None → inside_after end.items ≡ outside
unfolding inside_after
at_last end e = all_outside 8 (fold moved outside end.items) (length-fold outside end.items) (no_one (list_any (λ inside. inside) (fold moved outside end.items)) e)

pub IsSound-spelled : (natives : List (List ℕ)) (text : List ℕ) (trace : Trace) → Spells natives text trace → IsSound natives trace
IsSound-spelled natives text trace s =
    let last = all_lines natives no_front s.lines s.end s.spelled (at_first natives) in
    subst (λ (t : Trace). IsSound natives t) s.value_is (record {
      no_boot = last.no_boot;
      boot = last.is_boot;
      fills = last.are_fills;
      items = last.are_items;
      in_turn = last.in_turn;
      ended = at_last s.end s.no_end_fault;
    })
