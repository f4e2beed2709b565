-- The image of a text without a fault is valid.
use Rattle.std.proofs.Common.{◌≡◌, ℕ, suc, ◌+◌, ◌<◌, ◌≤◌, ◌≢◌, Bool, true, false, cond, ◌&&◌, eqb, ltb, leb, List, [], ◌∷◌, ◌++◌, length, take, drop, get_or, All, Option, Some, None, refl, sym, ap, subst, ◌∙◌, ◌⊎◌, inl, inr, arith, length-append}
use Rattle.std.proofs.Math.ListN.{set}
use Rattle.std.proofs.Math.Seq.{drop-append_seam}
use Rattle.std.specs.List.{AllByRecursion, fold, list_any}
use Rattle.std.specs.Option.{is_some, option_map_or}
use Rattle.std.proofs.lemmas.Bool.{eqb-true, ltb-true, leb-true, and_parts, or_cases}
use Rattle.std.proofs.lemmas.List.{get_or-set_same, get_or-set_other, take_all, length-set}
use Rattle.std.proofs.lemmas.List.Elements.{All-from_get_or, All-push, All-nil}
use Rattle.ta_isa.specs.declared.image.Instr.{Instr}
use Rattle.ta_isa.specs.InstructionTable.{is_instruction}
use Rattle.ta_isa.specs.Spelling.{IsValid, are_allowed}
use Rattle.ta_asm.specs.declared.fault.AsmFault.{AsmFault}
use Rattle.ta_asm.specs.declared.fault.AsmFault.TheVariants.{BadLine, UnknownLabel, RepeatedLabel}
use Rattle.ta_asm.specs.declared.labels.Definition.{Definition}
use Rattle.ta_asm.specs.declared.names.EntryPoint.{EntryPoint}
use Rattle.ta_asm.specs.declared.statement.Statement.{Statement}
use Rattle.ta_asm.specs.declared.statement.Statement.TheVariants.{Nothing, Flags, Pages, Entry, Label, Code, Unread}
use Rattle.ta_asm.specs.Grammar.{Program, added, defines, definition, definition_from, end_rules, fault_behind, first_broken, has_header, image_of, instructions, is_first_line, is_instruction_line, is_known, is_target_known, line_rules, no_program, number_of, place_of, program_of, takes_code, targeted}
use Rattle.ta_asm.proofs.Definitions.{at, count_of, count_of-append}
use Rattle.ta_asm.proofs.Programs.{fault-at, fault-end, program-more, program-start}
use Rattle.ta_asm.proofs.Steps.{Step, step}
use Rattle.ta_asm.proofs.WellMade.{IsWellMade}

-- ---- rules that are kept

two_kept : (f g : AsmFault) (a b : Bool) → first_broken ((f, a) ∷ (g, b) ∷ []) ≡ None → (a ≡ true) × (b ≡ true)
two_kept f g true true e = (refl, refl)
two_kept f g true false e = absurd cc
two_kept f g false b e = absurd cc

three_kept : (f g h : AsmFault) (a b c : Bool) → first_broken ((f, a) ∷ (g, b) ∷ (h, c) ∷ []) ≡ None → (a ≡ true) × (b ≡ true) × (c ≡ true)
three_kept f g h true true true e = (refl, refl, refl)
three_kept f g h true true false e = absurd cc
three_kept f g h true false c e = absurd cc
three_kept f g h false b c e = absurd cc

-- ---- the place of a label

abbrev pub total_of : List Statement → ℕ
total_of all = count_of all

-- where a label is defined
record Found (name : List ℕ) (place : ℕ) (xs : List Statement) (d : Definition) : Type 0 where
  pub front : List Statement
  pub label : List ℕ
  pub behind : List Statement
  pub parts : xs ≡ front ++ Label label ∷ behind
  pub place_is : d.place ≡ place + count_of front

same_some : (x y : Definition) → Some x ≡ Some y → x ≡ y
same_some x y e = cc

found_later : (name : List ℕ) (line place : ℕ) (s : Statement) (xs : List Statement) (d : Definition) → Found name (place + instructions s) xs d → Found name place (s ∷ xs) d
found_later name line place s xs d f = record {
  front = s ∷ f.front;
  label = f.label;
  behind = f.behind;
  parts = ap (λ (ys : List Statement). s ∷ ys) f.parts;
  place_is = omega (arith, f.place_is);
}

found_label : (name : List ℕ) (line place : ℕ) (l : List ℕ) (xs : List Statement) (d : Definition) (here : Bool) → cond here (Some (at line place)) (definition_from name (line + 1) (place + 0) xs) ≡ Some d
    → (definition_from name (line + 1) (place + 0) xs ≡ Some d → Found name (place + 0) xs d) → Found name place (Label l ∷ xs) d
found_label name line place l xs d true e later =
    let same : at line place ≡ d = same_some (at line place) d e in
    record { front = []; label = l; behind = xs; parts = refl; place_is = omega (arith, ap (λ (x : Definition). x.place) same) }
found_label name line place l xs d false e later = found_later name line place (Label l) xs d (later e)

found : (name : List ℕ) (line place : ℕ) (xs : List Statement) (d : Definition) → definition_from name line place xs ≡ Some d → Found name place xs d
found name line place [] d e = absurd cc
found name line place (Nothing ∷ xs) d e = found_later name line place Nothing xs d (found name (line + 1) (place + 0) xs d e)
found name line place (Flags n ∷ xs) d e = found_later name line place (Flags n) xs d (found name (line + 1) (place + 0) xs d e)
found name line place (Pages n ∷ xs) d e = found_later name line place (Pages n) xs d (found name (line + 1) (place + 0) xs d e)
found name line place (Entry p l ∷ xs) d e = found_later name line place (Entry p l) xs d (found name (line + 1) (place + 0) xs d e)
found name line place (Code i t ∷ xs) d e = found_later name line place (Code i t) xs d (found name (line + 1) (place + 1) xs d e)
found name line place (Unread ∷ xs) d e = found_later name line place Unread xs d (found name (line + 1) (place + 0) xs d e)
found name line place (Label l ∷ xs) d e = found_label name line place l xs d (defines name (Label l)) e (found name (line + 1) (place + 0) xs d)

one_instruction : (s : Statement) → is_instruction_line s ≡ true → 1 ≤ instructions s
one_instruction Nothing e = absurd cc
one_instruction (Flags n) e = absurd cc
one_instruction (Pages n) e = absurd cc
one_instruction (Entry p l) e = absurd cc
one_instruction (Label l) e = absurd cc
one_instruction (Code i target) e = omega arith
one_instruction Unread e = absurd cc

some_instruction : (xs : List Statement) → list_any is_instruction_line xs ≡ true → 1 ≤ count_of xs
some_instruction [] e = absurd cc
some_instruction (x ∷ xs) e =
    elim (or_cases (is_instruction_line x) (list_any is_instruction_line xs) e) [
      | inl h ↦ omega (arith, one_instruction x h)
      | inr h ↦ omega (arith, some_instruction xs h)
    ]

-- no line has a fault, nor has the end
abbrev Faultless : List Statement → Type 0
Faultless all = (lines : ℕ) → fault_behind all lines ≡ None

label_followed : (all : List Statement) (before : Program) (line : ℕ) (label : List ℕ) → first_broken (line_rules all before line (Label label)) ≡ None → list_any is_instruction_line (drop line all) ≡ true
unfolding line_rules
label_followed all before line label e =
    (three_kept (BadLine line) (BadLine line) (RepeatedLabel line) (has_header before) (list_any is_instruction_line (drop line all)) (is_first_line all label line) e).1

pub place_below : (all : List Statement) (name : List ℕ) (d : Definition) → Faultless all → definition all name ≡ Some d → d.place < total_of all
unfolding definition
place_below all name d clean e =
    let f = found name 1 0 all d e in
    let st : Step all (length f.front) (Label f.label) f.behind =
    step all (Label f.label ∷ f.behind) (length f.front) (Label f.label) f.behind (ap (drop (length f.front)) f.parts ∙ drop-append_seam f.front (Label f.label ∷ f.behind)) refl in
    let kept : first_broken (line_rules all (program_of all (take (length f.front) all)) (length f.front + 1) (Label f.label)) ≡ None =
    sym (fault-at all (length f.front) (Label f.label) f.behind (program_of all (take (length f.front) all)) st refl) ∙ clean (length f.front) in
    let followed : list_any is_instruction_line f.behind ≡ true = ap (list_any is_instruction_line) (sym st.behind) ∙ label_followed all _ (length f.front + 1) f.label kept in
    let some = some_instruction f.behind followed in
    omega (arith, f.place_is, some, ap count_of f.parts, count_of-append f.front (Label f.label ∷ f.behind))

known_below : (all : List Statement) (name : List ℕ) (o : Option Definition) → Faultless all → definition all name ≡ o → is_some o ≡ true → option_map_or (λ d. d.place) o 0 < total_of all
known_below all name None clean e known = absurd cc
known_below all name (Some d) clean e known = place_below all name d clean e

pub place_of_below : (all : List Statement) (name : List ℕ) → Faultless all → is_known all name ≡ true → place_of all name < total_of all
place_of_below all name clean known = known_below all name (definition all name) clean refl known

-- ---- what lines add up to

length_from : (all front : List Statement) (p : Program) → length (fold (added all) p front).code ≡ length p.code + count_of front
length_from all [] p = omega arith
length_from all (Nothing ∷ xs) p = omega (arith, length_from all xs p)
length_from all (Flags n ∷ xs) p = omega (arith, length_from all xs (added all p (Flags n)))
length_from all (Pages n ∷ xs) p = omega (arith, length_from all xs (added all p (Pages n)))
length_from all (Entry point l ∷ xs) p = omega (arith, length_from all xs (added all p (Entry point l)))
length_from all (Label l ∷ xs) p = omega (arith, length_from all xs p)
length_from all (Code i t ∷ xs) p = omega (arith, length_from all xs (added all p (Code i t)), length-append p.code (targeted all i t ∷ []))
length_from all (Unread ∷ xs) p = omega (arith, length_from all xs p)

pub length_of_code : (all : List Statement) → length (program_of all all).code ≡ total_of all
unfolding program_of
length_of_code all = length_from all all no_program ∙ (omega arith)

-- what the lines so far have set is as in a valid image
pub record IsSound (total : ℕ) (p : Program) : Type 0 where
  pub flags : 1 ≤ p.parts → are_allowed p.flags ≡ true
  pub some_page : 2 ≤ p.parts → 1 ≤ p.pages
  pub most_pages : 2 ≤ p.parts → p.pages ≤ 64
  pub five_entries : length p.entries ≡ 5
  pub entries : (k : ℕ) → k + 2 < p.parts → k < 5 → get_or p.entries k 0 < total
  pub most_instructions : length p.code ≤ 8192
  pub code : All (λ i. is_instruction total i ≡ true) p.code

sound_start : (total : ℕ) → IsSound total no_program
sound_start total = record {
  flags = λ h. absurd (omega (arith, h));
  some_page = λ h. absurd (omega (arith, h));
  most_pages = λ h. absurd (omega (arith, h));
  five_entries = refl;
  entries = λ k h lt. absurd (omega (arith, h));
  most_instructions = omega arith;
  code = All-nil (λ i. is_instruction total i ≡ true);
}

flags_sound : (all : List Statement) (p : Program) (line n : ℕ) → IsSound (total_of all) p → first_broken (line_rules all p line (Flags n)) ≡ None → IsSound (total_of all) (added all p (Flags n))
unfolding line_rules
flags_sound all p line n s e =
    let k = two_kept (BadLine line) (BadLine line) (eqb p.parts 0) (are_allowed n) e in
    let none : p.parts ≡ 0 = eqb-true _ _ k.0 in
    record {
      flags = λ h. k.1;
      some_page = λ h. absurd (omega (arith, h, none));
      most_pages = λ h. absurd (omega (arith, h, none));
      five_entries = s.five_entries;
      entries = λ j h lt. absurd (omega (arith, h, none));
      most_instructions = s.most_instructions;
      code = s.code;
    }

pages_sound : (all : List Statement) (p : Program) (line n : ℕ) → IsSound (total_of all) p → first_broken (line_rules all p line (Pages n)) ≡ None → IsSound (total_of all) (added all p (Pages n))
unfolding line_rules
pages_sound all p line n s e =
    let k = two_kept (BadLine line) (BadLine line) (eqb p.parts 1) (leb 1 n && leb n 64) e in
    let one : p.parts ≡ 1 = eqb-true _ _ k.0 in
    let few = and_parts (leb 1 n) (leb n 64) k.1 in
    record {
      flags = λ h. s.flags (omega (arith, one));
      some_page = λ h. leb-true 1 n few.0;
      most_pages = λ h. leb-true n 64 few.1;
      five_entries = s.five_entries;
      entries = λ j h lt. absurd (omega (arith, h, one));
      most_instructions = s.most_instructions;
      code = s.code;
    }

same_or_not : (j k : ℕ) → (j ≡ k) ⊎ (j ≢ k)
same_or_not j k = grind arith

entry_sound : (all : List Statement) (p : Program) (line : ℕ) (point : EntryPoint) (l : List ℕ) → Faultless all → IsSound (total_of all) p → first_broken (line_rules all p line (Entry point l)) ≡ None → IsSound (total_of all) (added all p (Entry point l))
unfolding line_rules
entry_sound all p line point l clean s e =
    let k = two_kept (BadLine line) (UnknownLabel line) (eqb p.parts (number_of point + 2)) (is_known all l) e in
    let here : p.parts ≡ number_of point + 2 = eqb-true _ _ k.0 in
    let below = place_of_below all l clean k.1 in
    record {
      flags = λ h. s.flags (omega (arith, here));
      some_page = λ h. s.some_page (omega (arith, here));
      most_pages = λ h. s.most_pages (omega (arith, here));
      five_entries = length-set p.entries (number_of point) (place_of all l) ∙ s.five_entries;
      entries =
          λ j h lt. elim (same_or_not j (number_of point)) [
            | inl is ↦
                let there : get_or (set p.entries (number_of point) (place_of all l)) (number_of point) 0 ≡ place_of all l = get_or-set_same p.entries (number_of point) (place_of all l) 0 (omega (arith, s.five_entries, lt, is)) in
                omega (arith, below, there, ap (λ (i : ℕ). get_or (set p.entries (number_of point) (place_of all l)) i 0) is)
            | inr apart ↦
                let there : get_or (set p.entries (number_of point) (place_of all l)) j 0 ≡ get_or p.entries j 0 = get_or-set_other p.entries (number_of point) j (place_of all l) 0 apart in
                let old = s.entries j (omega (arith, h, here, apart)) lt in
                omega (arith, there, old)
          ];
      most_instructions = s.most_instructions;
      code = s.code;
    }

targeted_sound : (all : List Statement) (i : Instr) (t : Option (List ℕ)) → Faultless all → IsWellMade (Code i t) → is_target_known all t ≡ true → is_instruction (total_of all) (targeted all i t) ≡ true
targeted_sound all i None clean made known = made (total_of all)
targeted_sound all i (Some l) clean made known = made (total_of all) (place_of all l) (place_of_below all l clean known)

code_sound : (all : List Statement) (p : Program) (line : ℕ) (i : Instr) (t : Option (List ℕ)) → Faultless all → IsWellMade (Code i t) → IsSound (total_of all) p → first_broken (line_rules all p line (Code i t)) ≡ None → IsSound (total_of all) (added all p (Code i t))
unfolding line_rules
code_sound all p line i t clean made s e =
    let k = two_kept (BadLine line) (UnknownLabel line) (takes_code p) (is_target_known all t) e in
    let room = and_parts (eqb p.parts 7) (ltb (length p.code) 8192) k.0 in
    let below = ltb-true (length p.code) 8192 room.1 in
    record {
      flags = s.flags;
      some_page = s.some_page;
      most_pages = s.most_pages;
      five_entries = s.five_entries;
      entries = s.entries;
      most_instructions = omega (arith, below, length-append p.code (targeted all i t ∷ []));
      code = All-push (λ j. is_instruction (total_of all) j ≡ true) p.code (targeted all i t) s.code (targeted_sound all i t clean made k.1);
    }

sound_more : (all : List Statement) (p : Program) (line : ℕ) (s : Statement) → Faultless all → IsWellMade s → IsSound (total_of all) p → first_broken (line_rules all p line s) ≡ None → IsSound (total_of all) (added all p s)
sound_more all p line Nothing clean made s e = s
sound_more all p line (Flags n) clean made s e = flags_sound all p line n s e
sound_more all p line (Pages n) clean made s e = pages_sound all p line n s e
sound_more all p line (Entry point l) clean made s e = entry_sound all p line point l clean s e
sound_more all p line (Label l) clean made s e = s
sound_more all p line (Code i t) clean made s e = code_sound all p line i t clean made s e
sound_more all p line Unread clean made s e = s

-- the lines from here on
sound_from : (all : List Statement) (i : ℕ) (rest : List Statement) → Faultless all → AllByRecursion IsWellMade rest → drop i all ≡ rest → IsSound (total_of all) (program_of all (take i all)) → IsSound (total_of all) (program_of all (take (i + length rest) all))
sound_from all i [] clean made e s = let same : i + 0 ≡ i = omega arith in rw same s
sound_from all i (x ∷ rest) clean made e s =
    let st = step all (x ∷ rest) i x rest e refl in
    let before = program_of all (take i all) in
    let kept = sym (fault-at all i x rest before st refl) ∙ clean i in
    let next : IsSound (total_of all) (program_of all (take (i + 1) all)) =
    subst (IsSound (total_of all)) (program-more all i x rest before (added all before x) st refl refl) (sound_more all before (i + 1) x clean made.0 s kept) in
    let later = sound_from all (i + 1) rest clean made.1 st.behind next in
    let same : i + 1 + length rest ≡ i + suc (length rest) = omega arith in
    subst (λ (n : ℕ). IsSound (total_of all) (program_of all (take n all))) same later

sound_whole : (all : List Statement) → Faultless all → AllByRecursion IsWellMade all → IsSound (total_of all) (program_of all all)
sound_whole all clean made =
    let start : IsSound (total_of all) (program_of all []) = subst (IsSound (total_of all)) (sym (program-start all)) (sound_start (total_of all)) in
    let s = sound_from all 0 all clean made refl start in
    subst (λ (front : List Statement). IsSound (total_of all) (program_of all front)) (take_all (0 + length all) all (omega arith)) s

ended : (p : Program) (line : ℕ) → first_broken (end_rules p line) ≡ None → (p.parts ≡ 7) × (0 < length p.code)
unfolding end_rules
ended p line e =
    let k = two_kept (BadLine line) (BadLine line) (eqb p.parts 7) (ltb 0 (length p.code)) e in
    (eqb-true _ _ k.0, ltb-true _ _ k.1)

pub IsValid-faultless : (all : List Statement) → Faultless all → AllByRecursion IsWellMade all → IsValid (image_of all)
IsValid-faultless all clean made =
    let p = program_of all all in
    let s = sound_whole all clean made in
    let end = ended p (length all + 1) (sym (fault-end all (length all) (omega arith)) ∙ clean (length all)) in
    let len : total_of all ≡ length p.code = sym (length_of_code all) in
    record {
      flags = s.flags (omega (arith, end.0));
      some_page = s.some_page (omega (arith, end.0));
      most_pages = s.most_pages (omega (arith, end.0));
      some_instruction = omega (arith, end.1);
      most_instructions = s.most_instructions;
      five_entries = s.five_entries;
      entries =
          All-from_get_or (λ e. e < length p.code) p.entries 0
          (λ k lt. let below = s.entries k (omega (arith, end.0, lt, s.five_entries)) (omega (arith, lt, s.five_entries)) in omega (arith, below, len));
      code = subst (λ (n : ℕ). All (λ i. is_instruction n i ≡ true) p.code) len s.code;
    }
