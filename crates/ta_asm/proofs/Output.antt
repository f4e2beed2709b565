-- A canonical text, written line by line, and the marks of the instructions that have a label.
use Rattle.std.proofs.Common.{◌≡◌, ◌≢◌, ℕ, suc, ◌+◌, ◌<◌, ◌≤◌, Bool, true, false, cond, ◌&&◌, ◌||◌, eqb, Option, None, Some, List, [], ◌∷◌, ◌++◌, length, take, drop, get_or, add-one, refl, sym, ap, ◌∙◌, ◌⊎◌, inl, inr, arith, append_assoc, eq-eqb}
use Rattle.std.proofs.Math.ListN.{set}
use Rattle.std.proofs.Math.Seq.{drop-cons}
use Rattle.std.specs.Prelude.{codes, decimal}
use Rattle.std.specs.List.{list_any}
use Rattle.std.specs.Option.{option_map_or}
use Rattle.std.proofs.lemmas.Bool.{ne_eqb, eqb-true, ltb-true, and_parts}
use Rattle.std.proofs.lemmas.List.{append-nil, drop_all, get_or-set_same, get_or-set_other, take_more}
use Rattle.std.proofs.lemmas.List.Folds.{list_any-append}
use Rattle.ta_isa.specs.declared.image.Image.{Image}
use Rattle.ta_isa.specs.declared.image.Instr.{Instr}
use Rattle.ta_isa.specs.declared.row.Immediate.{Immediate}
use Rattle.ta_isa.specs.declared.row.Immediate.TheVariants as immediate
use Rattle.ta_isa.specs.declared.row.Row.{Row}
use Rattle.ta_isa.specs.InstructionTable.{follows_row, is_immediate, is_instruction, is_operand, row_of}
use Rattle.ta_asm.specs.Canonical.{canonical, code_lines, entry_words, header_lines, instruction_words, is_labelled, is_target, label_line, label_name, line_of, targets, text_of}
use Rattle.ta_asm.specs.Reading.{label_bytes}

-- ---- lines

text_of-append : (xs ys : List (List (List ℕ))) → text_of (xs ++ ys) ≡ text_of xs ++ text_of ys
text_of-append [] ys = refl
text_of-append (x ∷ xs) ys = ap (λ (t : List ℕ). line_of x ++ t) (text_of-append xs ys) ∙ sym (append_assoc (line_of x) (text_of xs) (text_of ys))

pub canonical_parts : (image : Image) → canonical image ≡ text_of (header_lines image) ++ text_of (code_lines image 0 image.code)
unfolding canonical
canonical_parts image = text_of-append (header_lines image) (code_lines image 0 image.code)

label_by : (image : Image) (place : ℕ) (lines : List (List (List ℕ))) (b : Bool) → text_of (cond b (((label_name place ++ codes ":") ∷ []) ∷ lines) lines) ≡ label_bytes b place ++ text_of lines
label_by image place lines true = ap (λ (t : List ℕ). t ++ text_of lines) (append_assoc (label_name place) (codes ":") (10 ∷ []))
label_by image place lines false = refl

with_label : (image : Image) (place : ℕ) (lines : List (List (List ℕ))) → text_of (label_line image place lines) ≡ label_bytes (is_labelled image place) place ++ text_of lines
unfolding label_line
with_label image place lines = label_by image place lines (is_labelled image place)

pub one_more : (image : Image) (place : ℕ) (instr : Instr) (code : List Instr) (marked : Bool) (out labelled next total : List ℕ) → marked ≡ is_labelled image place → labelled ≡ out ++ label_bytes marked place → next ≡ labelled ++ line_of (instruction_words instr)
    → out ++ text_of (code_lines image place (instr ∷ code)) ≡ total → next ++ text_of (code_lines image (place + 1) code) ≡ total
one_more image place instr code marked out labelled next total is put_label put_line so_far =
    let rest = text_of (code_lines image (place + 1) code) in
    let line = line_of (instruction_words instr) in
    let text : text_of (code_lines image place (instr ∷ code)) ≡ label_bytes marked place ++ (line ++ rest) =
    with_label image place (instruction_words instr ∷ code_lines image (place + 1) code) ∙ ap (λ (b : Bool). label_bytes b place ++ (line ++ rest)) (sym is) in
    let whole : next ≡ (out ++ label_bytes marked place) ++ line = put_line ∙ ap (λ (o : List ℕ). o ++ line) put_label in
    let grouped : ((out ++ label_bytes marked place) ++ line) ++ rest ≡ out ++ (label_bytes marked place ++ (line ++ rest)) = simp append_assoc in
    ap (λ (o : List ℕ). o ++ rest) whole ∙ grouped ∙ sym (ap (λ (t : List ℕ). out ++ t) text) ∙ so_far

-- ---- marks

same_or_not : (j k : ℕ) → (j ≡ k) ⊎ (j ≢ k)
same_or_not j k = grind arith

or_none : (b : Bool) → (b || (false || false)) ≡ b
or_none true = refl
or_none false = refl

or_one : (b : Bool) → (b || (true || false)) ≡ true
or_one true = refl
or_one false = refl

pub set_mark : (marks : List Bool) (e k : ℕ) (before : Bool) → e < length marks → get_or marks k false ≡ before → get_or (set marks e true) k false ≡ (before || (eqb e k || false))
set_mark marks e k before lt is =
    elim (same_or_not k e) [
      | inl same ↦
          ap (λ (i : ℕ). get_or (set marks e true) i false) same ∙ get_or-set_same marks e true false lt
          ∙ sym (ap (λ (b : Bool). before || (b || false)) (eq-eqb e k (sym same)) ∙ or_one before)
      | inr apart ↦
          get_or-set_other marks e k true false apart ∙ is ∙ sym (ap (λ (b : Bool). before || (b || false)) (ne_eqb e k (λ q. apart (sym q))) ∙ or_none before)
    ]

-- the test of the elements so far, with one more
pub any_more : {X : Type 0} (p : X → Bool) (xs : List X) (i : ℕ) (x : X) → i < length xs → get_or xs i x ≡ x → list_any p (take (i + 1) xs) ≡ (list_any p (take i xs) || (p x || false))
any_more p xs i x lt is = ap (list_any p) (take_more xs i x lt ∙ ap (λ y. take i xs ++ y ∷ []) is) ∙ list_any-append p (take i xs) (x ∷ [])

or_past : (a b c : Bool) → ((a || b) || c) ≡ (a || (b || c))
or_past true b c = refl
or_past false b c = refl

pub entry_more : (marks : List Bool) (entries : List ℕ) (i e k : ℕ) (first : Bool) → e < length marks → i < length entries → get_or entries i e ≡ e → get_or marks k false ≡ (first || list_any (λ x. eqb x k) (take i entries))
    → get_or (set marks e true) k false ≡ (first || list_any (λ x. eqb x k) (take (i + 1) entries))
entry_more marks entries i e k first lt within is so_far =
    set_mark marks e k (first || list_any (λ x. eqb x k) (take i entries)) lt so_far ∙ or_past first (list_any (λ x. eqb x k) (take i entries)) (eqb e k || false)
    ∙ ap (λ (b : Bool). first || b) (sym (any_more (λ x. eqb x k) entries i e within is))

or_last : (a b : Bool) → (a || b) ≡ (a || (b || false))
or_last true b = refl
or_last false true = refl
or_last false false = refl

pub target_more : (code : List Instr) (i k : ℕ) (instr : Instr) (first old new : Bool) → i < length code → get_or code i instr ≡ instr → old ≡ (first || list_any (targets k) (take i code)) → new ≡ (old || targets k instr)
    → new ≡ (first || list_any (targets k) (take (i + 1) code))
target_more code i k instr first old new within is so_far e =
    e ∙ or_last old (targets k instr) ∙ ap (λ (b : Bool). b || (targets k instr || false)) so_far ∙ or_past first (list_any (targets k) (take i code)) (targets k instr || false)
    ∙ ap (λ (b : Bool). first || b) (sym (any_more (targets k) code i instr within is))

immediate_within : (m : Immediate) (imm place count : ℕ) → is_immediate m imm count ≡ true → is_target m imm place ≡ true → place < count
immediate_within immediate.Unused imm place count good is = absurd cc
immediate_within immediate.Number imm place count good is = absurd cc
immediate_within immediate.Target imm place count good is =
    let same : imm ≡ place = eqb-true imm place is in
    let below : imm < count = ltb-true imm count good in
    omega arith
immediate_within immediate.SystemCall imm place count good is = absurd cc

row_within : (o : Option Row) (count place : ℕ) (instr : Instr) → option_map_or (follows_row count instr) o false ≡ true → option_map_or (λ row. is_target row.imm instr.imm place) o false ≡ true → place < count
row_within None count place instr good is = absurd cc
row_within (Some row) count place instr good is =
    immediate_within row.imm instr.imm place count (and_parts (is_operand row.d instr.d && is_operand row.a instr.a && is_operand row.b instr.b) (is_immediate row.imm instr.imm count) good).1 is

-- the target of an instruction is a place in the code
pub target_within : (count place : ℕ) (instr : Instr) → is_instruction count instr ≡ true → targets place instr ≡ true → place < count
unfolding is_instruction targets
target_within count place instr good is = row_within (row_of instr.op) count place instr good is

-- the marks of entry points, and of targets behind them
pub two_marks : (image : Image) (place : ℕ) (first next last : Bool) → first ≡ false → next ≡ (first || list_any (λ e. eqb e place) image.entries) → last ≡ (next || list_any (targets place) image.code) → last ≡ is_labelled image place
unfolding is_labelled
two_marks image place first next last none entries code =
    code ∙ ap (λ (b : Bool). b || list_any (targets place) image.code) (entries ∙ ap (λ (b : Bool). b || list_any (λ e. eqb e place) image.entries) none)

-- ---- the header

two_lines : (words : List (List ℕ)) (lines : List (List (List ℕ))) (line rest : List ℕ) → line_of words ≡ line → text_of lines ≡ rest → text_of (words ∷ lines) ≡ line ++ rest
two_lines words lines line rest e f = ap (λ (t : List ℕ). t ++ text_of lines) e ∙ ap (λ (t : List ℕ). line ++ t) f

-- bytes and a number behind them, as a line
abbrev pub line_with : List ℕ → ℕ → List ℕ
line_with before number = (before ++ decimal number) ++ codes "\n"

pub header_text : (image : Image) → text_of (header_lines image) ≡ line_with (codes ".flags ") image.flags
    ++ (line_with (codes ".pages ") image.pages
    ++ (line_with (codes ".entry create L") (get_or image.entries 0 0)
    ++ (line_with (codes ".entry open L") (get_or image.entries 1 0)
    ++ (line_with (codes ".entry invoke L") (get_or image.entries 2 0)
    ++ (line_with (codes ".entry close L") (get_or image.entries 3 0)
    ++ (line_with (codes ".entry destroy L") (get_or image.entries 4 0) ++ []))))))
header_text image =
    let words6 : List (List ℕ) = entry_words image (codes "destroy") 4 in
    let words5 : List (List ℕ) = entry_words image (codes "close") 3 in
    let lines6 : List (List (List ℕ)) = words6 ∷ [] in
    let words4 : List (List ℕ) = entry_words image (codes "invoke") 2 in
    let lines5 : List (List (List ℕ)) = words5 ∷ lines6 in
    let words3 : List (List ℕ) = entry_words image (codes "open") 1 in
    let lines4 : List (List (List ℕ)) = words4 ∷ lines5 in
    let words2 : List (List ℕ) = entry_words image (codes "create") 0 in
    let lines3 : List (List (List ℕ)) = words3 ∷ lines4 in
    let words1 : List (List ℕ) = codes ".pages" ∷ decimal image.pages ∷ [] in
    let lines2 : List (List (List ℕ)) = words2 ∷ lines3 in
    let words0 : List (List ℕ) = codes ".flags" ∷ decimal image.flags ∷ [] in
    let lines1 : List (List (List ℕ)) = words1 ∷ lines2 in
    two_lines words0 lines1 (line_with (codes ".flags ") image.flags) _ (ap (λ (t : List ℕ). codes ".flags " ++ (t ++ 10 ∷ [])) (append-nil (decimal image.flags)))
    (two_lines words1 lines2 (line_with (codes ".pages ") image.pages) _ (ap (λ (t : List ℕ). codes ".pages " ++ (t ++ 10 ∷ [])) (append-nil (decimal image.pages)))
    (two_lines words2 lines3 (line_with (codes ".entry create L") (get_or image.entries 0 0)) _ (ap (λ (t : List ℕ). codes ".entry create L" ++ (t ++ 10 ∷ [])) (append-nil (decimal (get_or image.entries 0 0))))
    (two_lines words3 lines4 (line_with (codes ".entry open L") (get_or image.entries 1 0)) _ (ap (λ (t : List ℕ). codes ".entry open L" ++ (t ++ 10 ∷ [])) (append-nil (decimal (get_or image.entries 1 0))))
    (two_lines words4 lines5 (line_with (codes ".entry invoke L") (get_or image.entries 2 0)) _ (ap (λ (t : List ℕ). codes ".entry invoke L" ++ (t ++ 10 ∷ [])) (append-nil (decimal (get_or image.entries 2 0))))
    (two_lines words5 lines6 (line_with (codes ".entry close L") (get_or image.entries 3 0)) _ (ap (λ (t : List ℕ). codes ".entry close L" ++ (t ++ 10 ∷ [])) (append-nil (decimal (get_or image.entries 3 0))))
    (two_lines words6 [] (line_with (codes ".entry destroy L") (get_or image.entries 4 0)) [] (ap (λ (t : List ℕ). codes ".entry destroy L" ++ (t ++ 10 ∷ [])) (append-nil (decimal (get_or image.entries 4 0)))) refl))))))

-- the lines of entry points from this one on, each of the bytes of an element and the number of its entry point
abbrev pub entry_lines : {B : Type 0} → (B → List ℕ) → List B → ℕ → List ℕ → List ℕ
entry_lines bytes [] number entries = []
entry_lines bytes (before ∷ rest) number entries = line_with (bytes before) (get_or entries number 0) ++ entry_lines bytes rest (number + 1) entries

pub entry_line_more : {B : Type 0} (bytes : B → List ℕ) (befores : List B) (number : ℕ) (before : B) (entries out next total : List ℕ)
    → number < length befores → next ≡ out ++ line_with (bytes (get_or befores number before)) (get_or entries number 0)
    → out ++ entry_lines bytes (drop number befores) number entries ≡ total → next ++ entry_lines bytes (drop (number + 1) befores) (number + 1) entries ≡ total
entry_line_more {B} bytes befores number before entries out next total below written so_far =
    let line = line_with (bytes (get_or befores number before)) (get_or entries number 0) in
    let rest = entry_lines bytes (drop (suc number) befores) (number + 1) entries in
    ap (λ (k : ℕ). next ++ entry_lines bytes (drop k befores) (number + 1) entries) (add-one number)
    ∙ ap (λ (o : List ℕ). o ++ rest) written
    ∙ append_assoc out line rest
    ∙ ap (λ (left : List B). out ++ entry_lines bytes left number entries) (sym (drop-cons befores number before below))
    ∙ so_far

-- two lines, and those of the entry points
pub header_is : {B : Type 0} (bytes : B → List ℕ) (befores : List B) (old first second out : List ℕ) (image : Image) (number : ℕ)
    → text_of (header_lines image) ≡ line_with (codes ".flags ") image.flags ++ (line_with (codes ".pages ") image.pages ++ entry_lines bytes befores 0 image.entries)
    → first ≡ old ++ line_with (codes ".flags ") image.flags → second ≡ first ++ line_with (codes ".pages ") image.pages → length befores ≤ number
    → out ++ entry_lines bytes (drop number befores) number image.entries ≡ second ++ entry_lines bytes befores 0 image.entries → out ≡ old ++ text_of (header_lines image)
header_is {B} bytes befores old first second out image number header is_first is_second all so_far =
    let flags = line_with (codes ".flags ") image.flags in
    let pages = line_with (codes ".pages ") image.pages in
    let entries = entry_lines bytes befores 0 image.entries in
    sym (append-nil out)
    ∙ ap (λ (left : List B). out ++ entry_lines bytes left number image.entries) (sym (drop_all number befores all))
    ∙ so_far
    ∙ ap (λ (o : List ℕ). o ++ entries) (is_second ∙ ap (λ (o : List ℕ). o ++ pages) is_first)
    ∙ append_assoc (old ++ flags) pages entries
    ∙ append_assoc old flags (pages ++ entries)
    ∙ ap (λ (t : List ℕ). old ++ t) (sym header)
