-- What the canonical text of an image says, line by line, has no fault, and adds up to the image.
use Rattle.std.proofs.Common.{◌≡◌, ◌≢◌, ℕ, ◌+◌, ◌<◌, ◌≤◌, ◌^◌, Bool, true, false, cond, ◌&&◌, eqb, List, [], ◌∷◌, ◌++◌, length, take, drop, get_or, Option, Some, None, refl, sym, ap, subst, ◌∙◌, ◌⊎◌, inl, inr, arith, add-zero, eq-eqb}
use Rattle.std.proofs.Math.ListN.{set}
use Rattle.std.specs.Bool.{Decides}
use Rattle.std.specs.List.{fold, list_any}
use Rattle.std.specs.Option.{is_some, option_map_or, option_or}
use Rattle.std.specs.Str.{bytes_eq}
use Rattle.std.proofs.lemmas.Bool.{lt-ltb, le-leb, ltb-true, and_from, and_parts, or_left, or_right}
use Rattle.std.proofs.lemmas.Fmt.{decimal_injective}
use Rattle.std.proofs.lemmas.List.{take_all, length-take-le}
use Rattle.std.proofs.lemmas.List.Elements.{All-get_or}
use Rattle.std.proofs.lemmas.List.Folds.{list_any_at}
use Rattle.std.proofs.lemmas.Option.{get_or_from_slice_get}
use Rattle.std.proofs.lemmas.Slice.Eq.{bytes_eq-Decides}
use Rattle.ta_isa.specs.declared.image.Image.{Image}
use Rattle.ta_isa.specs.declared.image.Instr.{Instr}
use Rattle.ta_isa.specs.declared.row.Immediate.{Immediate}
use Rattle.ta_isa.specs.declared.row.Immediate.TheVariants as immediate
use Rattle.ta_isa.specs.declared.row.Row.{Row}
use Rattle.ta_isa.specs.InstructionTable.{follows_row, is_immediate, is_instruction, is_operand, row_of}
use Rattle.ta_isa.specs.Spelling.{IsValid, are_allowed}
use Rattle.ta_asm.specs.declared.fault.AsmFault.{AsmFault}
use Rattle.ta_asm.specs.declared.fault.AsmFault.TheVariants.{BadLine, UnknownLabel, RepeatedLabel}
use Rattle.ta_asm.specs.declared.labels.Definition.{Definition}
use Rattle.ta_asm.specs.declared.names.EntryPoint.{EntryPoint}
use Rattle.ta_asm.specs.declared.names.EntryPoint.TheVariants.{Create, Open, Invoke, Close, Destroy}
use Rattle.ta_asm.specs.declared.statement.Statement.{Statement}
use Rattle.ta_asm.specs.declared.statement.Statement.TheVariants.{Flags, Pages, Entry, Label, Code}
use Rattle.ta_asm.specs.Canonical.{is_labelled, is_target, label_name, targets}
use Rattle.ta_asm.specs.Grammar.{Program, StandsFor, added, defines, definition, definition_from, end_rules, first_broken, has_header, image_from, instructions, is_first_line, is_instruction_line, is_known, is_target_known, line_rules, no_program, number_of, place_of, program_of, takes_code, targeted}
use Rattle.ta_asm.specs.Lines.{statements_of}
use Rattle.ta_asm.proofs.Definitions.{at}
use Rattle.ta_asm.proofs.Meanings.{fault_from, stands-read}
use Rattle.ta_asm.proofs.Steps.{at_end, step}

-- ---- statements

-- the label of the target, if the operation has one
abbrev pub target_by : Immediate → ℕ → Option (List ℕ)
target_by immediate.Unused imm = None
target_by immediate.Number imm = None
target_by immediate.Target imm = Some (label_name imm)
target_by immediate.SystemCall imm = None

-- the field imm as a line gives it
abbrev pub number_by : Immediate → ℕ → ℕ
number_by immediate.Unused imm = imm
number_by immediate.Number imm = imm
number_by immediate.Target imm = 0
number_by immediate.SystemCall imm = imm

abbrev pub told_by : Option Row → Instr → Statement
told_by None instr = Code instr None
told_by (Some row) instr = Code (record instr { imm = number_by row.imm instr.imm }) (target_by row.imm instr.imm)

unfoldable pub told : Instr → Statement
told instr = told_by (row_of instr.op) instr

abbrev pub label_told : Image → ℕ → List Statement → List Statement
label_told image place rest = cond (is_labelled image place) (Label (label_name place) ∷ rest) rest

abbrev pub body : Image → ℕ → List Instr → List Statement
body image place [] = []
body image place (instr ∷ code) = label_told image place (told instr ∷ body image (place + 1) code)

abbrev pub whole : Image → List Statement
whole image =
    Flags image.flags
    ∷ Pages image.pages
    ∷ Entry Create (label_name (get_or image.entries 0 0))
    ∷ Entry Open (label_name (get_or image.entries 1 0))
    ∷ Entry Invoke (label_name (get_or image.entries 2 0))
    ∷ Entry Close (label_name (get_or image.entries 3 0))
    ∷ Entry Destroy (label_name (get_or image.entries 4 0))
    ∷ body image 0 image.code

-- ---- names

told_true : (b : Bool) (P : Type 0) → Decides b P → P → b ≡ true
told_true b P d p = d.1 p

told_false : (b : Bool) (P : Type 0) → Decides b P → (P → ⊥) → b ≡ false
told_false true P d n = absurd (n (d.0 refl))
told_false false P d n = refl

same_bytes : (xs : List ℕ) → bytes_eq xs xs ≡ true
same_bytes xs = told_true (bytes_eq xs xs) (xs ≡ xs) (bytes_eq-Decides xs xs) refl

same_number : (m n : ℕ) → m < 2 ^ 64 → n < 2 ^ 64 → label_name m ≡ label_name n → m ≡ n
same_number m n a b e = decimal_injective m n a b (ap (drop 1) e)

names_apart : (m n : ℕ) → m < 2 ^ 64 → n < 2 ^ 64 → m ≢ n → bytes_eq (label_name m) (label_name n) ≡ false
names_apart m n a b apart = told_false (bytes_eq (label_name m) (label_name n)) (label_name m ≡ label_name n) (bytes_eq-Decides (label_name m) (label_name n)) (λ e. apart (same_number m n a b e))

no_label_by : (name : List ℕ) (o : Option Row) (instr : Instr) → defines name (told_by o instr) ≡ false
no_label_by name None instr = refl
no_label_by name (Some row) instr = refl

one_by : (o : Option Row) (instr : Instr) → instructions (told_by o instr) ≡ 1
one_by None instr = refl
one_by (Some row) instr = refl

-- what stands behind an instruction
past_code : (name : List ℕ) (line place : ℕ) (instr : Instr) (rest : List Statement) → definition_from name line place (told instr ∷ rest) ≡ definition_from name (line + 1) (place + 1) rest
unfolding told
past_code name line place instr rest =
    rw (no_label_by name (row_of instr.op) instr, one_by (row_of instr.op) instr) refl

-- ---- where labels are defined

-- behind the lines of an instruction whose label is another
past_instruction : (image : Image) (name : List ℕ) (line place : ℕ) (instr : Instr) (rest : List Statement) → bytes_eq (label_name place) name ≡ false
    → definition_from name line place (label_told image place (told instr ∷ rest)) ≡ definition_from name (line + cond (is_labelled image place) 2 1) (place + 1) rest
past_instruction image name line place instr rest apart =
    elim (is_labelled image place) as (λ t. definition_from name line place (cond t (Label (label_name place) ∷ told instr ∷ rest) (told instr ∷ rest)) ≡ definition_from name (line + cond t 2 1) (place + 1) rest) [
      | true ↦ rw apart (let e : line + 1 + 1 ≡ line + 2 = omega arith in rw add-zero (past_code name (line + 1) place instr rest ∙ ap (λ (l : ℕ). definition_from name l (place + 1) rest) e))
      | false ↦ past_code name line place instr rest
    ]

record Defined (name : List ℕ) (line place : ℕ) (rest : List Statement) (t : ℕ) : Type 0 where
  pub d : Definition
  pub is : definition_from name line place rest ≡ Some d
  pub place_is : d.place ≡ t

defined_here : (image : Image) (line place : ℕ) (rest : List Statement) → is_labelled image place ≡ true → definition_from (label_name place) line place (label_told image place rest) ≡ Some (at line place)
defined_here image line place rest good = rw (good, same_bytes (label_name place)) refl

here_or_later : (place t : ℕ) → place ≤ t → (place ≡ t) ⊎ (place < t)
here_or_later place t low = grind arith

defined_in : (image : Image) (line place : ℕ) (code : List Instr) (t : ℕ) → place + length code < 2 ^ 64 → place ≤ t → t < place + length code → is_labelled image t ≡ true → Defined (label_name t) line place (body image place code) t
defined_in image line place [] t small low high good = absurd (omega (arith, low, high))
defined_in image line place (instr ∷ code) t small low high good =
    elim (here_or_later place t low) [
      | inl e ↦ record {
        d = at line place;
        is = ap (λ (k : ℕ). definition_from (label_name k) line place (body image place (instr ∷ code))) (sym e) ∙ defined_here image line place (told instr ∷ body image (place + 1) code) (ap (is_labelled image) e ∙ good);
        place_is = e;
      }
      | inr lt ↦
          let later = defined_in image (line + cond (is_labelled image place) 2 1) (place + 1) code t (omega (arith, small)) (omega (arith, lt)) (omega (arith, high)) good in
          record {
            d = later.d;
            is = past_instruction image (label_name t) line place instr (body image (place + 1) code) (names_apart place t (omega (arith, small)) (omega (arith, small, high)) (λ e. absurd (omega (arith, lt, e)))) ∙ later.is;
            place_is = later.place_is;
          }
    ]

from_header : (image : Image) (name : List ℕ) → definition (whole image) name ≡ definition_from name 8 0 (body image 0 image.code)
unfolding definition
from_header image name = refl

-- each label of the image is known, at its place
pub placed : (image : Image) (t : ℕ) → length image.code < 2 ^ 64 → t < length image.code → is_labelled image t ≡ true → (is_known (whole image) (label_name t) ≡ true) × (place_of (whole image) (label_name t) ≡ t)
placed image t small lt good =
    let d = defined_in image 8 0 image.code t (omega (arith, small)) (omega arith) (omega (arith, lt)) good in
    let e : definition (whole image) (label_name t) ≡ Some d.d = from_header image (label_name t) ∙ d.is in
    (ap is_some e, ap (λ (o : Option Definition). option_map_or (λ x. x.place) o 0) e ∙ d.place_is)

-- ---- targets

target_labelled : (image : Image) (i : ℕ) (instr : Instr) (rest : List Instr) (row : Row) → drop i image.code ≡ instr ∷ rest → row_of instr.op ≡ Some row → row.imm ≡ immediate.Target → is_labelled image instr.imm ≡ true
unfolding is_labelled targets
target_labelled image i instr rest row left has is =
    let st = step image.code (instr ∷ rest) i instr rest left refl in
    let here : get_or image.code i instr ≡ instr = get_or_from_slice_get image.code i instr instr st.here in
    let one : option_map_or (λ r. is_target r.imm instr.imm instr.imm) (row_of instr.op) false ≡ true =
    ap (λ (o : Option Row). option_map_or (λ r. is_target r.imm instr.imm instr.imm) o false) has ∙ ap (λ (m : Immediate). is_target m instr.imm instr.imm) is ∙ eq-eqb instr.imm instr.imm refl in
    or_right _ _ (list_any_at (targets instr.imm) image.code i instr st.within (ap (targets instr.imm) here ∙ one))

-- ---- the lines of instructions keep their rules, and add up

kept_two : (f g : AsmFault) (a b : Bool) → a ≡ true → b ≡ true → first_broken ((f, a) ∷ (g, b) ∷ []) ≡ None
kept_two f g a b p q = rw (p, q) refl

kept_three : (f g h : AsmFault) (a b c : Bool) → a ≡ true → b ≡ true → c ≡ true → first_broken ((f, a) ∷ (g, b) ∷ (h, c) ∷ []) ≡ None
kept_three f g h a b c p q r = rw (p, q, r) refl

-- an instruction gets its target back
target_back : (all : List Statement) (instr : Instr) (m : Immediate) → (m ≡ immediate.Target → (is_known all (label_name instr.imm) ≡ true) × (place_of all (label_name instr.imm) ≡ instr.imm))
    → (is_target_known all (target_by m instr.imm) ≡ true) × (targeted all (record instr { imm = number_by m instr.imm }) (target_by m instr.imm) ≡ instr)
target_back all instr immediate.Unused h = (refl, refl)
target_back all instr immediate.Number h = (refl, refl)
target_back all instr immediate.Target h = ((h refl).0, ap (λ (n : ℕ). record instr { imm = n }) (h refl).1)
target_back all instr immediate.SystemCall h = (refl, refl)

known_code : (all : List Statement) (instr : Instr) (o : Option Row) → ((row : Row) → o ≡ Some row → (is_target_known all (target_by row.imm instr.imm) ≡ true) × (targeted all (record instr { imm = number_by row.imm instr.imm }) (target_by row.imm instr.imm) ≡ instr))
    → (rest : List Statement) (before : Program) (line : ℕ) → takes_code before ≡ true
    → (list_any is_instruction_line (told_by o instr ∷ rest) ≡ true) × (first_broken (line_rules all before line (told_by o instr)) ≡ None) × (added all before (told_by o instr) ≡ record before { code = before.code ++ instr ∷ [] })
unfolding line_rules
known_code all instr None h rest before line room = (refl, kept_two (BadLine line) (UnknownLabel line) _ _ room refl, refl)
known_code all instr (Some row) h rest before line room =
    let k = h row refl in (
      refl,
      kept_two (BadLine line) (UnknownLabel line) _ _ room k.0,
      ap (λ (i : Instr). record before { code = before.code ++ i ∷ [] }) k.1,
    )

-- the program of a header and some code
abbrev Held : Image → List Instr → Program
Held image code = record { parts = 7; flags = image.flags; pages = image.pages; entries = image.entries; code = code }

room_for : (image : Image) (code : List Instr) → length code < 8192 → takes_code (Held image code) ≡ true
room_for image code lt = and_from _ _ refl (lt-ltb (length code) 8192 lt)

-- what is known of a place that is gone on from
record Place (image : Image) (place : ℕ) (code : List Instr) (line : ℕ) : Type 0 where
  pub left : drop place image.code ≡ code
  pub lines : drop line (whole image) ≡ body image place code
  pub later : (t : ℕ) → place ≤ t → t < length image.code → definition (whole image) (label_name t) ≡ definition_from (label_name t) (line + 1) place (body image place code)

shape_yes : (image : Image) (place : ℕ) (instr : Instr) (code : List Instr) → is_labelled image place ≡ true → body image place (instr ∷ code) ≡ Label (label_name place) ∷ told instr ∷ body image (place + 1) code
shape_yes image place instr code e = ap (λ (b : Bool). cond b (Label (label_name place) ∷ told instr ∷ body image (place + 1) code) (told instr ∷ body image (place + 1) code)) e

shape_no : (image : Image) (place : ℕ) (instr : Instr) (code : List Instr) → is_labelled image place ≡ false → body image place (instr ∷ code) ≡ told instr ∷ body image (place + 1) code
shape_no image place instr code e = ap (λ (b : Bool). cond b (Label (label_name place) ∷ told instr ∷ body image (place + 1) code) (told instr ∷ body image (place + 1) code)) e

-- one line after another without a fault, and what they add up to
abbrev pub Goes : List Statement → Program → ℕ → List Statement → Program → Type 0
Goes all before line rest after = (fault_from all before line rest ≡ None) × (fold (added all) before rest ≡ after)

goes_on : (all : List Statement) (before next : Program) (line : ℕ) (s : Statement) (rest : List Statement) (after : Program) → first_broken (line_rules all before line s) ≡ None → added all before s ≡ next → Goes all next (line + 1) rest after
    → Goes all before line (s ∷ rest) after
goes_on all before next line s rest after kept e g =
    let moved = subst (λ (p : Program). Goes all p (line + 1) rest after) (sym e) g in
    (ap (λ (o : Option AsmFault). option_or o (fault_from all (added all before s) (line + 1) rest)) kept ∙ moved.0, moved.1)

pub label_kept : (all : List Statement) (before : Program) (line : ℕ) (name : List ℕ) (behind : List Statement) (place : ℕ) → has_header before ≡ true → drop line all ≡ behind → list_any is_instruction_line behind ≡ true → definition all name ≡ Some (at line place)
    → first_broken (line_rules all before line (Label name)) ≡ None
unfolding line_rules
label_kept all before line name behind place complete left followed is =
    let first : is_first_line all name line ≡ true = ap (λ (o : Option Definition). option_map_or (λ d. eqb d.line line) o false) is ∙ eq-eqb line line refl in
    kept_three (BadLine line) (BadLine line) (RepeatedLabel line) _ _ _ complete (ap (list_any is_instruction_line) left ∙ followed) first

code_end : (image : Image) (place : ℕ) → drop place image.code ≡ [] → take place image.code ≡ image.code
code_end image place e = take_all place image.code (at_end image.code [] place e refl)

end_kept : (image : Image) (line : ℕ) → 0 < length image.code → first_broken (end_rules (Held image image.code) line) ≡ None
unfolding end_rules
end_kept image line some = kept_two (BadLine line) (BadLine line) _ _ refl (lt-ltb 0 (length image.code) some)

-- what holds of the targets of an image
abbrev pub TargetsInside : Image → Type 0
TargetsInside image = (i : ℕ) (instr : Instr) (rest : List Instr) (row : Row) → drop i image.code ≡ instr ∷ rest → row_of instr.op ≡ Some row → row.imm ≡ immediate.Target → instr.imm < length image.code

step_known : (image : Image) (place : ℕ) (instr : Instr) (code : List Instr) → TargetsInside image → length image.code < 2 ^ 64 → drop place image.code ≡ instr ∷ code → (row : Row) → row_of instr.op ≡ Some row
    → (is_target_known (whole image) (target_by row.imm instr.imm) ≡ true) × (targeted (whole image) (record instr { imm = number_by row.imm instr.imm }) (target_by row.imm instr.imm) ≡ instr)
step_known image place instr code inside small left row has =
    target_back (whole image) instr row.imm (λ is. placed image instr.imm small (inside place instr code row left has is) (target_labelled image place instr code row left has is))

told_code : (image : Image) (place : ℕ) (instr : Instr) (code : List Instr) → TargetsInside image → length image.code ≤ 8192 → drop place image.code ≡ instr ∷ code → (rest : List Statement) (before : Program) (line : ℕ) → takes_code before ≡ true
    → (list_any is_instruction_line (told instr ∷ rest) ≡ true) × (first_broken (line_rules (whole image) before line (told instr)) ≡ None) × (added (whole image) before (told instr) ≡ record before { code = before.code ++ instr ∷ [] })
unfolding told
told_code image place instr code inside few left rest before line room =
    known_code (whole image) instr (row_of instr.op) (step_known image place instr code inside (omega (arith, few)) left) rest before line room

reads_by : (image : Image) (place : ℕ) (instr : Instr) (code : List Instr) (line : ℕ) → TargetsInside image → length image.code ≤ 8192 → 0 < length image.code → Place image place (instr ∷ code) line
    → (b : Bool) → is_labelled image place ≡ b → ((next : ℕ) → Place image (place + 1) code next → Goes (whole image) (Held image (take (place + 1) image.code)) (next + 1) (body image (place + 1) code) (Held image image.code))
    → Goes (whole image) (Held image (take place image.code)) (line + 1) (body image place (instr ∷ code)) (Held image image.code)
reads_by image place instr code line inside few some p true good later =
    let all = whole image in
    let rest = body image (place + 1) code in
    let before = Held image (take place image.code) in
    let shape = shape_yes image place instr code good in
    let st = step image.code (instr ∷ code) place instr code p.left refl in
    let lines = step all (body image place (instr ∷ code)) line (Label (label_name place)) (told instr ∷ rest) p.lines shape in
    let lines2 = step all (told instr ∷ rest) (line + 1) (told instr) rest lines.behind refl in
    let room : takes_code before ≡ true = room_for image (take place image.code) (omega (arith, few, st.within, length-take-le place image.code (omega (arith, st.within)))) in
    let code_line : (list_any is_instruction_line (told instr ∷ rest) ≡ true) × (first_broken (line_rules all before (line + 1 + 1) (told instr)) ≡ None) × (added all before (told instr) ≡ record before { code = before.code ++ instr ∷ [] }) =
    told_code image place instr code inside few p.left rest before (line + 1 + 1) room in
    let here : definition all (label_name place) ≡ Some (at (line + 1) place) = p.later place (omega arith) st.within ∙ defined_here image (line + 1) place (told instr ∷ rest) good in
    let label_line = label_kept all before (line + 1) (label_name place) (told instr ∷ rest) place refl lines.behind code_line.0 here in
    let next : added all before (told instr) ≡ Held image (take (place + 1) image.code) = code_line.2 ∙ ap (Held image) (sym st.front) in
    let two : line + 1 + 1 ≡ line + 2 = omega arith in
    let q : Place image (place + 1) code (line + 1 + 1) = record {
      left = st.behind;
      lines = lines2.behind;
      later = λ t low lt.
          p.later t (omega (arith, low)) lt ∙ past_instruction image (label_name t) (line + 1) place instr rest (names_apart place t (omega (arith, few, lt, low)) (omega (arith, few, lt)) (λ e. absurd (omega (arith, e, low))))
          ∙ ap (λ (b : Bool). definition_from (label_name t) (line + 1 + cond b 2 1) (place + 1) rest) good ∙ ap (λ (l : ℕ). definition_from (label_name t) l (place + 1) rest) (omega arith);
    } in
    rw shape (goes_on all before before (line + 1) (Label (label_name place)) (told instr ∷ rest) (Held image image.code) label_line refl
    (goes_on all before (Held image (take (place + 1) image.code)) (line + 1 + 1) (told instr) rest (Held image image.code) code_line.1 next (later (line + 1 + 1) q)))
reads_by image place instr code line inside few some p false none later =
    let all = whole image in
    let rest = body image (place + 1) code in
    let before = Held image (take place image.code) in
    let shape = shape_no image place instr code none in
    let st = step image.code (instr ∷ code) place instr code p.left refl in
    let lines = step all (body image place (instr ∷ code)) line (told instr) rest p.lines shape in
    let room : takes_code before ≡ true = room_for image (take place image.code) (omega (arith, few, st.within, length-take-le place image.code (omega (arith, st.within)))) in
    let code_line : (list_any is_instruction_line (told instr ∷ rest) ≡ true) × (first_broken (line_rules all before (line + 1) (told instr)) ≡ None) × (added all before (told instr) ≡ record before { code = before.code ++ instr ∷ [] }) =
    told_code image place instr code inside few p.left rest before (line + 1) room in
    let next : added all before (told instr) ≡ Held image (take (place + 1) image.code) = code_line.2 ∙ ap (Held image) (sym st.front) in
    let q : Place image (place + 1) code (line + 1) = record {
      left = st.behind;
      lines = lines.behind;
      later = λ t low lt.
          p.later t (omega (arith, low)) lt ∙ past_instruction image (label_name t) (line + 1) place instr rest (names_apart place t (omega (arith, few, lt, low)) (omega (arith, few, lt)) (λ e. absurd (omega (arith, e, low))))
          ∙ ap (λ (b : Bool). definition_from (label_name t) (line + 1 + cond b 2 1) (place + 1) rest) none;
    } in
    rw shape (goes_on all before (Held image (take (place + 1) image.code)) (line + 1) (told instr) rest (Held image image.code) code_line.1 next (later (line + 1) q))

reads : (image : Image) (place : ℕ) (code : List Instr) (line : ℕ) → TargetsInside image → length image.code ≤ 8192 → 0 < length image.code → Place image place code line
    → Goes (whole image) (Held image (take place image.code)) (line + 1) (body image place code) (Held image image.code)
reads image place [] line inside few some p =
    let same : take place image.code ≡ image.code = code_end image place p.left in
    rw same (end_kept image (line + 1) some, refl)
reads image place (instr ∷ code) line inside few some p = reads_by image place instr code line inside few some p (is_labelled image place) refl (λ next q. reads image (place + 1) code next inside few some q)

-- ---- the header

entry_kept : (all : List Statement) (before : Program) (line : ℕ) (point : EntryPoint) (name : List ℕ) → eqb before.parts (number_of point + 2) ≡ true → is_known all name ≡ true → first_broken (line_rules all before line (Entry point name)) ≡ None
unfolding line_rules
entry_kept all before line point name here known = kept_two (BadLine line) (UnknownLabel line) _ _ here known

flags_kept : (all : List Statement) (line n : ℕ) → are_allowed n ≡ true → first_broken (line_rules all no_program line (Flags n)) ≡ None
unfolding line_rules
flags_kept all line n allowed = kept_two (BadLine line) (BadLine line) _ _ refl allowed

pages_kept : (all : List Statement) (before : Program) (line n : ℕ) → eqb before.parts 1 ≡ true → 1 ≤ n → n ≤ 64 → first_broken (line_rules all before line (Pages n)) ≡ None
unfolding line_rules
pages_kept all before line n here some most = kept_two (BadLine line) (BadLine line) _ _ here (and_from _ _ (le-leb 1 n some) (le-leb n 64 most))

entry_labelled : (image : Image) (k : ℕ) → k < length image.entries → is_labelled image (get_or image.entries k 0) ≡ true
unfolding is_labelled
entry_labelled image k lt = or_left _ _ (list_any_at (λ entry. eqb entry (get_or image.entries k 0)) image.entries k 0 lt (eq-eqb (get_or image.entries k 0) (get_or image.entries k 0) refl))

entry_placed : (image : Image) (k : ℕ) → IsValid image → k < 5 → (is_known (whole image) (label_name (get_or image.entries k 0)) ≡ true) × (place_of (whole image) (label_name (get_or image.entries k 0)) ≡ get_or image.entries k 0)
entry_placed image k v lt =
    let within : k < length image.entries = omega (arith, lt, v.five_entries) in
    let inside : get_or image.entries k 0 < length image.code = All-get_or (λ e. e < length image.code) image.entries k 0 within v.entries in
    placed image (get_or image.entries k 0) (omega (arith, v.most_instructions)) inside (entry_labelled image k within)

five : (xs : List ℕ) → length xs ≡ 5 → get_or xs 0 0 ∷ get_or xs 1 0 ∷ get_or xs 2 0 ∷ get_or xs 3 0 ∷ get_or xs 4 0 ∷ [] ≡ xs
five (a ∷ b ∷ c ∷ d ∷ e ∷ []) h = refl
five [] h = absurd (omega arith)
five (a ∷ []) h = absurd (omega arith)
five (a ∷ b ∷ []) h = absurd (omega arith)
five (a ∷ b ∷ c ∷ []) h = absurd (omega arith)
five (a ∷ b ∷ c ∷ d ∷ []) h = absurd (omega arith)
five (a ∷ b ∷ c ∷ d ∷ e ∷ f ∷ xs) h = absurd (omega arith)

abbrev Begun : ℕ → ℕ → ℕ → List ℕ → Program
Begun parts flags pages entries = record { parts = parts; flags = flags; pages = pages; entries = entries; code = [] }

entry_added : (all : List Statement) (before : Program) (point : EntryPoint) (name : List ℕ) (place : ℕ) → place_of all name ≡ place → added all before (Entry point name) ≡ record before { parts = before.parts + 1; entries = set before.entries (number_of point) place }
entry_added all before point name place e = ap (λ (n : ℕ). record before { parts = before.parts + 1; entries = set before.entries (number_of point) n }) e

whole_goes : (image : Image) → IsValid image → TargetsInside image → Goes (whole image) no_program 1 (whole image) (Held image image.code)
whole_goes image v inside =
    let all = whole image in
    let f = image.flags in
    let p = image.pages in
    let a = get_or image.entries 0 0 in
    let b = get_or image.entries 1 0 in
    let c = get_or image.entries 2 0 in
    let d = get_or image.entries 3 0 in
    let e = get_or image.entries 4 0 in
    let pa = entry_placed image 0 v (omega arith) in
    let pb = entry_placed image 1 v (omega arith) in
    let pc = entry_placed image 2 v (omega arith) in
    let pd = entry_placed image 3 v (omega arith) in
    let pe = entry_placed image 4 v (omega arith) in
    let code = body image 0 image.code in
    let start : Place image 0 image.code 7 = record { left = refl; lines = refl; later = λ t low lt. from_header image (label_name t) } in
    let body_goes : Goes all (Held image []) 8 code (Held image image.code) = reads image 0 image.code 7 inside v.most_instructions (omega (arith, v.some_instruction)) start in
    let held : Begun 7 f p (a ∷ b ∷ c ∷ d ∷ e ∷ []) ≡ Held image [] = ap (Begun 7 f p) (five image.entries v.five_entries) in
    let zeros : List ℕ = 0 ∷ 0 ∷ 0 ∷ 0 ∷ 0 ∷ [] in
    let last = Held image image.code in
    let b1 = Begun 1 f 0 zeros in
    let b2 = Begun 2 f p zeros in
    let b3 = Begun 3 f p (a ∷ 0 ∷ 0 ∷ 0 ∷ 0 ∷ []) in
    let b4 = Begun 4 f p (a ∷ b ∷ 0 ∷ 0 ∷ 0 ∷ []) in
    let b5 = Begun 5 f p (a ∷ b ∷ c ∷ 0 ∷ 0 ∷ []) in
    let b6 = Begun 6 f p (a ∷ b ∷ c ∷ d ∷ 0 ∷ []) in
    let b7 = Held image [] in
    let r6 : List Statement = Entry Destroy (label_name e) ∷ code in
    let r5 : List Statement = Entry Close (label_name d) ∷ r6 in
    let r4 : List Statement = Entry Invoke (label_name c) ∷ r5 in
    let r3 : List Statement = Entry Open (label_name b) ∷ r4 in
    let r2 : List Statement = Entry Create (label_name a) ∷ r3 in
    let r1 : List Statement = Pages p ∷ r2 in
    goes_on all no_program b1 1 (Flags f) r1 last (flags_kept all 1 f v.flags) refl
    (goes_on all b1 b2 2 (Pages p) r2 last (pages_kept all b1 2 p refl v.some_page v.most_pages) refl
    (goes_on all b2 b3 3 (Entry Create (label_name a)) r3 last (entry_kept all b2 3 Create (label_name a) refl pa.0) (entry_added all b2 Create (label_name a) a pa.1)
    (goes_on all b3 b4 4 (Entry Open (label_name b)) r4 last (entry_kept all b3 4 Open (label_name b) refl pb.0) (entry_added all b3 Open (label_name b) b pb.1)
    (goes_on all b4 b5 5 (Entry Invoke (label_name c)) r5 last (entry_kept all b4 5 Invoke (label_name c) refl pc.0) (entry_added all b4 Invoke (label_name c) c pc.1)
    (goes_on all b5 b6 6 (Entry Close (label_name d)) r6 last (entry_kept all b5 6 Close (label_name d) refl pd.0) (entry_added all b5 Close (label_name d) d pd.1)
    (goes_on all b6 b7 7 (Entry Destroy (label_name e)) code last (entry_kept all b6 7 Destroy (label_name e) refl pe.0) (entry_added all b6 Destroy (label_name e) e pe.1 ∙ held) body_goes))))))

program_whole : (all : List Statement) → program_of all all ≡ fold (added all) no_program all
unfolding program_of
program_whole all = refl

pub stands-told : (text : List ℕ) (image : Image) → IsValid image → TargetsInside image → statements_of text ≡ whole image → StandsFor text image
stands-told text image v inside is =
    let g = whole_goes image v inside in
    stands-read text (whole image) image is g.0 (sym (ap image_from (program_whole (whole image) ∙ g.1)))

-- the targets of a valid image
pub targets_inside : (image : Image) → IsValid image → TargetsInside image
unfolding is_instruction
targets_inside image v i instr rest row left has is =
    let st = step image.code (instr ∷ rest) i instr rest left refl in
    let here : get_or image.code i instr ≡ instr = get_or_from_slice_get image.code i instr instr st.here in
    let good : is_instruction (length image.code) instr ≡ true = subst (λ (x : Instr). is_instruction (length image.code) x ≡ true) here (All-get_or (λ x. is_instruction (length image.code) x ≡ true) image.code i instr st.within v.code) in
    let fields : follows_row (length image.code) instr row ≡ true = sym (ap (λ (o : Option Row). option_map_or (follows_row (length image.code) instr) o false) has) ∙ good in
    let imm = (and_parts (is_operand row.d instr.d && is_operand row.a instr.a && is_operand row.b instr.b) (is_immediate row.imm instr.imm (length image.code)) fields).1 in
    ltb-true instr.imm (length image.code) (sym (ap (λ (m : Immediate). is_immediate m instr.imm (length image.code)) is) ∙ imm)
