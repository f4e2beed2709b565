-- How operations and their fields are written, and read again.
use Rattle.std.proofs.Common.{◌≡◌, ℕ, ◌+◌, ◌<◌, ◌≤◌, ◌^◌, Bool, true, false, cond, ◌&&◌, eqb, List, [], ◌∷◌, ◌++◌, length, take, get_or, All, Option, Some, None, refl, sym, ap, subst, ◌∙◌, arith, length-append, append_assoc, ◌-◌}
use Rattle.std.proofs.Math.Seq.{get_or-append_seam, take-append_seam}
use Rattle.std.specs.Prelude.{codes, decimal}
use Rattle.std.specs.List.{AllByRecursion, find}
use Rattle.std.specs.Option.{option_map, option_map_or}
use Rattle.std.proofs.lemmas.Bool.{eqb-true, ltb-true, leb-true, and_parts, and_from}
use Rattle.std.proofs.lemmas.Nat.{and_le_l}
use Rattle.std.proofs.lemmas.List.Elements.{All-append, All-from_recursion, All-get_or, recursion_from_All}
use Rattle.ta_isa.specs.declared.image.Image.{Image}
use Rattle.ta_isa.specs.declared.image.Instr.{Instr}
use Rattle.ta_isa.specs.declared.row.Operand.{Operand}
use Rattle.ta_isa.specs.declared.row.Operand.TheVariants as operand
use Rattle.ta_isa.specs.declared.row.Immediate.{Immediate}
use Rattle.ta_isa.specs.declared.row.Immediate.TheVariants as immediate
use Rattle.ta_isa.specs.declared.row.Row.{Row}
use Rattle.ta_isa.specs.InstructionTable.{follows_row, instruction_table, is_immediate, is_instruction, is_operand, row_of}
use Rattle.ta_isa.specs.Spelling.{IsValid, are_allowed}
use Rattle.ta_asm.specs.declared.names.EntryPoint.{EntryPoint}
use Rattle.ta_asm.specs.declared.names.EntryPoint.TheVariants.{Create, Open, Invoke, Close, Destroy}
use Rattle.ta_asm.specs.declared.statement.Statement.{Statement}
use Rattle.ta_asm.specs.declared.statement.Statement.TheVariants.{Flags, Pages, Entry, Label, Code}
use Rattle.ta_asm.specs.Canonical.{canonical, code_lines, field_words, immediate_words, instruction_words, is_labelled, label_line, label_name, line_of, operand_words, operation_word, text_of}
use Rattle.ta_asm.specs.Grammar.{StandsFor}
use Rattle.ta_asm.specs.RoundTrip.{EveryImage}
use Rattle.text_lines.specs.Steps.{◌>>=◌}
use Rattle.ta_asm.specs.Lines.{code_at, code_left, entry_at, entry_left, immediate_at, is_label, number_left, operand_at, operation_at, said_by, statement_of, statements_of}
use Rattle.ta_asm.specs.Words.{is_name}
use Rattle.ta_asm.proofs.Meanings.{every_text}
use Rattle.ta_asm.proofs.Texts.{first_statement, no_statement}
use Rattle.ta_asm.proofs.Told.{body, number_by, stands-told, target_by, targets_inside, told, told_by, whole}
use Rattle.ta_asm.proofs.Written.{ArePlain, are_plain, line_first, name_back, no_feed_plain, not_skipped, number_back, plain_decimal, register_back}

-- ---- operations

-- the word of an operation is none of the header's, and names the operation
record IsWritten (op : ℕ) : Type 0 where
  pub h : ℕ
  pub t : List ℕ
  pub word_is : operation_word op ≡ h ∷ t
  pub mark : eqb h 35 ≡ false
  pub plain : are_plain (h ∷ t) ≡ true
  pub said : (words : List (List ℕ)) → said_by (h ∷ t) words ≡ code_left (h ∷ t) words
  pub back : operation_at (h ∷ t) ≡ Some op

written_1 : IsWritten 1
unfolding operation_word operation_at said_by
written_1 = record { h = 99; t = codes "onst"; word_is = refl; mark = refl; plain = refl; said = λ words. refl; back = refl }

written_2 : IsWritten 2
unfolding operation_word operation_at said_by
written_2 = record { h = 109; t = codes "ove"; word_is = refl; mark = refl; plain = refl; said = λ words. refl; back = refl }

written_3 : IsWritten 3
unfolding operation_word operation_at said_by
written_3 = record { h = 97; t = codes "dd"; word_is = refl; mark = refl; plain = refl; said = λ words. refl; back = refl }

written_4 : IsWritten 4
unfolding operation_word operation_at said_by
written_4 = record { h = 115; t = codes "ub"; word_is = refl; mark = refl; plain = refl; said = λ words. refl; back = refl }

written_5 : IsWritten 5
unfolding operation_word operation_at said_by
written_5 = record { h = 109; t = codes "ul"; word_is = refl; mark = refl; plain = refl; said = λ words. refl; back = refl }

written_6 : IsWritten 6
unfolding operation_word operation_at said_by
written_6 = record { h = 100; t = codes "iv"; word_is = refl; mark = refl; plain = refl; said = λ words. refl; back = refl }

written_7 : IsWritten 7
unfolding operation_word operation_at said_by
written_7 = record { h = 114; t = codes "em"; word_is = refl; mark = refl; plain = refl; said = λ words. refl; back = refl }

written_8 : IsWritten 8
unfolding operation_word operation_at said_by
written_8 = record { h = 97; t = codes "nd"; word_is = refl; mark = refl; plain = refl; said = λ words. refl; back = refl }

written_9 : IsWritten 9
unfolding operation_word operation_at said_by
written_9 = record { h = 111; t = codes "r"; word_is = refl; mark = refl; plain = refl; said = λ words. refl; back = refl }

written_10 : IsWritten 10
unfolding operation_word operation_at said_by
written_10 = record { h = 120; t = codes "or"; word_is = refl; mark = refl; plain = refl; said = λ words. refl; back = refl }

written_11 : IsWritten 11
unfolding operation_word operation_at said_by
written_11 = record { h = 115; t = codes "hl"; word_is = refl; mark = refl; plain = refl; said = λ words. refl; back = refl }

written_12 : IsWritten 12
unfolding operation_word operation_at said_by
written_12 = record { h = 115; t = codes "hr"; word_is = refl; mark = refl; plain = refl; said = λ words. refl; back = refl }

written_13 : IsWritten 13
unfolding operation_word operation_at said_by
written_13 = record { h = 108; t = codes "oadb"; word_is = refl; mark = refl; plain = refl; said = λ words. refl; back = refl }

written_14 : IsWritten 14
unfolding operation_word operation_at said_by
written_14 = record { h = 108; t = codes "oadw"; word_is = refl; mark = refl; plain = refl; said = λ words. refl; back = refl }

written_15 : IsWritten 15
unfolding operation_word operation_at said_by
written_15 = record { h = 115; t = codes "toreb"; word_is = refl; mark = refl; plain = refl; said = λ words. refl; back = refl }

written_16 : IsWritten 16
unfolding operation_word operation_at said_by
written_16 = record { h = 115; t = codes "torew"; word_is = refl; mark = refl; plain = refl; said = λ words. refl; back = refl }

written_17 : IsWritten 17
unfolding operation_word operation_at said_by
written_17 = record { h = 98; t = codes "eq"; word_is = refl; mark = refl; plain = refl; said = λ words. refl; back = refl }

written_18 : IsWritten 18
unfolding operation_word operation_at said_by
written_18 = record { h = 98; t = codes "ne"; word_is = refl; mark = refl; plain = refl; said = λ words. refl; back = refl }

written_19 : IsWritten 19
unfolding operation_word operation_at said_by
written_19 = record { h = 98; t = codes "ltu"; word_is = refl; mark = refl; plain = refl; said = λ words. refl; back = refl }

written_20 : IsWritten 20
unfolding operation_word operation_at said_by
written_20 = record { h = 98; t = codes "geu"; word_is = refl; mark = refl; plain = refl; said = λ words. refl; back = refl }

written_21 : IsWritten 21
unfolding operation_word operation_at said_by
written_21 = record { h = 106; t = codes "ump"; word_is = refl; mark = refl; plain = refl; said = λ words. refl; back = refl }

written_22 : IsWritten 22
unfolding operation_word operation_at said_by
written_22 = record { h = 99; t = codes "all"; word_is = refl; mark = refl; plain = refl; said = λ words. refl; back = refl }

written_23 : IsWritten 23
unfolding operation_word operation_at said_by
written_23 = record { h = 114; t = codes "et"; word_is = refl; mark = refl; plain = refl; said = λ words. refl; back = refl }

written_24 : IsWritten 24
unfolding operation_word operation_at said_by
written_24 = record { h = 115; t = codes "ys"; word_is = refl; mark = refl; plain = refl; said = λ words. refl; back = refl }

each : AllByRecursion (λ e. IsWritten e.0) instruction_table
each = (written_1, (written_2, (written_3, (written_4, (written_5, (written_6, (written_7, (written_8, (written_9, (written_10, (written_11, (written_12, (written_13, (written_14, (written_15, (written_16, (written_17, (written_18, (written_19, (written_20, (written_21, (written_22, (written_23, (written_24, tt))))))))))))))))))))))))

find_by : (op : ℕ) (x : ℕ × Row) (rows : List (ℕ × Row)) (row : Row) → IsWritten x.0 → (b : Bool) → eqb x.0 op ≡ b → option_map (λ e. e.1) (cond b (Some x) (find (λ e. eqb e.0 op) rows)) ≡ Some row
    → (option_map (λ e. e.1) (find (λ e. eqb e.0 op) rows) ≡ Some row → IsWritten op) → IsWritten op
find_by op x rows row here true same e later = subst IsWritten (eqb-true x.0 op same) here
find_by op x rows row here false same e later = later e

find_written : (op : ℕ) (rows : List (ℕ × Row)) (row : Row) → AllByRecursion (λ e. IsWritten e.0) rows → option_map (λ e. e.1) (find (λ e. eqb e.0 op) rows) ≡ Some row → IsWritten op
find_written op [] row all e = absurd cc
find_written op (x ∷ rows) row all e = find_by op x rows row all.0 (eqb x.0 op) refl e (find_written op rows row all.1)

-- ---- fields

bind_is : {A B : Type 0} (o : Option A) (f : A → Option B) (x : A) (y : Option B) → o ≡ Some x → f x ≡ y → (o >>= f) ≡ y
bind_is o f x y e g = ap (λ (p : Option _). p >>= f) e ∙ g

operand_back : (o : Operand) (n : ℕ) (rest : List (List ℕ)) → is_operand o n ≡ true → operand_at o (operand_words o n ++ rest) ≡ Some (n, rest)
unfolding operand_at
operand_back operand.Unused n rest e = let zero : n ≡ 0 = eqb-true n 0 e in ap (λ (k : ℕ). Some (k, rest)) (sym zero)
operand_back operand.Register n rest e = rw (register_back n (ltb-true n 16 e)) refl

immediate_back : (m : Immediate) (imm count : ℕ) → count ≤ 8192 → is_immediate m imm count ≡ true → immediate_at m (immediate_words m imm) ≡ Some (number_by m imm, target_by m imm)
unfolding immediate_at
immediate_back immediate.Unused imm count few e = let zero : imm ≡ 0 = eqb-true imm 0 e in ap (λ (k : ℕ). Some (k, None)) (sym zero)
immediate_back immediate.Number imm count few e = rw (number_back imm (ltb-true imm (2 ^ 32) e)) refl
immediate_back immediate.Target imm count few e = let lt = ltb-true imm count e in rw (name_back imm (omega (arith, lt, few))) refl
immediate_back immediate.SystemCall imm count few e = let le = leb-true imm 19 e in rw (number_back imm (omega (arith, le)), e) refl

code_back : (instr : Instr) (row : Row) (count : ℕ) → count ≤ 8192 → follows_row count instr row ≡ true → code_at instr.op row (field_words row instr) ≡ Some (Code (record instr { imm = number_by row.imm instr.imm }) (target_by row.imm instr.imm))
unfolding code_at
code_back instr row count few e =
    let one = and_parts (is_operand row.d instr.d && is_operand row.a instr.a && is_operand row.b instr.b) (is_immediate row.imm instr.imm count) e in
    let two = and_parts (is_operand row.d instr.d && is_operand row.a instr.a) (is_operand row.b instr.b) one.0 in
    let three = and_parts (is_operand row.d instr.d) (is_operand row.a instr.a) two.0 in
    rw (operand_back row.d instr.d (operand_words row.a instr.a ++ (operand_words row.b instr.b ++ immediate_words row.imm instr.imm)) three.0)
    (rw (operand_back row.a instr.a (operand_words row.b instr.b ++ immediate_words row.imm instr.imm) three.1)
    (rw (operand_back row.b instr.b (immediate_words row.imm instr.imm) two.1)
    (rw (immediate_back row.imm instr.imm count few one.1) refl)))

-- ---- lines of instructions

plain_more : (xs ys : List (List ℕ)) → ArePlain xs → ArePlain ys → ArePlain (xs ++ ys)
plain_more [] ys p q = q
plain_more (x ∷ xs) ys p q = (p.0, plain_more xs ys p.1 q)

plain_operand : (o : Operand) (n : ℕ) → is_operand o n ≡ true → ArePlain (operand_words o n)
plain_operand operand.Unused n e = tt
plain_operand operand.Register n e = let lt = ltb-true n 16 e in (and_from _ _ refl (plain_decimal n (omega (arith, lt))), tt)

plain_immediate : (m : Immediate) (imm count : ℕ) → count ≤ 8192 → is_immediate m imm count ≡ true → ArePlain (immediate_words m imm)
plain_immediate immediate.Unused imm count few e = tt
plain_immediate immediate.Number imm count few e = let lt = ltb-true imm (2 ^ 32) e in (plain_decimal imm (omega (arith, lt)), tt)
plain_immediate immediate.Target imm count few e = let lt = ltb-true imm count e in (and_from _ _ refl (plain_decimal imm (omega (arith, lt, few))), tt)
plain_immediate immediate.SystemCall imm count few e = let le = leb-true imm 19 e in (plain_decimal imm (omega (arith, le)), tt)

plain_fields : (instr : Instr) (row : Row) (count : ℕ) → count ≤ 8192 → follows_row count instr row ≡ true → ArePlain (field_words row instr)
plain_fields instr row count few e =
    let one = and_parts (is_operand row.d instr.d && is_operand row.a instr.a && is_operand row.b instr.b) (is_immediate row.imm instr.imm count) e in
    let two = and_parts (is_operand row.d instr.d && is_operand row.a instr.a) (is_operand row.b instr.b) one.0 in
    let three = and_parts (is_operand row.d instr.d) (is_operand row.a instr.a) two.0 in
    plain_more (operand_words row.d instr.d) _ (plain_operand row.d instr.d three.0)
    (plain_more (operand_words row.a instr.a) _ (plain_operand row.a instr.a three.1)
    (plain_more (operand_words row.b instr.b) _ (plain_operand row.b instr.b two.1) (plain_immediate row.imm instr.imm count few one.1)))

-- an instruction has a row
has_row : (instr : Instr) (count : ℕ) (o : Option Row) → row_of instr.op ≡ o → option_map_or (follows_row count instr) o false ≡ true → (row : Row) × (row_of instr.op ≡ Some row) × (follows_row count instr row ≡ true)
has_row instr count None e f = absurd cc
has_row instr count (Some row) e f = (row, e, f)

said_code : (instr : Instr) (row : Row) (count : ℕ) → count ≤ 8192 → row_of instr.op ≡ Some row → follows_row count instr row ≡ true → (w : IsWritten instr.op) → said_by (w.h ∷ w.t) (field_words row instr) ≡ Some (told instr)
unfolding code_left told
said_code instr row count few has follows w =
    w.said (field_words row instr)
    ∙ bind_is (operation_at (w.h ∷ w.t)) (λ op. row_of op >>= λ r. code_at op r (field_words row instr)) instr.op _ w.back
    (bind_is (row_of instr.op) (λ r. code_at instr.op r (field_words row instr)) row _ has (code_back instr row count few follows))
    ∙ sym (ap (λ (o : Option Row). Some (told_by o instr)) has)

code_line : (instr : Instr) (count : ℕ) (after : List ℕ) → count ≤ 8192 → is_instruction count instr ≡ true → statements_of (line_of (instruction_words instr) ++ after) ≡ told instr ∷ statements_of after
unfolding instruction_words is_instruction
code_line instr count after few good =
    let r = has_row instr count (row_of instr.op) refl good in
    let w = find_written instr.op instruction_table r.0 each r.1 in
    let words : operation_word instr.op ∷ option_map_or (λ row. field_words row instr) (row_of instr.op) [] ≡ (w.h ∷ w.t) ∷ field_words r.0 instr =
    ap (λ (x : List ℕ). x ∷ option_map_or (λ row. field_words row instr) (row_of instr.op) []) w.word_is
    ∙ ap (λ (o : Option Row). (w.h ∷ w.t) ∷ option_map_or (λ row. field_words row instr) o []) r.1 in
    ap (λ (ws : List (List ℕ)). statements_of (line_of ws ++ after)) words
    ∙ line_first w.h w.t (field_words r.0 instr) (told instr) after w.mark w.plain (plain_fields instr r.0 count few r.2) (said_code instr r.0 count few r.1 r.2 w)

-- ---- lines of labels

no_feed_in : (n : ℕ) → n < 2 ^ 64 → All (λ b. eqb b 10 ≡ false) (label_name n)
no_feed_in n small = no_feed_plain (label_name n) (and_from _ _ refl (plain_decimal n small))

no_feed : (n : ℕ) → n < 2 ^ 64 → All (λ b. eqb b 10 ≡ false) (label_name n ++ codes ":")
no_feed n small = All-append (λ b. eqb b 10 ≡ false) (label_name n) (codes ":") (no_feed_in n small) (All-from_recursion (λ b. eqb b 10 ≡ false) (codes ":") (refl, tt))

last_byte : (n : ℕ) → length (label_name n ++ codes ":") - 1 ≡ length (label_name n)
last_byte n = omega (arith, length-append (label_name n) (codes ":"))

name_part : (n : ℕ) → take (length (label_name n ++ codes ":") - 1) (label_name n ++ codes ":") ≡ label_name n
name_part n = ap (λ (k : ℕ). take k (label_name n ++ codes ":")) (last_byte n) ∙ take-append_seam (label_name n) (codes ":")

label_is : (n : ℕ) → n < 2 ^ 64 → is_label (label_name n ++ codes ":") ≡ true
unfolding is_label
label_is n small =
    let line = label_name n ++ codes ":" in
    let last : get_or line (length line - 1) 0 ≡ 58 = ap (λ (k : ℕ). get_or line k 0) (last_byte n) ∙ get_or-append_seam (label_name n) 58 [] 0 in
    and_from _ _ (ap (λ (b : ℕ). eqb b 58) last) (ap is_name (name_part n) ∙ name_back n small)

label_said : (n : ℕ) → n < 2 ^ 64 → statement_of (label_name n ++ codes ":") ≡ Label (label_name n)
unfolding statement_of
label_said n small = rw (not_skipped 76 (decimal n ++ codes ":") refl, label_is n small) (ap (λ (l : List ℕ). Label l) (name_part n))

label_first : (n : ℕ) (after : List ℕ) → n < 2 ^ 64 → statements_of (line_of ((label_name n ++ codes ":") ∷ []) ++ after) ≡ Label (label_name n) ∷ statements_of after
label_first n after small =
    let line = label_name n ++ codes ":" in
    let parts : line_of (line ∷ []) ++ after ≡ line ++ 10 ∷ after = append_assoc line (10 ∷ []) after in
    first_statement (line_of (line ∷ []) ++ after) line after (no_feed n small, parts) ∙ ap (λ (x : Statement). x ∷ statements_of after) (label_said n small)

-- ---- whole texts

label_line_by : (image : Image) (place : ℕ) (lines : List (List (List ℕ))) (rest : List Statement) (b : Bool) → place < 2 ^ 64 → statements_of (text_of lines) ≡ rest
    → statements_of (text_of (cond b (((label_name place ++ codes ":") ∷ []) ∷ lines) lines)) ≡ cond b (Label (label_name place) ∷ rest) rest
label_line_by image place lines rest true small e = label_first place (text_of lines) small ∙ ap (λ (ss : List Statement). Label (label_name place) ∷ ss) e
label_line_by image place lines rest false small e = e

code_told : (image : Image) (place count : ℕ) (code : List Instr) → count ≤ 8192 → place + length code < 2 ^ 64 → AllByRecursion (λ i. is_instruction count i ≡ true) code → statements_of (text_of (code_lines image place code)) ≡ body image place code
unfolding label_line
code_told image place count [] few small good = no_statement [] refl
code_told image place count (instr ∷ code) few small good =
    label_line_by image place (instruction_words instr ∷ code_lines image (place + 1) code) (told instr ∷ body image (place + 1) code) (is_labelled image place) (omega (arith, small))
    (code_line instr count (text_of (code_lines image (place + 1) code)) few good.0 ∙ ap (λ (ss : List Statement). told instr ∷ ss) (code_told image (place + 1) count code few (omega (arith, small)) good.1))

flags_first : (n : ℕ) (after : List ℕ) → n < 2 ^ 32 → statements_of (line_of (codes ".flags" ∷ decimal n ∷ []) ++ after) ≡ Flags n ∷ statements_of after
unfolding said_by number_left
flags_first n after small = line_first 46 (codes "flags") (decimal n ∷ []) (Flags n) after refl refl (plain_decimal n (omega arith), tt) (ap (option_map Flags) (number_back n small))

pages_first : (n : ℕ) (after : List ℕ) → n < 2 ^ 32 → statements_of (line_of (codes ".pages" ∷ decimal n ∷ []) ++ after) ≡ Pages n ∷ statements_of after
unfolding said_by number_left
pages_first n after small = line_first 46 (codes "pages") (decimal n ∷ []) (Pages n) after refl refl (plain_decimal n (omega arith), tt) (ap (option_map Pages) (number_back n small))

entry_said : (word : List ℕ) (point : EntryPoint) (n : ℕ) → entry_at word ≡ Some point → n < 2 ^ 64 → entry_left (word ∷ label_name n ∷ []) ≡ Some (Entry point (label_name n))
unfolding entry_left
entry_said word point n e small = rw (e, name_back n small) refl

entry_first : (word : List ℕ) (point : EntryPoint) (n : ℕ) (after : List ℕ) → entry_at word ≡ Some point → are_plain word ≡ true → n < 2 ^ 64 → statements_of (line_of (codes ".entry" ∷ word ∷ label_name n ∷ []) ++ after) ≡ Entry point (label_name n) ∷ statements_of after
unfolding said_by
entry_first word point n after e plain small =
    line_first 46 (codes "entry") (word ∷ label_name n ∷ []) (Entry point (label_name n)) after refl refl (plain, (and_from _ _ refl (plain_decimal n small), tt)) (entry_said word point n e small)

entry_small : (image : Image) (k : ℕ) → IsValid image → k < 5 → get_or image.entries k 0 < 2 ^ 64
entry_small image k v lt =
    let below = All-get_or (λ e. e < length image.code) image.entries k 0 (omega (arith, lt, v.five_entries)) v.entries in
    omega (arith, below, v.most_instructions)

pub canonical_told : (image : Image) → IsValid image → image.flags < 2 ^ 32 → statements_of (canonical image) ≡ whole image
unfolding canonical entry_at
canonical_told image v small =
    let tail = code_told image 0 (length image.code) image.code v.most_instructions (omega (arith, v.most_instructions)) (recursion_from_All (λ i. is_instruction (length image.code) i ≡ true) image.code v.code) in
    flags_first image.flags _ small
    ∙ ap (λ (ss : List Statement). Flags image.flags ∷ ss) (pages_first image.pages _ (omega (arith, v.most_pages))
    ∙ ap (λ (ss : List Statement). Pages image.pages ∷ ss) (entry_first (codes "create") Create (get_or image.entries 0 0) _ refl refl (entry_small image 0 v (omega arith))
    ∙ ap (λ (ss : List Statement). Entry Create (label_name (get_or image.entries 0 0)) ∷ ss) (entry_first (codes "open") Open (get_or image.entries 1 0) _ refl refl (entry_small image 1 v (omega arith))
    ∙ ap (λ (ss : List Statement). Entry Open (label_name (get_or image.entries 1 0)) ∷ ss) (entry_first (codes "invoke") Invoke (get_or image.entries 2 0) _ refl refl (entry_small image 2 v (omega arith))
    ∙ ap (λ (ss : List Statement). Entry Invoke (label_name (get_or image.entries 2 0)) ∷ ss) (entry_first (codes "close") Close (get_or image.entries 3 0) _ refl refl (entry_small image 3 v (omega arith))
    ∙ ap (λ (ss : List Statement). Entry Close (label_name (get_or image.entries 3 0)) ∷ ss) (entry_first (codes "destroy") Destroy (get_or image.entries 4 0) _ refl refl (entry_small image 4 v (omega arith))
    ∙ ap (λ (ss : List Statement). Entry Destroy (label_name (get_or image.entries 4 0)) ∷ ss) tail))))))

flags_small : (image : Image) → IsValid image → image.flags < 2 ^ 32
unfolding are_allowed
flags_small image v =
    let same = eqb-true _ _ v.flags in
    omega (arith, same, and_le_l 0x1c image.flags)

-- the canonical text of a valid image stands for it
pub canonical_stands : (image : Image) → IsValid image → StandsFor (canonical image) image
canonical_stands image v = stands-told (canonical image) image v (targets_inside image v) (canonical_told image v (flags_small image v))

pub every_image : EveryImage
every_image image v =
    let stands = canonical_stands image v in
    let meaning = every_text (canonical image) in
    record {
      stands = stands;
      for_no_other = λ other is. meaning.one_image other image is stands;
      faultless = λ fault is. meaning.not_both image fault stands is;
    }
