-- The fields of the instruction that a line writes are those of its row.
use Rattle.std.proofs.Common.{◌≡◌, ℕ, ◌-◌, ◌<◌, ◌≤◌, ◌^◌, Bool, true, false, cond, ◌&&◌, eqb, ltb, leb, List, [], ◌∷◌, length, take, drop, get_or, Option, Some, None, refl, ap, subst, ◌∙◌, arith}
use Rattle.std.specs.Prelude.{codes}
use Rattle.std.specs.List.{AllByRecursion}
use Rattle.std.specs.Option.{option_map, option_map_or, unwrap_or}
use Rattle.std.specs.Str.{bytes_eq}
use Rattle.std.specs.Str.Parse.{digits_value}
use Rattle.std.proofs.lemmas.Bool.{ltb-true, leb-true, lt-ltb, le-leb, and_parts, and_from}
use Rattle.ta_isa.specs.declared.image.Instr.{Instr}
use Rattle.ta_isa.specs.declared.row.Operand.{Operand}
use Rattle.ta_isa.specs.declared.row.Operand.TheVariants as operand
use Rattle.ta_isa.specs.declared.row.Immediate.{Immediate}
use Rattle.ta_isa.specs.declared.row.Immediate.TheVariants as immediate
use Rattle.ta_isa.specs.declared.row.Row.{Row}
use Rattle.ta_isa.specs.InstructionTable.{follows_row, is_immediate, is_instruction, is_operand, row_of}
use Rattle.ta_asm.specs.declared.statement.Statement.{Statement}
use Rattle.ta_asm.specs.declared.statement.Statement.TheVariants.{Nothing, Flags, Pages, Entry, Label, Code, Unread}
use Rattle.ta_asm.specs.Words.{are_digits, at_most, decimal_at, digits_at, has_leading_zero, has_radix_prefix, number_at, register_at}
use Rattle.text_lines.specs.Lines.{is_skipped}
use Rattle.text_lines.specs.Words.{last_word, word_at, words_of}
use Rattle.text_lines.specs.Steps.{◌>>=◌}
use Rattle.ta_asm.specs.Lines.{Immediates, code_at, code_left, entry_left, entry_at, immediate_at, is_label, name_at, number_left, operand_at, operation_at, pieces_of, said_by, said_in, statement_of, statements_in, statements_of, unended}
use Rattle.text_lines.proofs.Options.{bind_some, guard_some, bar_some, some_is}

-- an instruction of an image of any length, once its target has a place in it
abbrev pub IsWellMade : Statement → Type 0
IsWellMade Nothing = Unit {0}
IsWellMade (Flags n) = Unit {0}
IsWellMade (Pages n) = Unit {0}
IsWellMade (Entry point label) = Unit {0}
IsWellMade (Label label) = Unit {0}
IsWellMade (Code instr None) = (count : ℕ) → is_instruction count instr ≡ true
IsWellMade (Code instr (Some label)) = (count place : ℕ) → place < count → is_instruction count (record instr { imm = place }) ≡ true
IsWellMade Unread = Unit {0}

-- ---- fields

digits_below : (radix : ℕ) (word : List ℕ) (n : ℕ) → digits_at radix word ≡ Some n → n < 2 ^ 32
unfolding digits_at
digits_below radix word n e =
    let g = guard_some (are_digits radix word && ltb (digits_value radix word) (2 ^ 32)) (digits_value radix word) n e in
    let p = and_parts (are_digits radix word) (ltb (digits_value radix word) (2 ^ 32)) g.0 in
    let below = ltb-true _ _ p.1 in
    omega (arith, below, g.1)

decimal_below : (word : List ℕ) (n : ℕ) → decimal_at word ≡ Some n → n < 2 ^ 32
unfolding decimal_at
decimal_below word n e = digits_below 10 word n (bar_some (has_leading_zero word) (digits_at 10 word) n e).1

either_some : {A : Type 0} (b : Bool) (x y : Option A) (P : A → Type 0) (a : A) → cond b x y ≡ Some a → (x ≡ Some a → P a) → (y ≡ Some a → P a) → P a
either_some true x y P a e f g = f e
either_some false x y P a e f g = g e

number_below : (word : List ℕ) (n : ℕ) → number_at word ≡ Some n → n < 2 ^ 32
unfolding number_at
number_below word n e = either_some (has_radix_prefix word) _ (decimal_at word) (λ (k : ℕ). k < 2 ^ 32) n e (digits_below 16 _ n) (decimal_below word n)

limit_kept : (limit m n : ℕ) → at_most limit m ≡ Some n → n ≤ limit
limit_kept limit m n e =
    let g = guard_some (leb m limit) m n e in
    let kept = leb-true _ _ g.0 in
    omega (arith, kept, g.1)

guard_read : {A : Type 0} (b : Bool) (o : Option A) (y : A) → cond b o None ≡ Some y → o ≡ Some y
guard_read true o y e = e
guard_read false o y e = absurd cc

register_below : (word : List ℕ) (n : ℕ) → register_at word ≡ Some n → n ≤ 15
unfolding register_at
register_below word n e =
    let g = guard_read (eqb (get_or word 0 0) 114) (decimal_at (drop 1 word) >>= at_most 15) n e in
    let b = bind_some (decimal_at (drop 1 word)) (at_most 15) n g in
    limit_kept 15 b.0 n b.2

operand_made : (o : Operand) (words rest : List (List ℕ)) (n : ℕ) → operand_at o words ≡ Some (n, rest) → is_operand o n ≡ true
unfolding operand_at
operand_made operand.Unused words rest n e = let same : 0 ≡ n = ap (λ (p : ℕ × List (List ℕ)). p.0) (some_is (0, words) (n, rest) e) in subst (λ (k : ℕ). eqb k 0 ≡ true) same refl
operand_made operand.Register words rest n e =
    let w = bind_some (word_at words) (λ word. register_at word.0 >>= λ register. Some (register, word.1)) (n, rest) e in
    let r = bind_some (register_at w.0.0) (λ register. Some (register, w.0.1)) (n, rest) w.2 in
    let same : r.0 ≡ n = ap (λ (p : ℕ × List (List ℕ)). p.0) (some_is (r.0, w.0.1) (n, rest) r.2) in
    let few = register_below w.0.0 r.0 r.1 in
    lt-ltb n 16 (omega (arith, few, same))

-- what an immediate field may hold, with its label or without one
abbrev MayHold : Immediate → Immediates → Type 0
MayHold i (n, None) = (count : ℕ) → is_immediate i n count ≡ true
MayHold i (n, Some name) = (count place : ℕ) → place < count → is_immediate i place count ≡ true

immediate_made : (i : Immediate) (words : List (List ℕ)) (held : Immediates) → immediate_at i words ≡ Some held → MayHold i held
unfolding immediate_at
immediate_made immediate.Unused [] held e = subst (MayHold immediate.Unused) (some_is _ held e) (λ count. refl)
immediate_made immediate.Unused (word ∷ words) held e = absurd cc
immediate_made immediate.Number words held e =
    let w = bind_some (last_word words) (λ word. number_at word >>= λ number. Some (number, None)) held e in
    let n = bind_some (number_at w.0) (λ number. Some (number, None)) held w.2 in
    subst (MayHold immediate.Number) (some_is _ held n.2) (λ count. lt-ltb n.0 (2 ^ 32) (number_below w.0 n.0 n.1))
immediate_made immediate.Target words held e =
    let w = bind_some (last_word words) (λ word. name_at word >>= λ name. Some (0, Some name)) held e in
    let n = bind_some (name_at w.0) (λ name. Some (0, Some name)) held w.2 in
    subst (MayHold immediate.Target) (some_is _ held n.2) (λ count place lt. lt-ltb place count lt)
immediate_made immediate.SystemCall words held e =
    let w = bind_some (last_word words) (λ word. number_at word >>= λ number. at_most 19 number >>= λ call. Some (call, None)) held e in
    let n = bind_some (number_at w.0) (λ number. at_most 19 number >>= λ call. Some (call, None)) held w.2 in
    let c = bind_some (at_most 19 n.0) (λ call. Some (call, None)) held n.2 in
    subst (MayHold immediate.SystemCall) (some_is _ held c.2) (λ count. le-leb c.0 19 (limit_kept 19 n.0 c.0 c.1))

-- ---- instructions

by_row : (count : ℕ) (i : Instr) (row : Row) → row_of i.op ≡ Some row → is_operand row.d i.d ≡ true → is_operand row.a i.a ≡ true → is_operand row.b i.b ≡ true → is_immediate row.imm i.imm count ≡ true → is_instruction count i ≡ true
unfolding is_instruction
by_row count i row e d a b imm =
    ap (λ (o : Option Row). option_map_or (follows_row count i) o false) e ∙ and_from _ _ (and_from _ _ (and_from _ _ d a) b) imm

made_with : (op : ℕ) (row : Row) (d a b : ℕ) (held : Immediates) → row_of op ≡ Some row → is_operand row.d d ≡ true → is_operand row.a a ≡ true → is_operand row.b b ≡ true → MayHold row.imm held
    → IsWellMade (Code (record { op = op; d = d; a = a; b = b; imm = held.0 }) held.1)
made_with op row d a b (n, None) e od oa ob h = λ count. by_row count (record { op = op; d = d; a = a; b = b; imm = n }) row e od oa ob (h count)
made_with op row d a b (n, Some name) e od oa ob h = λ count place lt. by_row count (record { op = op; d = d; a = a; b = b; imm = place }) row e od oa ob (h count place lt)

code_made : (op : ℕ) (row : Row) (words : List (List ℕ)) (s : Statement) → row_of op ≡ Some row → code_at op row words ≡ Some s → IsWellMade s
unfolding code_at
code_made op row words s e said =
    let d = bind_some (operand_at row.d words)
    (λ d. operand_at row.a d.1 >>= λ a. operand_at row.b a.1 >>= λ b. immediate_at row.imm b.1 >>= λ imm. Some (Code (record { op = op; d = d.0; a = a.0; b = b.0; imm = imm.0 }) imm.1)) s said in
    let a = bind_some (operand_at row.a d.0.1)
    (λ a. operand_at row.b a.1 >>= λ b. immediate_at row.imm b.1 >>= λ imm. Some (Code (record { op = op; d = d.0.0; a = a.0; b = b.0; imm = imm.0 }) imm.1)) s d.2 in
    let b = bind_some (operand_at row.b a.0.1)
    (λ b. immediate_at row.imm b.1 >>= λ imm. Some (Code (record { op = op; d = d.0.0; a = a.0.0; b = b.0; imm = imm.0 }) imm.1)) s a.2 in
    let i = bind_some (immediate_at row.imm b.0.1) (λ imm. Some (Code (record { op = op; d = d.0.0; a = a.0.0; b = b.0.0; imm = imm.0 }) imm.1)) s b.2 in
    subst IsWellMade (some_is _ s i.2)
    (made_with op row d.0.0 a.0.0 b.0.0 i.0 e (operand_made row.d words d.0.1 d.0.0 d.1) (operand_made row.a d.0.1 a.0.1 a.0.0 a.1) (operand_made row.b a.0.1 b.0.1 b.0.0 b.1) (immediate_made row.imm b.0.1 i.0 i.1))

-- ---- lines

flags_made : (o : Option ℕ) (s : Statement) → option_map Flags o ≡ Some s → IsWellMade s
flags_made None s e = absurd cc
flags_made (Some n) s e = subst IsWellMade (some_is _ s e) tt

pages_made : (o : Option ℕ) (s : Statement) → option_map Pages o ≡ Some s → IsWellMade s
pages_made None s e = absurd cc
pages_made (Some n) s e = subst IsWellMade (some_is _ s e) tt

entry_made : (words : List (List ℕ)) (s : Statement) → entry_left words ≡ Some s → IsWellMade s
unfolding entry_left
entry_made words s e =
    let w = bind_some (word_at words) (λ word. entry_at word.0 >>= λ point. last_word word.1 >>= λ last. name_at last >>= λ name. Some (Entry point name)) s e in
    let p = bind_some (entry_at w.0.0) (λ point. last_word w.0.1 >>= λ last. name_at last >>= λ name. Some (Entry point name)) s w.2 in
    let l = bind_some (last_word w.0.1) (λ last. name_at last >>= λ name. Some (Entry p.0 name)) s p.2 in
    let n = bind_some (name_at l.0) (λ name. Some (Entry p.0 name)) s l.2 in
    subst IsWellMade (some_is _ s n.2) tt

code_left_made : (first : List ℕ) (words : List (List ℕ)) (s : Statement) → code_left first words ≡ Some s → IsWellMade s
unfolding code_left
code_left_made first words s e =
    let o = bind_some (operation_at first) (λ op. row_of op >>= λ row. code_at op row words) s e in
    let r = bind_some (row_of o.0) (λ row. code_at o.0 row words) s o.2 in
    code_made o.0 r.0 words s r.1 r.2

said_made : (first : List ℕ) (words : List (List ℕ)) (s : Statement) → said_by first words ≡ Some s → IsWellMade s
unfolding said_by
said_made first words s e =
    either_some (bytes_eq first (codes ".flags")) _ _ IsWellMade s e (flags_made (number_left words) s)
    (λ e2. either_some (bytes_eq first (codes ".pages")) _ _ IsWellMade s e2 (pages_made (number_left words) s)
    (λ e3. either_some (bytes_eq first (codes ".entry")) _ _ IsWellMade s e3 (entry_made words s) (code_left_made first words s)))

line_made : (words : List (List ℕ)) (o : Option Statement) → said_in words ≡ o → IsWellMade (unwrap_or o Unread)
unfolding said_in
line_made words None e = tt
line_made words (Some s) e =
    let w = bind_some (word_at words) (λ first. said_by first.0 first.1) s e in
    said_made w.0.0 w.0.1 s w.2

either_made : (b : Bool) (s t : Statement) → IsWellMade s → IsWellMade t → IsWellMade (cond b s t)
either_made true s t f g = f
either_made false s t f g = g

statement_made : (line : List ℕ) → IsWellMade (statement_of line)
unfolding statement_of
statement_made line =
    either_made (is_skipped line) Nothing _ tt
    (either_made (is_label line) (Label (take (length line - 1) line)) _ tt (line_made (words_of line) (said_in (words_of line)) refl))

unended_made : (piece : List ℕ) → AllByRecursion IsWellMade (unended piece)
unended_made [] = tt
unended_made (b ∷ bytes) = (tt, tt)

pieces_made : (pieces : List (List ℕ)) → AllByRecursion IsWellMade (statements_in pieces)
pieces_made [] = tt
pieces_made (piece ∷ []) = unended_made piece
pieces_made (piece ∷ next ∷ pieces) = (statement_made piece, pieces_made (next ∷ pieces))

pub are_well_made : (text : List ℕ) → AllByRecursion IsWellMade (statements_of text)
unfolding statements_of
are_well_made text = pieces_made (pieces_of text)
