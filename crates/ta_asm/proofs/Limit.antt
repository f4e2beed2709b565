-- A text with an instruction too many and a label in front of it: the label has no fault.
use Rattle.std.proofs.Common.{◌≡◌, ℕ, zero, suc, ◌+◌, ◌<◌, ◌≤◌, Bool, true, false, not, ◌&&◌, eqb, ltb, List, [], ◌∷◌, ◌++◌, length, drop, Option, Some, None, refl, sym, ap, subst, ◌∙◌, arith, length-append, append_assoc, zero-add}
use Rattle.std.proofs.Math.ListN.{replicate}
use Rattle.std.proofs.Math.Seq.{drop-append_seam}
use Rattle.std.specs.Prelude.{codes}
use Rattle.std.specs.List.{list_all, list_any}
use Rattle.std.specs.Option.{option_or}
use Rattle.std.proofs.lemmas.Bool.{and_from, le-ltb, lt-ltb, not-true, or_right}
use Rattle.std.proofs.lemmas.List.{length-replicate}
use Rattle.std.proofs.lemmas.List.Elements.{All-from_recursion}
use Rattle.std.proofs.lemmas.List.Folds.{list_any-append}
use Rattle.ta_isa.specs.Examples.{instr}
use Rattle.ta_isa.specs.Spelling.{are_allowed}
use Rattle.ta_asm.specs.declared.fault.AsmFault.{AsmFault}
use Rattle.ta_asm.specs.declared.fault.AsmFault.TheVariants.{BadLine, UnknownLabel}
use Rattle.ta_asm.specs.declared.names.EntryPoint.TheVariants.{Create, Open, Invoke, Close, Destroy}
use Rattle.ta_asm.specs.declared.statement.Statement.{Statement}
use Rattle.ta_asm.specs.declared.statement.Statement.TheVariants.{Flags, Pages, Entry, Label, Code}
use Rattle.ta_asm.specs.Canonical.{text_of}
use Rattle.ta_asm.specs.Examples.{header, many}
use Rattle.ta_asm.specs.Grammar.{IsFirstFault, Program, added, definition, definition_from, first_broken, has_header, is_instruction_line, line_rules, no_program}
use Rattle.text_lines.specs.Lines.{is_skipped}
use Rattle.ta_asm.specs.Lines.{code_at, code_left, entry_at, entry_left, immediate_at, is_label, number_left, operand_at, operation_at, said_by, said_in, statement_of, statements_of}
use Rattle.ta_asm.specs.Words.{decimal_at, digits_at, is_name, number_at, register_at}
use Rattle.ta_asm.proofs.Definitions.{at}
use Rattle.ta_asm.proofs.Meanings.{fault_from, first-fault-read}
use Rattle.ta_asm.proofs.Texts.{first_statement}
use Rattle.ta_asm.proofs.Told.{label_kept}
use Rattle.ta_asm.proofs.Written.{no_byte}

-- ---- lines

-- what the lines of a header say, and lines behind them
abbrev pub behind : List Statement → List Statement
behind rest =
    Flags 0 ∷ Pages 1 ∷ Entry Create (codes "A") ∷ Entry Open (codes "A") ∷ Entry Invoke (codes "A") ∷ Entry Close (codes "A") ∷ Entry Destroy (codes "A") ∷ rest

abbrev pub a : Statement
a = Label (codes "A")

abbrev b : Statement
b = Label (codes "B")

abbrev ret : Statement
ret = Code (instr 0x17 0 0 0 0) None

-- what all lines of the text say
abbrev said : ℕ → List Statement
said count = behind (a ∷ (replicate count ret ++ b ∷ ret ∷ []))

abbrev is_within_line : ℕ → Bool
is_within_line byte = not (eqb byte 10)

-- lines, in front of a text
abbrev joined : List (List ℕ) → List ℕ → List ℕ
joined [] after = after
joined (line ∷ lines) after = line ++ 10 ∷ joined lines after

line_told : (line after : List ℕ) → list_all is_within_line line ≡ true → statements_of (line ++ 10 ∷ after) ≡ statement_of line ∷ statements_of after
line_told line after plain =
    first_statement (line ++ 10 ∷ after) line after (All-from_recursion (λ byte. eqb byte 10 ≡ false) line (no_byte is_within_line 10 (λ byte. not-true (eqb byte 10)) line plain), refl)

rets_told : (count : ℕ) (after : List ℕ) → statements_of (text_of (replicate count (codes "ret" ∷ [])) ++ after) ≡ replicate count ret ++ statements_of after
unfolding code_at code_left entry_at entry_left immediate_at is_label is_skipped number_left operand_at operation_at said_by said_in statement_of decimal_at digits_at is_name number_at register_at
rets_told zero after = refl
rets_told (suc count) after =
    line_told (codes "ret") (text_of (replicate count (codes "ret" ∷ [])) ++ after) refl ∙ ap (λ (rest : List Statement). ret ∷ rest) (rets_told count after)

end_told : statements_of (codes "B:\nret\n") ≡ b ∷ ret ∷ []
unfolding code_at code_left entry_at entry_left immediate_at is_label is_skipped number_left operand_at operation_at said_by said_in statement_of statements_of decimal_at digits_at is_name number_at register_at
end_told = refl

header_told : (after : List ℕ) → statements_of (header ++ (codes "A:\n" ++ after)) ≡ behind (a ∷ statements_of after)
unfolding code_at code_left entry_at entry_left immediate_at is_label is_skipped number_left operand_at operation_at said_by said_in statement_of decimal_at digits_at is_name number_at register_at
header_told after =
    let entry = λ (name : List ℕ). codes ".entry " ++ name ++ codes " A" in
    line_told (codes ".flags 0") (joined (codes ".pages 1" ∷ entry (codes "create") ∷ entry (codes "open") ∷ entry (codes "invoke") ∷ entry (codes "close") ∷ entry (codes "destroy") ∷ codes "A:" ∷ []) after) refl
    ∙ ap (λ (ss : List Statement). Flags 0 ∷ ss) (line_told (codes ".pages 1") (joined (entry (codes "create") ∷ entry (codes "open") ∷ entry (codes "invoke") ∷ entry (codes "close") ∷ entry (codes "destroy") ∷ codes "A:" ∷ []) after) refl
    ∙ ap (λ (ss : List Statement). Pages 1 ∷ ss) (line_told (entry (codes "create")) (joined (entry (codes "open") ∷ entry (codes "invoke") ∷ entry (codes "close") ∷ entry (codes "destroy") ∷ codes "A:" ∷ []) after) refl
    ∙ ap (λ (ss : List Statement). Entry Create (codes "A") ∷ ss) (line_told (entry (codes "open")) (joined (entry (codes "invoke") ∷ entry (codes "close") ∷ entry (codes "destroy") ∷ codes "A:" ∷ []) after) refl
    ∙ ap (λ (ss : List Statement). Entry Open (codes "A") ∷ ss) (line_told (entry (codes "invoke")) (joined (entry (codes "close") ∷ entry (codes "destroy") ∷ codes "A:" ∷ []) after) refl
    ∙ ap (λ (ss : List Statement). Entry Invoke (codes "A") ∷ ss) (line_told (entry (codes "close")) (joined (entry (codes "destroy") ∷ codes "A:" ∷ []) after) refl
    ∙ ap (λ (ss : List Statement). Entry Close (codes "A") ∷ ss) (line_told (entry (codes "destroy")) (joined (codes "A:" ∷ []) after) refl
    ∙ ap (λ (ss : List Statement). Entry Destroy (codes "A") ∷ ss) (line_told (codes "A:") after refl)))))))

text_told : (count : ℕ) → statements_of (header ++ many count) ≡ said count
text_told count =
    header_told (text_of (replicate count (codes "ret" ∷ [])) ++ codes "B:\nret\n")
    ∙ ap (λ (rest : List Statement). behind (a ∷ rest)) (rets_told count (codes "B:\nret\n") ∙ ap (λ (rest : List Statement). replicate count ret ++ rest) end_told)

-- ---- faults

kept_line : (all : List Statement) (before : Program) (line : ℕ) (s : Statement) (rest : List Statement) (o : Option AsmFault) → first_broken (line_rules all before line s) ≡ None
    → fault_from all (added all before s) (line + 1) rest ≡ o → fault_from all before line (s ∷ rest) ≡ o
kept_line all before line s rest o kept later = ap (λ (here : Option AsmFault). option_or here (fault_from all (added all before s) (line + 1) rest)) kept ∙ later

ret_kept : (all : List Statement) (before : Program) (line : ℕ) → has_header before ≡ true → length before.code < 8192 → first_broken (line_rules all before line ret) ≡ None
unfolding line_rules
ret_kept all before line complete room =
    ap (λ (t : Bool). first_broken ((BadLine line, t) ∷ (UnknownLabel line, true) ∷ [])) (and_from (has_header before) (ltb (length before.code) 8192) complete (lt-ltb (length before.code) 8192 room))

ret_broken : (all : List Statement) (before : Program) (line : ℕ) → has_header before ≡ true → 8192 ≤ length before.code → first_broken (line_rules all before line ret) ≡ Some (BadLine line)
unfolding line_rules
ret_broken all before line complete full =
    ap (λ (t : Bool). first_broken ((BadLine line, t) ∷ (UnknownLabel line, true) ∷ [])) (ap (λ (t : Bool). t && ltb (length before.code) 8192) complete ∙ le-ltb (length before.code) 8192 full)

-- so many instructions for which there is room
rets_kept : (all : List Statement) (count : ℕ) (before : Program) (line : ℕ) (rest : List Statement) (o : Option AsmFault) → has_header before ≡ true → length before.code + count ≤ 8192
    → ((after : Program) → has_header after ≡ true → length after.code ≡ length before.code + count → fault_from all after (line + count) rest ≡ o)
    → fault_from all before line (replicate count ret ++ rest) ≡ o
rets_kept all zero before line rest o complete few later =
    let same : line + 0 ≡ line = omega arith in
    subst (λ (n : ℕ). fault_from all before n rest ≡ o) same (later before complete (omega arith))
rets_kept all (suc count) before line rest o complete few later =
    kept_line all before line ret (replicate count ret ++ rest) o (ret_kept all before line complete (omega (arith, few)))
    (rets_kept all count (added all before ret) (line + 1) rest o complete (omega (arith, few, length-append before.code (instr 0x17 0 0 0 0 ∷ [])))
    (λ after kept len.
    let same : line + suc count ≡ line + 1 + count = omega arith in
    subst (λ (n : ℕ). fault_from all after n rest ≡ o) same (later after kept (omega (arith, len, length-append before.code (instr 0x17 0 0 0 0 ∷ []))))))

b_defined : (count line place : ℕ) → definition_from (codes "B") line place (replicate count ret ++ b ∷ ret ∷ []) ≡ Some (at (line + count) (place + count))
b_defined zero line place =
    let lines : line ≡ line + 0 = omega arith in
    let places : place ≡ place + 0 = omega arith in
    ap (λ (n : ℕ). Some (at n place)) lines ∙ ap (λ (n : ℕ). Some (at (line + 0) n)) places
b_defined (suc count) line place =
    let lines : line + 1 + count ≡ line + suc count = omega arith in
    let places : place + 1 + count ≡ place + suc count = omega arith in
    b_defined count (line + 1) (place + 1) ∙ ap (λ (n : ℕ). Some (at n (place + 1 + count))) lines ∙ ap (λ (n : ℕ). Some (at (line + suc count) n)) places

-- what stands behind the line of B
behind_b : (count : ℕ) → drop (9 + count) (said count) ≡ ret ∷ []
behind_b count =
    let front : List Statement = behind (a ∷ (replicate count ret ++ b ∷ [])) in
    let parts : said count ≡ front ++ ret ∷ [] = ap (λ (rest : List Statement). behind (a ∷ rest)) (sym (append_assoc (replicate count ret) (b ∷ []) (ret ∷ []))) in
    let lines : length front ≡ 9 + count = omega (arith, length-append (replicate count ret) (b ∷ []), length-replicate count ret) in
    subst (λ (n : ℕ). drop n (said count) ≡ ret ∷ []) lines (ap (drop (length front)) parts ∙ drop-append_seam front (ret ∷ []))

b_found : (count : ℕ) → definition (said count) (codes "B") ≡ Some (at (9 + count) count)
unfolding definition
b_found count = b_defined count 9 0 ∙ ap (λ (n : ℕ). Some (at (9 + count) n)) (zero-add count)

a_found : (count : ℕ) → definition (said count) (codes "A") ≡ Some (at 8 0)
unfolding definition
a_found count = refl

end_faulty : (count : ℕ) (after : Program) → has_header after ≡ true → 8192 ≤ length after.code → fault_from (said count) after (9 + count) (b ∷ ret ∷ []) ≡ Some (BadLine (9 + count + 1))
end_faulty count after complete full =
    kept_line (said count) after (9 + count) b (ret ∷ []) (Some (BadLine (9 + count + 1)))
    (label_kept (said count) after (9 + count) (codes "B") (ret ∷ []) count complete (behind_b count) refl (b_found count))
    (ap (λ (here : Option AsmFault). option_or here (fault_from (said count) (added (said count) after ret) (9 + count + 1 + 1) [])) (ret_broken (said count) after (9 + count + 1) complete full))

-- the program of the header
abbrev started : Program
started = record { parts = 7; flags = 0; pages = 1; entries = 0 ∷ 0 ∷ 0 ∷ 0 ∷ 0 ∷ []; code = [] }

header_kept : (count : ℕ) → fault_from (said count) no_program 1 (said count) ≡ fault_from (said count) started 8 (a ∷ (replicate count ret ++ b ∷ ret ∷ []))
unfolding are_allowed definition line_rules
header_kept count = refl

first_fault : (count : ℕ) → count ≡ 8192 → fault_from (said count) no_program 1 (said count) ≡ Some (BadLine 8202)
first_fault count e =
    let all = said count in
    let rest : List Statement = replicate count ret ++ b ∷ ret ∷ [] in
    let followed : list_any is_instruction_line rest ≡ true = list_any-append is_instruction_line (replicate count ret) (b ∷ ret ∷ []) ∙ or_right (list_any is_instruction_line (replicate count ret)) true refl in
    let place : 9 + count + 1 ≡ 8202 = omega (arith, e) in
    header_kept count
    ∙ kept_line all started 8 a rest (Some (BadLine 8202)) (label_kept all started 8 (codes "A") rest 0 refl refl followed (a_found count))
    (rets_kept all count started 9 (b ∷ ret ∷ []) (Some (BadLine 8202)) refl (omega (arith, e))
    (λ after complete len. end_faulty count after complete (omega (arith, len, e)) ∙ ap (λ (n : ℕ). Some (BadLine n)) place))

pub too_many : (count : ℕ) → count ≡ 8192 → IsFirstFault (header ++ many count) (BadLine 8202)
too_many count e = first-fault-read (header ++ many count) (said count) (BadLine 8202) (text_told count) (first_fault count e)
