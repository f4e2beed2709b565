-- A valid image is read from its spelling.
use Rattle.std.proofs.Common.{◌≡◌, ℕ, zero, suc, ◌+◌, ◌*◌, ◌-◌, ◌/◌, ◌^◌, ◌<◌, ◌≤◌, true, List, [], ◌∷◌, ◌++◌, length, get_or, drop, map, length-append, None, Ok, refl, sym, ap, subst, ◌∙◌, arith}
use Rattle.std.specs.Prelude.{nat_eq, nat_le, not, position}
use Rattle.std.specs.List.{flat_map, range_with_len, starts_with}
use Rattle.std.specs.Option.{option_map}
use Rattle.std.proofs.Math.Seq.{drop-append-add}
use Rattle.std.proofs.lemmas.Bool.{le-ltb, lt-leb, eq-eqb, ne_eqb, eqb-true}
use Rattle.std.proofs.lemmas.List.FromFn.{fill_by_all}
use Rattle.std.proofs.lemmas.Nat.{and_le_l}
use Rattle.ta_isa.specs.declared.image.Instr.{Instr}
use Rattle.ta_isa.specs.declared.image.Image.{Image}
use Rattle.ta_isa.specs.declared.image_fault.ImageFault.TheVariants.{BadHeader, TooLarge, BadEntry}
use Rattle.ta_isa.specs.InstructionTable.{is_instruction}
use Rattle.ta_isa.specs.Spelling.{are_allowed, IsValid, magic_bytes, word, instruction, spelling}
use Rattle.ta_isa.specs.Reading.{word_at, front_instruction, instruction_at, count_of, entries_of, code_of, image_of, first_bad, header_fault, decoded}
use Rattle.byteorder.specs.Endian.{little_number}
use Rattle.ta_isa.proofs.Decoded.{decoded-good_header}
use Rattle.ta_isa.proofs.Words.{word-again, instruction-again}
use Rattle.ta_isa.proofs.Instructions.{is_instruction-fields}
use Rattle.ta_isa.proofs.Faults.{passed, neither}
use Rattle.ta_isa.proofs.Positions.{position-none}

-- flags that an image may have are a number of four bytes
are_allowed-below : (flags : ℕ) → are_allowed flags ≡ true → flags < 2 ^ 32
unfolding are_allowed
are_allowed-below flags e = omega (arith, and_le_l 0x1c flags, eqb-true _ flags e)

-- an image whose five entry points are written out
abbrev made : ℕ → ℕ → ℕ → ℕ → ℕ → ℕ → ℕ → List Instr → Image
made flags pages a b c d e code = record { flags = flags; pages = pages; entries = a ∷ b ∷ c ∷ d ∷ e ∷ []; code = code }

-- what stands in front of the instructions
abbrev front : ℕ → ℕ → ℕ → ℕ → ℕ → ℕ → ℕ → ℕ → List ℕ
front flags pages n a b c d e = magic_bytes ++ word flags ++ word pages ++ word n ++ flat_map word (a ∷ b ∷ c ∷ d ∷ e ∷ [])

length-instructions : (code : List Instr) → length (flat_map instruction code) ≡ 8 * length code
length-instructions [] = refl
length-instructions (i ∷ code) = let h = length-instructions code in omega arith

-- the instruction of a number stands at its place
instructions-again : (code : List Instr) (k : ℕ) (d : Instr) → ((j : ℕ) → j < length code → (get_or code j d).imm < 2 ^ 32) → k < length code → front_instruction (drop (8 * k) (flat_map instruction code)) ≡ get_or code k d
instructions-again [] k d fits lt = absurd (omega arith)
instructions-again (i ∷ code) zero d fits lt = instruction-again i (flat_map instruction code) (fits 0 lt)
instructions-again (i ∷ code) (suc k) d fits lt =
    let places : 8 * suc k ≡ length (instruction i) + 8 * k = omega arith in
    let next : drop (8 * suc k) (instruction i ++ flat_map instruction code) ≡ drop (8 * k) (flat_map instruction code) = ap (λ (n : ℕ). drop n (instruction i ++ flat_map instruction code)) places ∙ drop-append-add (instruction i) (flat_map instruction code) (8 * k) in
    ap front_instruction next ∙ instructions-again code k d (λ j below. fits (suc j) (omega arith)) (omega arith)

abbrev no_instruction : Instr
no_instruction = record { op = 0; d = 0; a = 0; b = 0; imm = 0 }

-- the instructions behind a header of 36 bytes
code-again : (head : List ℕ) (code : List Instr) → length head ≡ 36 → ((j : ℕ) (d : Instr) → j < length code → (get_or code j d).imm < 2 ^ 32) → code_of (head ++ flat_map instruction code) ≡ code
code-again head code len fits =
    let bytes : List ℕ = head ++ flat_map instruction code in
    let count : (length bytes - 36) / 8 ≡ length code = omega (arith, length-append head (flat_map instruction code), length-instructions code) in
    let place : (k : ℕ) → drop (36 + 8 * k) bytes ≡ drop (8 * k) (flat_map instruction code) = λ k. ap (λ (n : ℕ). drop n bytes) (omega arith) ∙ drop-append-add head (flat_map instruction code) (8 * k) in
    let each : (k : ℕ) → k < length code → get_or code k no_instruction ≡ instruction_at bytes k = λ k lt. sym (ap front_instruction (place k) ∙ instructions-again code k no_instruction (λ j below. fits j no_instruction below) lt) in
    ap (λ (n : ℕ). map (instruction_at bytes) (range_with_len 0 n)) count
    ∙ sym (fill_by_all (instruction_at bytes) code (length code) no_instruction refl each)

-- the words of a header are those of the image
record ReadsHeader (image : Image) (bytes : List ℕ) : Type 0 where
  flags : word_at 4 bytes ≡ image.flags
  pages : word_at 8 bytes ≡ image.pages
  count : count_of bytes ≡ length image.code
  entries : entries_of bytes ≡ image.entries

header-again : (flags pages a b c d e : ℕ) (code : List Instr) → flags < 2 ^ 32 → pages < 2 ^ 32 → length code < 2 ^ 32 → a < 2 ^ 32 → b < 2 ^ 32 → c < 2 ^ 32 → d < 2 ^ 32 → e < 2 ^ 32 → ReadsHeader (made flags pages a b c d e code) (spelling (made flags pages a b c d e code))
unfolding word_at
header-again flags pages a b c d e code hflags hpages hn ha hb hc hd he =
    record {
      flags = word-again flags hflags;
      pages = word-again pages hpages;
      count = word-again (length code) hn;
      entries =
          ap (λ (n : ℕ). n ∷ little_number 4 (word b) ∷ little_number 4 (word c) ∷ little_number 4 (word d) ∷ little_number 4 (word e) ∷ []) (word-again a ha)
          ∙ ap (λ (n : ℕ). a ∷ n ∷ little_number 4 (word c) ∷ little_number 4 (word d) ∷ little_number 4 (word e) ∷ []) (word-again b hb)
          ∙ ap (λ (n : ℕ). a ∷ b ∷ n ∷ little_number 4 (word d) ∷ little_number 4 (word e) ∷ []) (word-again c hc)
          ∙ ap (λ (n : ℕ). a ∷ b ∷ c ∷ n ∷ little_number 4 (word e) ∷ []) (word-again d hd)
          ∙ ap (λ (n : ℕ). a ∷ b ∷ c ∷ d ∷ n ∷ []) (word-again e he);
    }

-- the header of a valid image has no fault
header-none : (image : Image) (bytes : List ℕ) → IsValid image → ReadsHeader image bytes → starts_with nat_eq bytes magic_bytes ≡ true → length bytes ≡ 36 + 8 * length image.code → header_fault bytes ≡ None
header-none image bytes valid reads magic len =
    let count = reads.count in
    let pages = reads.pages in
    let some_page = valid.some_page in
    let most_pages = valid.most_pages in
    let some_instruction = valid.some_instruction in
    let most_instructions = valid.most_instructions in
    let no_entry : position (nat_le (count_of bytes)) (entries_of bytes) ≡ None =
    ap (λ (n : ℕ). position (nat_le n) (entries_of bytes)) count
    ∙ ap (position (nat_le (length image.code))) reads.entries
    ∙ position-none (nat_le (length image.code)) image.entries 0 (λ k lt. lt-leb (length image.code) (get_or image.entries k 0) (valid.entries k 0 lt)) in
    passed _ (BadHeader 0) _ (neither _ _ (le-ltb (length bytes) 36 (omega arith)) (ap not magic))
    (passed _ (BadHeader 1) _ (ap not (ap are_allowed reads.flags ∙ valid.flags))
    (passed _ (BadHeader 2) _ (neither _ _ (ne_eqb (word_at 8 bytes) 0 (λ e. omega arith)) (le-ltb 64 (word_at 8 bytes) (omega arith)))
    (passed _ TooLarge _ (le-ltb 8192 (count_of bytes) (omega arith))
    (passed _ (BadHeader 3) _ (neither _ _ (ne_eqb (count_of bytes) 0 (λ e. omega arith)) (ap not (eq-eqb (length bytes) (36 + 8 * count_of bytes) (omega arith))))
    (ap (option_map BadEntry) no_entry)))))

-- no instruction of a valid image is bad
code-none : (image : Image) (bytes : List ℕ) → IsValid image → count_of bytes ≡ length image.code → code_of bytes ≡ image.code → first_bad (count_of bytes) (code_of bytes) ≡ None
code-none image bytes valid count code =
    ap (λ (n : ℕ). first_bad n (code_of bytes)) count
    ∙ ap (first_bad (length image.code)) code
    ∙ position-none (λ i. not (is_instruction (length image.code) i)) image.code no_instruction (λ k lt. ap not (valid.code k no_instruction lt))

decoded-again : (image : Image) (bytes : List ℕ) → IsValid image → ReadsHeader image bytes → starts_with nat_eq bytes magic_bytes ≡ true → length bytes ≡ 36 + 8 * length image.code → code_of bytes ≡ image.code → decoded bytes ≡ Ok image
decoded-again image bytes valid reads magic len code =
    let is_image : image_of bytes ≡ image =
    ap (λ (n : ℕ). record { flags = n; pages = word_at 8 bytes; entries = entries_of bytes; code = code_of bytes }) reads.flags
    ∙ ap (λ (n : ℕ). record { flags = image.flags; pages = n; entries = entries_of bytes; code = code_of bytes }) reads.pages
    ∙ ap (λ (es : List ℕ). record { flags = image.flags; pages = image.pages; entries = es; code = code_of bytes }) reads.entries
    ∙ ap (λ (is : List Instr). record { flags = image.flags; pages = image.pages; entries = image.entries; code = is }) code in
    decoded-good_header bytes None (header-none image bytes valid reads magic len) (code-none image bytes valid reads.count code)
    ∙ ap (λ (i : Image). Ok i) is_image

-- the same at entry points that are written out
made-again : (flags pages a b c d e : ℕ) (code : List Instr) → IsValid (made flags pages a b c d e code) → decoded (spelling (made flags pages a b c d e code)) ≡ Ok (made flags pages a b c d e code)
made-again flags pages a b c d e code valid =
    let most : length code ≤ 8192 = valid.most_instructions in
    let most_pages : pages ≤ 64 = valid.most_pages in
    let below : (k : ℕ) → k < 5 → get_or (a ∷ b ∷ c ∷ d ∷ e ∷ []) k 0 < length code = λ k lt. valid.entries k 0 lt in
    let ha : a < length code = below 0 (omega arith) in
    let hb : b < length code = below 1 (omega arith) in
    let hc : c < length code = below 2 (omega arith) in
    let hd : d < length code = below 3 (omega arith) in
    let he : e < length code = below 4 (omega arith) in
    let head : List ℕ = front flags pages (length code) a b c d e in
    let reads = header-again flags pages a b c d e code (are_allowed-below flags valid.flags) (omega arith) (omega arith) (omega arith) (omega arith) (omega arith) (omega arith) (omega arith) in
    decoded-again (made flags pages a b c d e code) (spelling (made flags pages a b c d e code)) valid reads refl
    (omega (arith, length-append head (flat_map instruction code), length-instructions code))
    (code-again head code refl (λ j i lt. (is_instruction-fields (length code) (get_or code j i) (omega arith) (valid.code j i lt)).imm))

five : (xs : List ℕ) → length xs ≡ 5 → xs ≡ get_or xs 0 0 ∷ get_or xs 1 0 ∷ get_or xs 2 0 ∷ get_or xs 3 0 ∷ get_or xs 4 0 ∷ []
five [] len = absurd (omega arith)
five (a ∷ []) len = absurd (omega arith)
five (a ∷ b ∷ []) len = absurd (omega arith)
five (a ∷ b ∷ c ∷ []) len = absurd (omega arith)
five (a ∷ b ∷ c ∷ d ∷ []) len = absurd (omega arith)
five (a ∷ b ∷ c ∷ d ∷ e ∷ []) len = refl
five (a ∷ b ∷ c ∷ d ∷ e ∷ f ∷ xs) len = absurd (omega arith)

-- a valid image is what its spelling is read as
pub spelling-again : (image : Image) → IsValid image → decoded (spelling image) ≡ Ok image
spelling-again image valid =
    let es : List ℕ = image.entries in
    let e : image ≡ made image.flags image.pages (get_or es 0 0) (get_or es 1 0) (get_or es 2 0) (get_or es 3 0) (get_or es 4 0) image.code =
    ap (λ (xs : List ℕ). record { flags = image.flags; pages = image.pages; entries = xs; code = image.code }) (five es valid.five_entries) in
    subst (λ (i : Image). decoded (spelling i) ≡ Ok i) (sym e)
    (made-again image.flags image.pages (get_or es 0 0) (get_or es 1 0) (get_or es 2 0) (get_or es 3 0) (get_or es 4 0) image.code (subst IsValid e valid))
