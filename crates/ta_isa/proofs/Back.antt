-- Bytes without a fault spell the image that they are read as, and it is valid.
use Rattle.std.proofs.Common.{◌≡◌, ℕ, zero, suc, ◌+◌, ◌*◌, ◌-◌, ◌/◌, ◌≤◌, true, false, eqb, List, ◌++◌, length, drop, map, Option, Some, None, Result, inl, inr, refl, sym, ap, subst, ◌∙◌, arith, length-drop}
use Rattle.std.specs.Prelude.{nat_eq, not, position, nat_le, IfOk}
use Rattle.std.specs.List.{flat_map, range_with_len, starts_with}
use Rattle.std.specs.Option.{option_map}
use Rattle.std.proofs.Math.ListN.{drop_of_length-le}
use Rattle.std.proofs.lemmas.Bool.{not-false, ltb-false, leb-false, eqb-true}
use Rattle.std.proofs.lemmas.Bool.Decides.{Decides-eqb}
use Rattle.std.proofs.lemmas.List.{drop-drop}
use Rattle.std.proofs.lemmas.List.FromFn.{length-map-range_with_len}
use Rattle.std.proofs.lemmas.Slice.Eq.{starts_is}
use Rattle.ta_isa.specs.declared.image.Image.{Image}
use Rattle.ta_isa.specs.declared.image_fault.ImageFault.{ImageFault}
use Rattle.ta_isa.specs.declared.image_fault.ImageFault.TheVariants.{BadHeader, TooLarge, BadEntry, BadOp}
use Rattle.ta_isa.specs.InstructionTable.{is_instruction}
use Rattle.ta_isa.specs.Spelling.{are_allowed, IsValid, magic_bytes, word, instruction, spelling}
use Rattle.ta_isa.specs.Reading.{word_at, instruction_at, count_of, entries_of, code_of, image_of, first_bad, header_fault, fault_of, answer, decoded, IsUnlessMemory}
use Rattle.base.proofs.Numbers.{IsBytes, IsBytes-drop}
use Rattle.ta_isa.proofs.Words.{word-back, instruction-front}
use Rattle.ta_isa.proofs.Faults.{passed_back, neither_back, no_first, no_number, position-none_back}

-- the instructions from one on
instructions-back : (bytes : List ℕ) (a n : ℕ) → IsBytes bytes → length bytes ≡ 36 + 8 * (a + n) → flat_map instruction (map (instruction_at bytes) (range_with_len a n)) ≡ drop (36 + 8 * a) bytes
instructions-back bytes a zero fits len = sym (drop_of_length-le bytes {i = 36 + 8 * a} (omega arith))
instructions-back bytes a (suc n) fits len =
    let rest : flat_map instruction (map (instruction_at bytes) (range_with_len (a + 1) n)) ≡ drop (36 + 8 * (a + 1)) bytes = instructions-back bytes (a + 1) n fits (omega arith) in
    let next : drop (36 + 8 * (a + 1)) bytes ≡ drop 8 (drop (36 + 8 * a) bytes) = ap (λ (k : ℕ). drop k bytes) (omega arith) ∙ sym (drop-drop 8 (36 + 8 * a) bytes) in
    ap (λ (ys : List ℕ). instruction (instruction_at bytes a) ++ ys) (rest ∙ next)
    ∙ instruction-front (drop (36 + 8 * a) bytes) (IsBytes-drop (36 + 8 * a) bytes fits) (omega (arith, length-drop (36 + 8 * a) bytes))

above_zero : (n : ℕ) → eqb n 0 ≡ false → 1 ≤ n
above_zero zero e = absurd cc
above_zero (suc n) e = omega arith

-- what a header without a fault says
pub record IsHeader (bytes : List ℕ) : Type 0 where
  pub long : 36 ≤ length bytes
  pub magic : starts_with nat_eq bytes magic_bytes ≡ true
  pub flags : are_allowed (word_at 4 bytes) ≡ true
  pub some_page : 1 ≤ word_at 8 bytes
  pub most_pages : word_at 8 bytes ≤ 64
  pub most_instructions : count_of bytes ≤ 8192
  pub some_instruction : 1 ≤ count_of bytes
  pub len : length bytes ≡ 36 + 8 * count_of bytes
  pub entries : position (nat_le (count_of bytes)) (entries_of bytes) ≡ None

IsHeader-none : (bytes : List ℕ) → header_fault bytes ≡ None → IsHeader bytes
IsHeader-none bytes none =
    let r0 = passed_back _ (BadHeader 0) _ none in
    let r1 = passed_back _ (BadHeader 1) _ r0.1 in
    let r2 = passed_back _ (BadHeader 2) _ r1.1 in
    let r3 = passed_back _ TooLarge _ r2.1 in
    let r4 = passed_back _ (BadHeader 3) _ r3.1 in
    let cut = neither_back _ _ r0.0 in
    let pages = neither_back _ _ r2.0 in
    let count = neither_back _ _ r4.0 in
    record {
      long = ltb-false _ _ cut.0;
      magic = not-false _ cut.1;
      flags = not-false _ r1.0;
      some_page = above_zero (word_at 8 bytes) pages.0;
      most_pages = ltb-false _ _ pages.1;
      most_instructions = ltb-false _ _ r3.0;
      some_instruction = above_zero (count_of bytes) count.0;
      len = eqb-true _ _ (not-false _ count.1);
      entries = no_number BadEntry _ r4.1;
    }

length-code : (bytes : List ℕ) → length bytes ≡ 36 + 8 * count_of bytes → length (code_of bytes) ≡ count_of bytes
length-code bytes len = length-map-range_with_len (instruction_at bytes) 0 ((length bytes - 36) / 8) ∙ omega arith

code-back : (bytes : List ℕ) → IsBytes bytes → length bytes ≡ 36 + 8 * count_of bytes → flat_map instruction (code_of bytes) ≡ drop 36 bytes
code-back bytes fits len =
    let n : ℕ = (length bytes - 36) / 8 in
    instructions-back bytes 0 n fits (omega arith)

-- what was read is spelled in the bytes
pub spelling-back : (bytes : List ℕ) → IsBytes bytes → starts_with nat_eq bytes magic_bytes ≡ true → length bytes ≡ 36 + 8 * count_of bytes → spelling (image_of bytes) ≡ bytes
spelling-back bytes fits magic len =
    let at32 : word (word_at 32 bytes) ++ flat_map instruction (code_of bytes) ≡ drop 32 bytes = ap (λ (ys : List ℕ). word (word_at 32 bytes) ++ ys) (code-back bytes fits len) ∙ word-back bytes 32 36 fits (omega arith) (omega arith) in
    let at28 = ap (λ (ys : List ℕ). word (word_at 28 bytes) ++ ys) at32 ∙ word-back bytes 28 32 fits (omega arith) (omega arith) in
    let at24 = ap (λ (ys : List ℕ). word (word_at 24 bytes) ++ ys) at28 ∙ word-back bytes 24 28 fits (omega arith) (omega arith) in
    let at20 = ap (λ (ys : List ℕ). word (word_at 20 bytes) ++ ys) at24 ∙ word-back bytes 20 24 fits (omega arith) (omega arith) in
    let at16 = ap (λ (ys : List ℕ). word (word_at 16 bytes) ++ ys) at20 ∙ word-back bytes 16 20 fits (omega arith) (omega arith) in
    let at12 = ap (λ (ys : List ℕ). word (count_of bytes) ++ ys) at16 ∙ word-back bytes 12 16 fits (omega arith) (omega arith) in
    let at8 = ap (λ (ys : List ℕ). word (word_at 8 bytes) ++ ys) at12 ∙ word-back bytes 8 12 fits (omega arith) (omega arith) in
    let at4 = ap (λ (ys : List ℕ). word (word_at 4 bytes) ++ ys) at8 ∙ word-back bytes 4 8 fits (omega arith) (omega arith) in
    let whole : bytes ≡ magic_bytes ++ drop 4 bytes = (starts_is Decides-eqb bytes magic_bytes (starts_with nat_eq bytes magic_bytes) refl).0 magic in
    let spelled = ap (λ (ys : List ℕ). magic_bytes ++ ys) at4 ∙ sym whole in
    ap (λ (n : ℕ). magic_bytes ++ word (word_at 4 bytes) ++ word (word_at 8 bytes) ++ word n ++ flat_map word (entries_of bytes) ++ flat_map instruction (code_of bytes)) (length-code bytes len)
    ∙ spelled

-- what was read is valid
pub IsValid-back : (bytes : List ℕ) → IsHeader bytes → first_bad (count_of bytes) (code_of bytes) ≡ None → IsValid (image_of bytes)
IsValid-back bytes h none =
    let count : length (code_of bytes) ≡ count_of bytes = length-code bytes h.len in
    record {
      flags = h.flags;
      some_page = h.some_page;
      most_pages = h.most_pages;
      some_instruction = let e = h.some_instruction in omega arith;
      most_instructions = let e = h.most_instructions in omega arith;
      five_entries = refl;
      entries = λ k d lt. rw count (leb-false _ _ (position-none_back (nat_le (count_of bytes)) (entries_of bytes) k d h.entries lt));
      code = λ k d lt. rw count (not-false _ (position-none_back (λ i. not (is_instruction (count_of bytes) i)) (code_of bytes) k d none lt));
    }

-- what bytes without a fault are
pub record IsFound (bytes : List ℕ) (image : Image) : Type 0 where
  pub valid : IsValid image
  pub spelled : bytes ≡ spelling image

found-none : (bytes : List ℕ) → IsBytes bytes → fault_of bytes ≡ None → IsFound bytes (image_of bytes)
found-none bytes fits none =
    let parts = no_first (header_fault bytes) (option_map BadOp (first_bad (count_of bytes) (code_of bytes))) none in
    let header = IsHeader-none bytes parts.0 in
    record {
      valid = IsValid-back bytes header (no_number BadOp (first_bad (count_of bytes) (code_of bytes)) parts.1);
      spelled = sym (spelling-back bytes fits header.magic header.len);
    }

found-answer : (bytes : List ℕ) (fault : Option ImageFault) → (fault ≡ None → IsFound bytes (image_of bytes)) → IfOk (answer fault (image_of bytes)) (IsFound bytes)
found-answer bytes None h = h refl
found-answer bytes (Some fault) h = tt

-- what decoding answers, if not want of memory
pub found : (bytes : List ℕ) (result : Result Image ImageFault) → IsBytes bytes → IsUnlessMemory result (decoded bytes) → IfOk result (IsFound bytes)
found bytes result fits (inl e) =
    let P : Result Image ImageFault → Type 0 = λ r. IfOk r (IsFound bytes) in
    subst P (sym e) (found-answer bytes (fault_of bytes) (found-none bytes fits))
found bytes result fits (inr e) =
    let P : Result Image ImageFault → Type 0 = λ r. IfOk r (IsFound bytes) in
    subst P (sym e) tt
