-- What a loop over the instructions behind a header has read.
use Rattle.std.proofs.Common.{◌≡◌, ℕ, ◌+◌, ◌*◌, ◌-◌, ◌/◌, ◌<◌, true, false, List, [], ◌∷◌, ◌++◌, length, take, drop, map, Some, None, sym, ap, ◌∙◌, arith, length-drop, below_more}
use Rattle.std.specs.Prelude.{not}
use Rattle.std.specs.List.{range_with_len}
use Rattle.std.proofs.lemmas.List.{take_all}
use Rattle.std.proofs.lemmas.List.FromFn.{map-range_with_len_more}
use Rattle.ta_isa.specs.declared.image.Instr.{Instr}
use Rattle.ta_isa.specs.InstructionTable.{is_instruction}
use Rattle.ta_isa.specs.Reading.{front_instruction, instruction_at, code_of, first_bad}
use Rattle.ta_isa.proofs.Positions.{position-made, position-made_none}

-- the first instructions have been read, and none of them is bad
pub record IsReadTo (bytes : List ℕ) (count number : ℕ) (code : List Instr) : Type 0 where
  pub read : code ≡ map (instruction_at bytes) (range_with_len 0 number)
  pub good : (k : ℕ) → k < number → is_instruction count (instruction_at bytes k) ≡ true

-- the instructions of bytes whose length the count asks for
pub code_of-counted : (bytes : List ℕ) (count : ℕ) → length bytes ≡ 36 + 8 * count → code_of bytes ≡ map (instruction_at bytes) (range_with_len 0 count)
code_of-counted bytes count len =
    let e : (length bytes - 36) / 8 ≡ count = omega arith in
    ap (λ (n : ℕ). map (instruction_at bytes) (range_with_len 0 n)) e

-- what the loop reads from the rest of the bytes
pub instruction_at-rest : (bytes : List ℕ) (number : ℕ) (i : Instr) → i ≡ front_instruction (take (length bytes - (36 + 8 * number)) (drop (36 + 8 * number) bytes)) → i ≡ instruction_at bytes number
instruction_at-rest bytes number i e =
    e ∙ ap front_instruction (take_all (length bytes - (36 + 8 * number)) (drop (36 + 8 * number) bytes) (omega (arith, length-drop (36 + 8 * number) bytes)))

pub IsReadTo-none : (bytes : List ℕ) (count : ℕ) (code : List Instr) → code ≡ [] → IsReadTo bytes count 0 code
IsReadTo-none bytes count code e = record { read = e; good = λ k lt. absurd (omega arith) }

pub IsReadTo-more : (bytes : List ℕ) (count number : ℕ) (code : List Instr) (i : Instr) → IsReadTo bytes count number code → i ≡ instruction_at bytes number → true ≡ is_instruction count i → IsReadTo bytes count (number + 1) (code ++ i ∷ [])
IsReadTo-more bytes count number code i h e good =
    record {
      read = rw (h.read, e) (sym (map-range_with_len_more (instruction_at bytes) 0 number number (omega arith)));
      good = below_more _ _ h.good (ap (is_instruction count) (sym e) ∙ sym good);
    }

-- the first bad one
pub first_bad-met : (bytes : List ℕ) (count number : ℕ) (code : List Instr) (i : Instr) → length bytes ≡ 36 + 8 * count → number < count → IsReadTo bytes count number code → i ≡ instruction_at bytes number → false ≡ is_instruction count i → first_bad count (code_of bytes) ≡ Some number
first_bad-met bytes count number code i len lt h e bad =
    ap (first_bad count) (code_of-counted bytes count len)
    ∙ position-made (λ j. not (is_instruction count j)) (instruction_at bytes) count number lt (λ k below. ap not (h.good k below)) (ap not (ap (is_instruction count) (sym e) ∙ sym bad))

-- none is bad
pub first_bad-none : (bytes : List ℕ) (count : ℕ) (code : List Instr) → length bytes ≡ 36 + 8 * count → IsReadTo bytes count count code → first_bad count (code_of bytes) ≡ None
first_bad-none bytes count code len h =
    ap (first_bad count) (code_of-counted bytes count len)
    ∙ position-made_none (λ j. not (is_instruction count j)) (instruction_at bytes) count (λ k below. ap not (h.good k below))
