-- A word or an instruction that is read is the one that is spelled there, and back.
use Rattle.std.proofs.Common.{◌≡◌, ℕ, ◌+◌, ◌^◌, ◌<◌, ◌≤◌, List, [], ◌∷◌, ◌++◌, length, take, drop, get_or, refl, sym, ap, ◌∙◌, arith}
use Rattle.std.specs.Int.{w32, from_le_bytes}
use Rattle.std.specs.List.{flat_map}
use Rattle.std.proofs.lemmas.List.{append-nil, append_assoc, take_more}
use Rattle.std.proofs.lemmas.Grind.{flat_map-append}
use Rattle.byteorder.specs.Endian.{little_number}
use Rattle.byteorder.specs.Numbers.{little_number-reads_back}
use Rattle.base.proofs.Numbers.{IsBytes, u32_back}
use Rattle.ta_isa.specs.declared.image.Instr.{Instr}
use Rattle.ta_isa.specs.Spelling.{word, instruction}
use Rattle.ta_isa.specs.Reading.{word_at, front_instruction}

-- byteorder's number is std's
little-is : (bytes : List ℕ) → little_number 4 bytes ≡ from_le_bytes w32 bytes
little-is bytes = omega arith

-- the word at a place is spelled there
pub word-back : (bytes : List ℕ) (place after : ℕ) → IsBytes bytes → place + 4 ≡ after → after ≤ length bytes → word (word_at place bytes) ++ drop after bytes ≡ drop place bytes
unfolding word_at
word-back bytes place after fits e len =
    ap (λ (n : ℕ). word n ++ drop after bytes) (little-is (drop place bytes))
    ∙ u32_back place bytes (drop after bytes) (omega arith) fits (ap (λ (n : ℕ). drop n bytes) (sym e))

-- a number of four bytes is read from its spelling
pub word-again : (n : ℕ) → n < 2 ^ 32 → little_number 4 (word n) ≡ n
word-again n lt = little_number-reads_back 4 n [] (omega arith)

-- the instruction in front is spelled there
pub instruction-front : (bytes : List ℕ) → IsBytes bytes → 8 ≤ length bytes → instruction (front_instruction bytes) ++ drop 8 bytes ≡ bytes
unfolding front_instruction
instruction-front [] fits len = absurd (omega arith)
instruction-front (a ∷ []) fits len = absurd (omega arith)
instruction-front (a ∷ b ∷ []) fits len = absurd (omega arith)
instruction-front (a ∷ b ∷ c ∷ []) fits len = absurd (omega arith)
instruction-front (a ∷ b ∷ c ∷ d ∷ rest) fits len =
    ap (λ (ys : List ℕ). a ∷ b ∷ c ∷ d ∷ ys) (word-back (a ∷ b ∷ c ∷ d ∷ rest) 4 8 fits refl len)

-- an instruction is read from its spelling
pub instruction-again : (i : Instr) (rest : List ℕ) → i.imm < 2 ^ 32 → front_instruction (instruction i ++ rest) ≡ i
unfolding front_instruction word_at
instruction-again i rest lt =
    let with_imm : ℕ → Instr = λ n. record { op = i.op; d = i.d; a = i.a; b = i.b; imm = n } in
    ap with_imm (word-again i.imm lt)

-- what has been put in front of one more, and that one
pub put_next : {X : Type 0} (put : X → List ℕ) (xs : List X) (number : ℕ) (x d : X) (before bytes after : List ℕ) → number < length xs → x ≡ get_or xs number d
    → bytes ≡ before ++ flat_map put (take number xs) → after ≡ bytes ++ put x → after ≡ before ++ flat_map put (take (number + 1) xs)
put_next {X = X} put xs number x d before bytes after lt is e f =
    let one : flat_map put (x ∷ []) ≡ put x = append-nil (put x) in
    let next : take (number + 1) xs ≡ take number xs ++ x ∷ [] = take_more xs number d lt ∙ ap (λ (y : X). take number xs ++ y ∷ []) (sym is) in
    f
    ∙ ap (λ (l : List ℕ). l ++ put x) e
    ∙ append_assoc before (flat_map put (take number xs)) (put x)
    ∙ ap (λ (l : List ℕ). before ++ (flat_map put (take number xs) ++ l)) (sym one)
    ∙ ap (λ (l : List ℕ). before ++ l) (sym (flat_map-append put (take number xs) (x ∷ [])))
    ∙ ap (λ (l : List X). before ++ flat_map put l) (sym next)
