-- How an answer stands in the registers, by `optee_smc.h`. A register that has no value there is 0.
use Rattle.std.specs.Prelude.{ℕ, ◌/◌, ◌%◌, ◌^◌, List, [], ◌∷◌, ◌++◌, drop}
use Rattle.smc_abi.specs.declared.answer.Answer.{Answer}
use Rattle.smc_abi.specs.declared.answer.Answer.TheVariants.{Words, Alloc, Free, Cmd, Interrupt}

-- the halves of a number of 64 bits, the upper one first, and what follows them
abbrev pub pair : ℕ → List ℕ → List ℕ
pair n rest = n / 2 ^ 32 ∷ n % 2 ^ 32 ∷ rest

-- what a0 to a3 hold
abbrev pub words_of : Answer → List ℕ
words_of (Words a0 a1 a2 a3) = a0 ∷ a1 ∷ a2 ∷ a3 ∷ []
words_of (Alloc size thread) = 0xffff0000 ∷ size ∷ 0 ∷ thread ∷ []
words_of (Free cookie thread) = 0xffff0002 ∷ pair cookie (thread ∷ [])
words_of (Cmd cookie thread) = 0xffff0005 ∷ pair cookie (thread ∷ [])
words_of (Interrupt thread) = 0xffff0004 ∷ 0 ∷ 0 ∷ thread ∷ []

-- the eight registers after a call: the answer, then a4 to a7 as the caller left them
abbrev pub registers_of : Answer → List ℕ → List ℕ
registers_of answer caller = words_of answer ++ drop 4 caller
