-- The lines that a play prints, and their text as bytes. This project's own.
use Rattle.std.specs.Prelude.{ℕ, List, [], ◌∷◌, ◌++◌, codes}
use Rattle.std.specs.Fmt.{decimal}
use Rattle.std.specs.Int.{w32, to_be_bytes}
use Rattle.std.specs.List.{flat_map}
use Rattle.hex.specs.Hex.{encode_lower}

-- a line that a play prints
pub data Line : Type 0 where
  -- a processor has gone out with these registers
  Ret : (cpu : ℕ) (regs : List ℕ) → Line
  -- these bytes stand at this address of a processor's RAM
  Mem : (cpu addr : ℕ) (bytes : List ℕ) → Line

-- a space, and a number of 32 bits in eight lower-case hexadecimal digits
abbrev pub register_text : ℕ → List ℕ
register_text register = 32 ∷ encode_lower (to_be_bytes w32 register)

-- `ret CPU A0 .. A7`
abbrev pub ret_line : ℕ → List ℕ → List ℕ
ret_line cpu regs = codes "ret " ++ decimal cpu ++ flat_map register_text regs ++ 10 ∷ []

-- `mem CPU ADDR HEX`, with the address in eight digits
abbrev pub mem_line : ℕ → ℕ → List ℕ → List ℕ
mem_line cpu addr bytes = codes "mem " ++ decimal cpu ++ register_text addr ++ 32 ∷ encode_lower bytes ++ 10 ∷ []

-- the text of a line
abbrev pub text_of_line : Line → List ℕ
text_of_line (Ret cpu regs) = ret_line cpu regs
text_of_line (Mem cpu addr bytes) = mem_line cpu addr bytes
