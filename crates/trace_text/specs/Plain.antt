-- Lines `smc` and `write` without a fault in their words, as they are read in one pass.
use Rattle.std.specs.Prelude.{◌≡◌, ℕ, ◌≤◌, List, [], ◌∷◌, codes, length, map, nat_lt, Bool, true, false, None}
use Rattle.std.specs.List.{list_all}
use Rattle.std.specs.Str.Parse.{digits_value}
use Rattle.text_lines.specs.Lines.{IsCutAt, is_skipped}
use Rattle.text_lines.specs.Words.{words_of}
use Rattle.trace_text.specs.declared.item.Item.{Item}
use Rattle.trace_text.specs.declared.item.Item.TheVariants as item
use Rattle.trace_text.specs.declared.item.Reg.{Reg}
use Rattle.trace_text.specs.declared.statement.Statement.TheVariants as says
use Rattle.trace_text.specs.Forms.{bytes, decimal, hexadecimal, is_decimal, is_hex, is_hexadecimal, is_register, register}
use Rattle.trace_text.specs.Limits.{SceneState, first_broken, lies_in_ram}
use Rattle.trace_text.specs.Reading.{are_digits}
use Rattle.trace_text.specs.Rules.{counts, is_text_byte, rules_at, said_in}

-- the first word of a line is a number of up to eight digits, and these bytes stand behind the space after it
pub record BeginsWithNumber (radix : ℕ) (line : List ℕ) (number : ℕ) (rest : List ℕ) : Type 0 where
  pub word : List ℕ
  pub cut : IsCutAt 32 line word rest
  pub digits : are_digits radix word ≡ true
  pub short : length word ≤ 8
  pub value : number ≡ digits_value radix word

-- it is a decimal number, and these bytes stand behind the space after it
pub record BeginsWithDecimal (line : List ℕ) (number : ℕ) (rest : List ℕ) : Type 0 where
  pub word : List ℕ
  pub cut : IsCutAt 32 line word rest
  pub form : is_decimal word ≡ true
  pub value : number ≡ decimal word

-- the words of a line are eight registers
pub record AreRegisters (line : List ℕ) (regs : List Reg) : Type 0 where
  pub text : list_all is_text_byte line ≡ true
  pub count : length (words_of line) ≡ 8
  pub filled : list_all (λ w. nat_lt 0 (length w)) (words_of line) ≡ true
  pub form : list_all is_register (words_of line) ≡ true
  pub value : regs ≡ map register (words_of line)

-- the words of a line `smc` are of their forms, and these are what they write
pub record IsPlain (line : List ℕ) (cpu steps : ℕ) (regs : List Reg) : Type 0 where
  pub cpu_word : List ℕ
  pub steps_word : List ℕ
  pub reg_words : List (List ℕ)
  pub words : words_of line ≡ codes "smc" ∷ cpu_word ∷ steps_word ∷ reg_words
  pub text : list_all is_text_byte line ≡ true
  pub told : is_skipped line ≡ false
  pub counted : counts 10 (words_of line) ≡ true
  pub cpu_form : is_decimal cpu_word ≡ true
  pub cpu_is : cpu ≡ decimal cpu_word
  pub steps_form : is_decimal steps_word ≡ true
  pub steps_is : steps ≡ decimal steps_word
  pub regs_form : list_all is_register reg_words ≡ true
  pub regs_are : regs ≡ map register reg_words

-- the words of a line `write` are of their forms, and these are what they write
pub record IsPlainWrite (line : List ℕ) (cpu addr : ℕ) (written : List ℕ) : Type 0 where
  pub cpu_word : List ℕ
  pub addr_word : List ℕ
  pub hex_word : List ℕ
  pub words : words_of line ≡ codes "write" ∷ cpu_word ∷ addr_word ∷ hex_word ∷ []
  pub text : list_all is_text_byte line ≡ true
  pub told : is_skipped line ≡ false
  pub counted : counts 3 (words_of line) ≡ true
  pub cpu_form : is_decimal cpu_word ≡ true
  pub cpu_is : cpu ≡ decimal cpu_word
  pub addr_form : is_hexadecimal 16 addr_word ≡ true
  pub addr_is : addr ≡ hexadecimal addr_word
  pub hex_form : is_hex hex_word ≡ true
  pub written_is : written ≡ bytes hex_word

-- a line `write` writes so with one of so many processors, into RAM
abbrev pub Writes : ℕ → List ℕ → Item → Type 0
Writes cpus line (item.Write cpu addr written) =
    IsPlainWrite line cpu addr written × (nat_lt cpu cpus ≡ true) × (lies_in_ram addr (length written) ≡ true)
Writes cpus line (item.Smc cpu steps regs) = ⊥
Writes cpus line (item.Enter cpu steps regs) = ⊥
Writes cpus line (item.Leave cpu) = ⊥
Writes cpus line (item.Show cpu addr len) = ⊥

-- a line keeps its rules, whether what a boot is given is open or not, and says this item
pub record SaysItem (scene : SceneState) (line : List ℕ) (i : Item) : Type 0 where
  pub kept : (natives : List (List ℕ)) (is_open : Bool) → first_broken (rules_at natives (record scene { is_open = is_open }) true line) ≡ None
  pub said : said_in line ≡ says.Item i
