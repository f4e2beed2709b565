-- The canonical text of an image: decimal numbers, and a label `Li:` in front of instruction i wherever i is an entry
-- point or a target.
use Rattle.std.specs.Prelude.{ℕ, ◌+◌, List, [], ◌∷◌, ◌++◌, codes, decimal, slice_index, Bool, false, ◌||◌, ◌==◌, if◌then◌else◌}
use Rattle.std.specs.List.{list_any}
use Rattle.std.specs.Option.{option_map_or}
use Rattle.ta_isa.specs.declared.image.Image.{Image}
use Rattle.ta_isa.specs.declared.image.Instr.{Instr}
use Rattle.ta_isa.specs.declared.row.Operand.{Operand}
use Rattle.ta_isa.specs.declared.row.Operand.TheVariants as operand
use Rattle.ta_isa.specs.declared.row.Immediate.{Immediate}
use Rattle.ta_isa.specs.declared.row.Immediate.TheVariants as immediate
use Rattle.ta_isa.specs.declared.row.Row.{Row}
use Rattle.ta_isa.specs.InstructionTable.{row_of}
use Rattle.ta_asm.specs.Lines.{operation_table}

-- ---- labels

-- `Li`
abbrev pub label_name : ℕ → List ℕ
label_name place = codes "L" ++ decimal place

-- the field imm is this target
abbrev pub is_target : Immediate → ℕ → ℕ → Bool
is_target immediate.Unused imm place = false
is_target immediate.Number imm place = false
is_target immediate.Target imm place = imm == place
is_target immediate.SystemCall imm place = false

unfoldable pub targets : ℕ → Instr → Bool
targets place instr = option_map_or (λ row. is_target row.imm instr.imm place) (row_of instr.op) false

-- an instruction has a label where it is an entry point or a target
unfoldable pub is_labelled : Image → ℕ → Bool
is_labelled image place = list_any (λ entry. entry == place) image.entries || list_any (targets place) image.code

-- ---- lines, as the words that they have

-- the first word beside this number
abbrev pub word_beside : List (List ℕ × ℕ) → ℕ → List ℕ
word_beside [] number = []
word_beside (row ∷ rows) number = if row.1 == number then row.0 else word_beside rows number

unfoldable pub operation_word : ℕ → List ℕ
operation_word op = word_beside operation_table op

-- a register, where the operation uses the field
abbrev pub operand_words : Operand → ℕ → List (List ℕ)
operand_words operand.Unused field = []
operand_words operand.Register field = (codes "r" ++ decimal field) ∷ []

abbrev pub immediate_words : Immediate → ℕ → List (List ℕ)
immediate_words immediate.Unused imm = []
immediate_words immediate.Number imm = decimal imm ∷ []
immediate_words immediate.Target imm = label_name imm ∷ []
immediate_words immediate.SystemCall imm = decimal imm ∷ []

-- the fields that the row names, in their order
abbrev pub field_words : Row → Instr → List (List ℕ)
field_words row instr = operand_words row.d instr.d ++ (operand_words row.a instr.a ++ (operand_words row.b instr.b ++ immediate_words row.imm instr.imm))

unfoldable pub instruction_words : Instr → List (List ℕ)
instruction_words instr = operation_word instr.op ∷ option_map_or (λ row. field_words row instr) (row_of instr.op) []

-- the line of a label, where this instruction has one, in front of others
unfoldable pub label_line : Image → ℕ → List (List (List ℕ)) → List (List (List ℕ))
label_line image place lines = if is_labelled image place then ((label_name place ++ codes ":") ∷ []) ∷ lines else lines

-- the lines of instructions, the first of which has this place
abbrev pub code_lines : Image → ℕ → List Instr → List (List (List ℕ))
code_lines image place [] = []
code_lines image place (instr ∷ code) = label_line image place (instruction_words instr ∷ code_lines image (place + 1) code)

abbrev pub entry_words : Image → List ℕ → ℕ → List (List ℕ)
entry_words image name number = codes ".entry" ∷ name ∷ label_name (slice_index image.entries number) ∷ []

abbrev pub header_lines : Image → List (List (List ℕ))
header_lines image =
    (codes ".flags" ∷ decimal image.flags ∷ [])
    ∷ (codes ".pages" ∷ decimal image.pages ∷ [])
    ∷ entry_words image (codes "create") 0
    ∷ entry_words image (codes "open") 1
    ∷ entry_words image (codes "invoke") 2
    ∷ entry_words image (codes "close") 3
    ∷ entry_words image (codes "destroy") 4
    ∷ []

-- ---- texts

-- each word behind a space
abbrev pub spaced : List (List ℕ) → List ℕ
spaced [] = []
spaced (word ∷ words) = 32 ∷ (word ++ spaced words)

-- the words parted by one space, and a line feed
abbrev pub line_of : List (List ℕ) → List ℕ
line_of [] = 10 ∷ []
line_of (word ∷ words) = word ++ (spaced words ++ 10 ∷ [])

abbrev pub text_of : List (List (List ℕ)) → List ℕ
text_of [] = []
text_of (words ∷ lines) = line_of words ++ text_of lines

unfoldable pub canonical : Image → List ℕ
canonical image = text_of (header_lines image ++ code_lines image 0 image.code)
