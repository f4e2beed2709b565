-- Lines: what each one says, by its words.
use Rattle.std.specs.Prelude.{ℕ, ◌-◌, List, [], ◌∷◌, codes, take, length, slice_index, Bool, ◌&&◌, ◌==◌, if◌then◌else◌, Option, None, Some}
use Rattle.std.specs.List.{slice_split}
use Rattle.std.specs.Option.{option_map, unwrap_or}
use Rattle.std.specs.Str.{bytes_eq}
use Rattle.ta_isa.specs.declared.row.Operand.{Operand}
use Rattle.ta_isa.specs.declared.row.Operand.TheVariants as operand
use Rattle.ta_isa.specs.declared.row.Immediate.{Immediate}
use Rattle.ta_isa.specs.declared.row.Immediate.TheVariants as immediate
use Rattle.ta_isa.specs.declared.row.Row.{Row}
use Rattle.ta_isa.specs.InstructionTable.{row_of}
use Rattle.text_lines.specs.Lines.{is_skipped}
use Rattle.text_lines.specs.Steps.{◌>>=◌}
use Rattle.text_lines.specs.Words.{last_word, word_at, words_of}
use Rattle.ta_asm.specs.declared.names.EntryPoint.{EntryPoint}
use Rattle.ta_asm.specs.declared.names.EntryPoint.TheVariants.{Create, Open, Invoke, Close, Destroy}
use Rattle.ta_asm.specs.declared.statement.Statement.{Statement}
use Rattle.ta_asm.specs.declared.statement.Statement.TheVariants.{Nothing, Flags, Pages, Entry, Label, Code, Unread}
use Rattle.ta_asm.specs.Words.{at_most, is_name, number_at, register_at}

-- ---- names

-- what stands beside the first row of this word
abbrev pub found_in : {A : Type 0} → List (List ℕ × A) → List ℕ → Option A
found_in [] word = None
found_in (row ∷ rows) word = if bytes_eq word row.0 then Some row.1 else found_in rows word

-- how each operation is written
abbrev pub operation_table : List (List ℕ × ℕ)
operation_table =
    (codes "const", 0x01)
    ∷ (codes "move", 0x02)
    ∷ (codes "add", 0x03)
    ∷ (codes "sub", 0x04)
    ∷ (codes "mul", 0x05)
    ∷ (codes "div", 0x06)
    ∷ (codes "rem", 0x07)
    ∷ (codes "and", 0x08)
    ∷ (codes "or", 0x09)
    ∷ (codes "xor", 0x0a)
    ∷ (codes "shl", 0x0b)
    ∷ (codes "shr", 0x0c)
    ∷ (codes "loadb", 0x0d)
    ∷ (codes "loadw", 0x0e)
    ∷ (codes "storeb", 0x0f)
    ∷ (codes "storew", 0x10)
    ∷ (codes "beq", 0x11)
    ∷ (codes "bne", 0x12)
    ∷ (codes "bltu", 0x13)
    ∷ (codes "bgeu", 0x14)
    ∷ (codes "jump", 0x15)
    ∷ (codes "call", 0x16)
    ∷ (codes "ret", 0x17)
    ∷ (codes "sys", 0x18)
    ∷ []

unfoldable pub operation_at : List ℕ → Option ℕ
operation_at word = found_in operation_table word

-- how each entry point is written, in their order
abbrev pub entry_table : List (List ℕ × EntryPoint)
entry_table = (codes "create", Create) ∷ (codes "open", Open) ∷ (codes "invoke", Invoke) ∷ (codes "close", Close) ∷ (codes "destroy", Destroy) ∷ []

unfoldable pub entry_at : List ℕ → Option EntryPoint
entry_at word = found_in entry_table word

-- ---- the words of a line

-- the name of a label
abbrev pub name_at : List ℕ → Option (List ℕ)
name_at word = if is_name word then Some word else None

-- ---- instructions, by the row of the table

-- a field that the operation uses is the next word, and it names a register
unfoldable pub operand_at : Operand → List (List ℕ) → Option (ℕ × List (List ℕ))
operand_at operand.Unused words = Some (0, words)
operand_at operand.Register words = do
  word ← word_at words
  register ← register_at word.0
  Some (register, word.1)

-- what the field imm holds, and the label of a target
abbrev pub Immediates : Type 0
Immediates = ℕ × Option (List ℕ)

-- it is the last word, where the operation uses it
unfoldable pub immediate_at : Immediate → List (List ℕ) → Option Immediates
immediate_at immediate.Unused [] = Some (0, None)
immediate_at immediate.Unused (word ∷ words) = None
immediate_at immediate.Number words = do
  word ← last_word words
  number ← number_at word
  Some (number, None)
immediate_at immediate.Target words = do
  word ← last_word words
  name ← name_at word
  Some (0, Some name)
immediate_at immediate.SystemCall words = do
  word ← last_word words
  number ← number_at word
  call ← at_most 19 number
  Some (call, None)

-- the fields that the row names, in their order
unfoldable pub code_at : ℕ → Row → List (List ℕ) → Option Statement
code_at op row words = do
  d ← operand_at row.d words
  a ← operand_at row.a d.1
  b ← operand_at row.b a.1
  imm ← immediate_at row.imm b.1
  Some (Code (record { op = op; d = d.0; a = a.0; b = b.0; imm = imm.0 }) imm.1)

-- ---- statements, by their first word

-- `WORD NUMBER`
unfoldable pub number_left : List (List ℕ) → Option ℕ
number_left words = do
  word ← last_word words
  number_at word

-- `.entry NAME LABEL`
unfoldable pub entry_left : List (List ℕ) → Option Statement
entry_left words = do
  word ← word_at words
  point ← entry_at word.0
  last ← last_word word.1
  name ← name_at last
  Some (Entry point name)

unfoldable pub code_left : List ℕ → List (List ℕ) → Option Statement
code_left first words = do
  op ← operation_at first
  row ← row_of op
  code_at op row words

unfoldable pub said_by : List ℕ → List (List ℕ) → Option Statement
said_by first words =
    if bytes_eq first (codes ".flags") then option_map Flags (number_left words) else
    if bytes_eq first (codes ".pages") then option_map Pages (number_left words) else
    if bytes_eq first (codes ".entry") then entry_left words else
    code_left first words

unfoldable pub said_in : List (List ℕ) → Option Statement
said_in words = do
  first ← word_at words
  said_by first.0 first.1

-- ---- whole lines

-- a name and `:`
unfoldable pub is_label : List ℕ → Bool
is_label line = (slice_index line (length line - 1) == 58) && is_name (take (length line - 1) line)

-- what a line says, which is given without its line feed
unfoldable pub statement_of : List ℕ → Statement
statement_of line =
    if is_skipped line then Nothing else
    if is_label line then Label (take (length line - 1) line) else
    unwrap_or (said_in (words_of line)) Unread

-- ---- texts

-- what stands behind the last line feed: nothing, or a line that isn't ended, which says nothing
abbrev pub unended : List ℕ → List Statement
unended [] = []
unended (b ∷ bytes) = Unread ∷ []

abbrev pub statements_in : List (List ℕ) → List Statement
statements_in [] = []
statements_in (piece ∷ []) = unended piece
statements_in (piece ∷ (next ∷ pieces)) = statement_of piece ∷ statements_in (next ∷ pieces)

-- what the line feeds of a text part: its lines, and at the end what stands behind the last line feed
abbrev pub pieces_of : List ℕ → List (List ℕ)
pieces_of text = slice_split (λ b. b == 10) text

-- what each line of a text says
unfoldable pub statements_of : List ℕ → List Statement
statements_of text = statements_in (pieces_of text)
