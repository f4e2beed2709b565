-- The texts of the assembler: which image a text stands for, and what the first fault of any other text is.
use Rattle.std.specs.Prelude.{◌≡◌, ◌⊎◌, ℕ, ◌+◌, ◌<◌, List, [], ◌∷◌, ◌++◌, length, drop, take, slice_get, slice_set, nat_lt, nat_le, Bool, true, false, ◌&&◌, ◌==◌, if◌then◌else◌, Option, None, Some, is_some}
use Rattle.std.specs.List.{fold, list_any}
use Rattle.std.specs.Option.{option_map_or}
use Rattle.std.specs.Str.{bytes_eq}
use Rattle.ta_isa.specs.declared.image.Image.{Image}
use Rattle.ta_isa.specs.declared.image.Instr.{Instr}
use Rattle.ta_isa.specs.Spelling.{are_allowed}
use Rattle.ta_asm.specs.declared.fault.AsmFault.{AsmFault}
use Rattle.ta_asm.specs.declared.fault.AsmFault.TheVariants.{BadLine, UnknownLabel, RepeatedLabel}
use Rattle.ta_asm.specs.declared.labels.Definition.{Definition}
use Rattle.ta_asm.specs.declared.names.EntryPoint.{EntryPoint}
use Rattle.ta_asm.specs.declared.names.EntryPoint.TheVariants.{Create, Open, Invoke, Close, Destroy}
use Rattle.ta_asm.specs.declared.statement.Statement.{Statement}
use Rattle.ta_asm.specs.declared.statement.Statement.TheVariants.{Nothing, Flags, Pages, Entry, Label, Code, Unread}
use Rattle.ta_asm.specs.Lines.{statements_of}

-- ---- labels

-- the line is that of this label
abbrev pub defines : List ℕ → Statement → Bool
defines name Nothing = false
defines name (Flags n) = false
defines name (Pages n) = false
defines name (Entry point label) = false
defines name (Label label) = bytes_eq label name
defines name (Code instr target) = false
defines name Unread = false

-- how many instructions the line has
abbrev pub instructions : Statement → ℕ
instructions Nothing = 0
instructions (Flags n) = 0
instructions (Pages n) = 0
instructions (Entry point label) = 0
instructions (Label label) = 0
instructions (Code instr target) = 1
instructions Unread = 0

-- the first line of a label, and how many instructions stand before it, where the lines begin at this line with so
-- many instructions before them
abbrev pub definition_from : List ℕ → ℕ → ℕ → List Statement → Option Definition
definition_from name line place [] = None
definition_from name line place (s ∷ rest) =
    if defines name s then Some (record { line = line; place = place }) else definition_from name (line + 1) (place + instructions s) rest

-- the map from labels to their first lines, counted from 1, and to their places: a label names the next instruction
unfoldable pub definition : List Statement → List ℕ → Option Definition
definition all name = definition_from name 1 0 all

abbrev pub is_known : List Statement → List ℕ → Bool
is_known all name = is_some (definition all name)

abbrev pub place_of : List Statement → List ℕ → ℕ
place_of all name = option_map_or (λ d. d.place) (definition all name) 0

-- the line is the first one of its label
abbrev pub is_first_line : List Statement → List ℕ → ℕ → Bool
is_first_line all name line = option_map_or (λ d. d.line == line) (definition all name) false

-- the label of a target, if there is one, is known
abbrev pub is_target_known : List Statement → Option (List ℕ) → Bool
is_target_known all None = true
is_target_known all (Some name) = is_known all name

-- the line is one of an instruction by its form, whether or not its target is known and there is room for it
abbrev pub is_instruction_line : Statement → Bool
is_instruction_line Nothing = false
is_instruction_line (Flags n) = false
is_instruction_line (Pages n) = false
is_instruction_line (Entry point label) = false
is_instruction_line (Label label) = false
is_instruction_line (Code instr target) = true
is_instruction_line Unread = false

-- ---- what lines add up to

-- the number of an entry point
abbrev pub number_of : EntryPoint → ℕ
number_of Create = 0
number_of Open = 1
number_of Invoke = 2
number_of Close = 3
number_of Destroy = 4

-- how many of the seven lines of the header there are, what they say, and the instructions behind them
pub record Program : Type 0 where
  pub parts : ℕ
  pub flags : ℕ
  pub pages : ℕ
  pub entries : List ℕ
  pub code : List Instr

abbrev pub no_program : Program
no_program = record { parts = 0; flags = 0; pages = 0; entries = 0 ∷ 0 ∷ 0 ∷ 0 ∷ 0 ∷ []; code = [] }

-- an instruction with the place of its target
abbrev pub targeted : List Statement → Instr → Option (List ℕ) → Instr
targeted all instr None = instr
targeted all instr (Some name) = record instr { imm = place_of all name }

-- what a line adds
abbrev pub added : List Statement → Program → Statement → Program
added all before Nothing = before
added all before (Flags n) = record before { parts = before.parts + 1; flags = n }
added all before (Pages n) = record before { parts = before.parts + 1; pages = n }
added all before (Entry point label) = record before { parts = before.parts + 1; entries = slice_set before.entries (number_of point) (place_of all label) }
added all before (Label label) = before
added all before (Code instr target) = record before { code = before.code ++ targeted all instr target ∷ [] }
added all before Unread = before

-- the first lines of a text, with the labels of all its lines
unfoldable pub program_of : List Statement → List Statement → Program
program_of all front = fold (added all) no_program front

abbrev pub image_from : Program → Image
image_from program = record { flags = program.flags; pages = program.pages; entries = program.entries; code = program.code }

-- the image of all lines
abbrev pub image_of : List Statement → Image
image_of all = image_from (program_of all all)

-- ---- faults

-- the first rule that isn't kept; each rule is a fault, and whether it is kept
abbrev pub first_broken : List (AsmFault × Bool) → Option AsmFault
first_broken [] = None
first_broken (rule ∷ rules) = if rule.1 then first_broken rules else Some rule.0

-- the header is complete
abbrev pub has_header : Program → Bool
has_header before = before.parts == 7

-- one more instruction may follow: the header is complete, and there is room
abbrev pub takes_code : Program → Bool
takes_code before = has_header before && nat_lt (length before.code) 8192

-- the rules of a line, given what the lines before it add up to
unfoldable pub line_rules : List Statement → Program → ℕ → Statement → List (AsmFault × Bool)
line_rules all before line Nothing = []
line_rules all before line (Flags n) = (BadLine line, before.parts == 0) ∷ (BadLine line, are_allowed n) ∷ []
line_rules all before line (Pages n) = (BadLine line, before.parts == 1) ∷ (BadLine line, nat_le 1 n && nat_le n 64) ∷ []
line_rules all before line (Entry point label) = (BadLine line, before.parts == number_of point + 2) ∷ (UnknownLabel line, is_known all label) ∷ []
line_rules all before line (Label label) =
    (BadLine line, has_header before)
    ∷ (BadLine line, list_any is_instruction_line (drop line all))
    ∷ (RepeatedLabel line, is_first_line all label line)
    ∷ []
line_rules all before line (Code instr target) = (BadLine line, takes_code before) ∷ (UnknownLabel line, is_target_known all target) ∷ []
line_rules all before line Unread = (BadLine line, false) ∷ []

-- the rules of the end of a text: the header is complete, and there is an instruction
unfoldable pub end_rules : Program → ℕ → List (AsmFault × Bool)
end_rules before line = (BadLine line, has_header before) ∷ (BadLine line, nat_lt 0 (length before.code)) ∷ []

abbrev pub rules_of : List Statement → Program → ℕ → Option Statement → List (AsmFault × Bool)
rules_of all before line None = end_rules before line
rules_of all before line (Some statement) = line_rules all before line statement

-- the fault behind so many lines: of the next line, or of the end
unfoldable pub fault_behind : List Statement → ℕ → Option AsmFault
fault_behind all lines = first_broken (rules_of all (program_of all (take lines all)) (lines + 1) (slice_get all lines))

-- ---- texts

-- a text stands for an image: no line has a fault, nor has the end, and the lines add up to it
pub record StandsFor (text : List ℕ) (image : Image) : Type 0 where
  pub faultless : (lines : ℕ) → fault_behind (statements_of text) lines ≡ None
  pub image_is : image ≡ image_of (statements_of text)

-- the first fault of a text: the least line decides
pub record IsFirstFault (text : List ℕ) (fault : AsmFault) : Type 0 where
  pub front : ℕ
  pub faultless : (lines : ℕ) → lines < front → fault_behind (statements_of text) lines ≡ None
  pub fault_is : fault_behind (statements_of text) front ≡ Some fault

-- a text stands for one image, or has one first fault, and not both
pub record Meaning (text : List ℕ) : Type 0 where
  pub stands_or_is_faulty : ((image : Image) × StandsFor text image) ⊎ ((fault : AsmFault) × IsFirstFault text fault)
  pub one_image : (one other : Image) → StandsFor text one → StandsFor text other → one ≡ other
  pub one_fault : (one other : AsmFault) → IsFirstFault text one → IsFirstFault text other → one ≡ other
  pub not_both : (image : Image) (fault : AsmFault) → StandsFor text image → IsFirstFault text fault → ⊥

abbrev pub EveryText : Type 0
EveryText = (text : List ℕ) → Meaning text
