-- Examples of the definitions, worked out by hand.
use Rattle.std.specs.Prelude.{◌≡◌, ℕ, List, [], ◌∷◌, ◌++◌, codes, replicate, true, false, None, Some}
use Rattle.ta_isa.specs.declared.image.Image.{Image}
use Rattle.ta_isa.specs.Examples.{instr}
use Rattle.ta_asm.specs.declared.fault.AsmFault.TheVariants.{BadLine, UnknownLabel, RepeatedLabel}
use Rattle.ta_asm.specs.declared.names.EntryPoint.TheVariants.{Open}
use Rattle.ta_asm.specs.declared.statement.Statement.TheVariants.{Nothing, Entry, Label, Code, Unread}
use Rattle.ta_asm.specs.Canonical.{canonical, text_of}
use Rattle.ta_asm.specs.Grammar.{IsFirstFault, StandsFor}
use Rattle.ta_asm.specs.Lines.{statement_of}
use Rattle.ta_asm.specs.Words.{is_name, number_at, register_at}

-- an application of one instruction, which returns
abbrev pub returning : Image
returning = record { flags = 0; pages = 1; entries = 0 ∷ 0 ∷ 0 ∷ 0 ∷ 0 ∷ []; code = instr 0x18 0 0 0 0 ∷ [] }

-- one whose first instruction jumps to its second
abbrev pub jumping : Image
jumping = record { flags = 28; pages = 64; entries = 0 ∷ 0 ∷ 0 ∷ 0 ∷ 0 ∷ []; code = instr 0x15 0 0 0 1 ∷ instr 0x17 0 0 0 0 ∷ [] }

abbrev pub header : List ℕ
header = codes ".flags 0\n.pages 1\n.entry create A\n.entry open A\n.entry invoke A\n.entry close A\n.entry destroy A\n"

-- so many instructions behind a label, and one more behind another
abbrev pub many : ℕ → List ℕ
many count = codes "A:\n" ++ (text_of (replicate count (codes "ret" ∷ [])) ++ codes "B:\nret\n")

pub record Examples : Type 0 where
  pub zero : number_at (codes "0") ≡ Some 0
  pub hexadecimal : number_at (codes "0x00fF") ≡ Some 255
  pub leading_zero : number_at (codes "01") ≡ None
  pub no_digit : number_at (codes "0x") ≡ None
  pub largest : number_at (codes "4294967295") ≡ Some 4294967295
  pub too_large : number_at (codes "4294967296") ≡ None
  pub last_register : register_at (codes "r15") ≡ Some 15
  pub no_register : register_at (codes "r16") ≡ None
  pub zeroed_register : register_at (codes "r01") ≡ None
  pub name : is_name (codes "L_1") ≡ true
  pub no_letter : is_name (codes "1L") ≡ false
  pub comment : statement_of (codes "# L0:") ≡ Nothing
  pub label : statement_of (codes "L0:") ≡ Label (codes "L0")
  pub entry : statement_of (codes ".entry open L0") ≡ Entry Open (codes "L0")
  pub sum : statement_of (codes "add r1 r0 r1") ≡ Code (instr 0x03 1 0 1 0) None
  pub target : statement_of (codes "beq r1 r2 L0") ≡ Code (instr 0x11 0 1 2 0) (Some (codes "L0"))
  pub two_spaces : statement_of (codes "sys  0") ≡ Unread
  pub system_call : statement_of (codes "sys 20") ≡ Unread
  pub stands : StandsFor (header ++ codes "A:\nsys 0\n") returning
  pub no_code : IsFirstFault header (UnknownLabel 3)
  pub number : IsFirstFault (codes ".pages x") (BadLine 1)
  pub label_alone : IsFirstFault (header ++ codes "A:\nsys 20\n") (BadLine 8)
  pub unknown_target : IsFirstFault (header ++ codes "A:\njump B\n") (UnknownLabel 9)
  -- the count is a variable, so that the text isn't computed
  pub label_at_the_limit : (count : ℕ) → count ≡ 8192 → IsFirstFault (header ++ many count) (BadLine 8202)
  pub repeated : IsFirstFault (header ++ codes "A:\nA:\nsys 0\n") (RepeatedLabel 9)
  pub cut : IsFirstFault (header ++ codes "A:\nsys 0\nret") (BadLine 10)
  pub canonical_text : canonical jumping ≡ codes ".flags 28\n.pages 64\n.entry create L0\n.entry open L0\n.entry invoke L0\n.entry close L0\n.entry destroy L0\nL0:\njump L1\nL1:\nret\n"
