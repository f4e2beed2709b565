-- What the private functions of the crate answer, in the words of the grammar.
use Rattle.std.specs.Prelude.{◌≡◌, ℕ, ◌<◌, List, Option, Some, None, Result, Ok, Err, ◌⊎◌, nat_lt, drop, Bool, if◌then◌else◌, ◌++◌, false, true, [], IfOk, IfErr, codes, decimal, length, slice_index_or}
use Rattle.std.specs.BTreeMap.{BTreeMap, get_by}
use Rattle.std.specs.Cmp.Lexicographic.{slice_cmp}
use Rattle.std.specs.List.{list_any}
use Rattle.std.specs.Ordering.{nat_cmp}
use denote.Ref.{Bor}
use Rattle.ta_asm.specs.declared.fault.AsmFault.{AsmFault}
use Rattle.ta_asm.specs.declared.fault.AsmFault.TheVariants.{Memory}
use Rattle.ta_isa.specs.declared.image.Image.{Image}
use Rattle.ta_isa.specs.declared.image.Instr.{Instr}
use Rattle.ta_asm.specs.declared.labels.Definition.{Definition}
use Rattle.ta_asm.specs.declared.labels.Labels.{Labels}
use Rattle.ta_asm.specs.declared.statement.Statement.{Statement}
use Rattle.ta_asm.specs.Canonical.{is_labelled}
use Rattle.ta_asm.specs.Grammar.{Program, defines, definition, is_instruction_line, is_target_known, first_broken, image_from, targeted, IsFirstFault, StandsFor}

-- the label of a line that stands here, where it has this name
abbrev pub label_in : List ℕ → Definition → Statement → Option Definition
label_in name here statement = if defines name statement then Some here else None

-- the map has just the labels of these lines
abbrev pub Defines : BTreeMap (Bor (List ℕ)) Definition → List Statement → Type 0
Defines map front = (name : List ℕ) → get_by (λ key. slice_cmp nat_cmp name key.now) map ≡ definition front name

-- of these lines, the last one of an instruction is that of this number, counted from 1; 0 where there is none
abbrev pub IsLastIn : List Statement → ℕ → Type 0
IsLastIn front last = (line : ℕ) → list_any is_instruction_line (drop line front) ≡ nat_lt line last

-- a line was taken: it keeps its rules, and leads from the program before it to the one after it; or it broke a rule;
-- or memory ran out
abbrev pub IsTaken : Result Unit AsmFault → List (AsmFault × Bool) → Program → Program → Type 0
IsTaken (Ok u) rules wanted after = (first_broken rules ≡ None) × (after ≡ wanted)
IsTaken (Err fault) rules wanted after = (first_broken rules ≡ Some fault) ⊎ (fault ≡ Memory)

-- the labels of these lines, and the last line of an instruction
abbrev pub HasLabels : Labels → List Statement → Type 0
HasLabels labels all = Defines labels.map all × IsLastIn all labels.last

-- the instruction with the place of its target, where that is known
abbrev pub IsTargeted : Option Instr → List Statement → Instr → Option (List ℕ) → Type 0
IsTargeted None all instr target = is_target_known all target ≡ false
IsTargeted (Some found) all instr target = (is_target_known all target ≡ true) × (found ≡ targeted all instr target)

-- the text ends here: there is no fault, and this is its image; or there is one
abbrev pub Ends : Result Image AsmFault → List (AsmFault × Bool) → Program → Type 0
Ends (Ok image) rules before = (first_broken rules ≡ None) × (image ≡ image_from before)
Ends (Err fault) rules before = first_broken rules ≡ Some fault

-- what `assemble` ensures, but for the image being valid
pub record Answer (text : List ℕ) (result : Result Image AsmFault) : Type 0 where
  pub found : IfOk result (λ image. StandsFor text image)
  pub only : (image : Image) → StandsFor text image → (result ≡ Ok image) ⊎ (result ≡ Err Memory)
  pub bad : IfErr result (λ fault. (fault ≡ Memory) ⊎ IsFirstFault text fault)
  pub refused : (fault : AsmFault) → IsFirstFault text fault → (result ≡ Err fault) ⊎ (result ≡ Err Memory)

-- the line of a label, where there is one
abbrev pub label_bytes : Bool → ℕ → List ℕ
label_bytes marked place = if marked then (codes "L" ++ decimal place) ++ codes ":\n" else []

-- each instruction that has a label is marked, and no other
pub record IsMarked (image : Image) (marks : List Bool) : Type 0 where
  pub whole : length marks ≡ length image.code
  pub marked : (place : ℕ) → place < length image.code → slice_index_or marks place false ≡ is_labelled image place
