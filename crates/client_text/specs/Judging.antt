-- What the private functions of the reader answer, in the words of the rules.
use Rattle.std.specs.Prelude.{◌≡◌, ℕ, List, [], ◌∷◌, Bool, Option, Some, None, Result, Ok, Err}
use Rattle.client_text.specs.Forms.{parts_of}
use Rattle.client_text.specs.Rules.{ScriptFront, has_no_call, is_header}
use Rattle.trace_text.specs.Limits.{first_broken}
use Rattle.trace_text.specs.Forms.{hexadecimal}
use Rattle.trace_text.specs.Rules.{counts, word, words_behind}
use Rattle.trace_text.specs.declared.line_kind.LineKind.{LineKind}
use Rattle.trace_text.specs.declared.fault.BadKind.{BadKind}
use Rattle.trace_text.specs.declared.fault.BadKind.TheVariants as bad
use Rattle.trace_text.specs.declared.fault.LineFault.{LineFault}
use Rattle.trace_text.specs.declared.fault.LineFault.TheVariants.{Broken, NoRoom}

-- ---- parts

-- the parts that are left: none where no colon stands before
abbrev pub parts_left : Option (List ℕ) → List (List ℕ)
parts_left None = []
parts_left (Some behind) = parts_of behind

-- the only part that is left
abbrev pub only_part : List (List ℕ) → Option (List ℕ)
only_part [] = None
only_part (part ∷ []) = Some part
only_part (part ∷ (other ∷ parts)) = None

-- two numbers
abbrev pub numbers_of : List (List ℕ) → ℕ × ℕ
numbers_of parts = (hexadecimal (word parts 0), hexadecimal (word parts 1))

-- ---- lines of the header

-- rules were kept, or this one was broken
abbrev pub IsKept : Result Unit LineFault → List (BadKind × Bool) → Type 0
IsKept (Ok u) rules = first_broken rules ≡ None
IsKept (Err (Broken kind)) rules = first_broken rules ≡ Some kind
IsKept (Err NoRoom) rules = ⊥

-- what is wrong with one before its words are read
abbrev pub header_fault : LineKind → ScriptFront → List (List ℕ) → Option BadKind
header_fault kind before words =
    first_broken ((bad.Item, is_header kind) ∷ (bad.Count, counts (words_behind kind) words) ∷ (bad.Place, has_no_call before.calls) ∷ [])
