-- Lines of a text: where it is cut, and which lines say nothing.
use Rattle.std.specs.Prelude.{◌≡◌, ℕ, List, ◌∷◌, ◌++◌, length, slice_index, Bool, false, ◌||◌, ◌==◌, All}

-- the byte stands nowhere in these
abbrev pub Lacks : ℕ → List ℕ → Type 0
Lacks byte bytes = All (λ b. (b == byte) ≡ false) bytes

-- these are cut at the first such byte, into what stands before it and after it
abbrev pub IsCutAt : ℕ → List ℕ → List ℕ → List ℕ → Type 0
IsCutAt byte bytes front back = Lacks byte front × (bytes ≡ front ++ byte ∷ back)

-- an empty line, or a comment
unfoldable pub is_skipped : List ℕ → Bool
is_skipped line = (length line == 0) || (slice_index line 0 == 35)
