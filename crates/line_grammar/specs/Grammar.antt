-- A grammar of lines: which value a text spells, and what the first fault of any other text is.
use Rattle.std.specs.Prelude.{◌≡◌, ℕ, ◌+◌, List, [], ◌∷◌, ◌++◌, length, Bool, true, false, ◌==◌, Option, None, Some}
use Rattle.std.specs.List.{slice_split}

-- what the line feeds of a text part: its lines, and at the end what stands behind the last line feed
abbrev pub pieces_of : List ℕ → List (List ℕ)
pieces_of text = slice_split (λ b. b == 10) text

-- a grammar of texts that spell values, whose faults are of these kinds; a front is what the lines so far give
pub record LineGrammar (Front Value Kind : Type 0) : Type 0 where
  -- before the first line
  pub first : Front
  -- what is wrong with a line behind a front, given whether a line feed ends it
  pub line_fault : Front → Bool → List ℕ → Option Kind
  -- the front behind a line without a fault
  pub after_line : Front → List ℕ → Front
  -- what is wrong with a text that ends behind a front
  pub end_fault : Front → Option Kind
  -- the value of all lines
  pub value : Front → Value

-- lines that follow each other, each ended and without a fault, and lead from one front to another
abbrev pub Leads : {F V K : Type 0} → LineGrammar F V K → F → List (List ℕ) → F → Type 0
Leads g before [] after = before ≡ after
Leads g before (line ∷ lines) after = (g.line_fault before true line ≡ None) × Leads g (g.after_line before line) lines after

-- the fault of a piece, given the pieces behind it: a line is ended where there are any, and the text ends where
-- there are none and this one is empty
unfoldable pub piece_fault : {F V K : Type 0} → LineGrammar F V K → F → List ℕ → List (List ℕ) → Option K
piece_fault g before piece (next ∷ pieces) = g.line_fault before true piece
piece_fault g before [] [] = g.end_fault before
piece_fault g before (b ∷ bytes) [] = g.line_fault before false (b ∷ bytes)

-- the text spells the value: each of its lines is ended and without a fault, and so is its end
pub record Spells {F V K : Type 0} (g : LineGrammar F V K) (text : List ℕ) (value : V) : Type 0 where
  pub lines : List (List ℕ)
  pub text_is : pieces_of text ≡ lines ++ [] ∷ []
  pub end : F
  pub spelled : Leads g g.first lines end
  pub value_is : g.value end ≡ value
  pub no_end_fault : g.end_fault end ≡ None

-- the first fault of the text: what stands before its place has none
pub record IsFirstFault {F V K : Type 0} (g : LineGrammar F V K) (text : List ℕ) (place : ℕ) (kind : K) : Type 0 where
  pub front : List (List ℕ)
  pub piece : List ℕ
  pub back : List (List ℕ)
  pub text_is : pieces_of text ≡ front ++ piece ∷ back
  pub before : F
  pub kept : Leads g g.first front before
  pub place_is : place ≡ length front + 1
  pub fault : piece_fault g before piece back ≡ Some kind

-- a line that no line feed ends has a fault
abbrev pub EndsEachLine : {F V K : Type 0} → LineGrammar F V K → Type 0
EndsEachLine g = (before : _) (b : ℕ) (bytes : List ℕ) → g.line_fault before false (b ∷ bytes) ≡ None → ⊥
