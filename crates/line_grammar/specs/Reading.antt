-- The pieces of a text, read one after the other.
use Rattle.std.specs.Prelude.{ℕ, ◌+◌, List, [], ◌∷◌, Option, None, Some, Result, Ok, Err}
use Rattle.line_grammar.specs.Grammar.{LineGrammar, piece_fault}

-- the verdict on a piece, where it has no fault
abbrev pub unless : {V K : Type 0} → Option K → ℕ → Result V (ℕ × K) → Result V (ℕ × K)
unless None place verdict = verdict
unless (Some kind) place verdict = Err (place, kind)

-- the value of the pieces from this place on, or the first fault
unfoldable pub read_pieces : {F V K : Type 0} → LineGrammar F V K → ℕ → F → List (List ℕ) → Result V (ℕ × K)
read_pieces g place before [] = Ok (g.value before)
read_pieces g place before (piece ∷ []) = unless (piece_fault g before piece []) place (Ok (g.value before))
read_pieces g place before (piece ∷ (next ∷ pieces)) =
    unless (piece_fault g before piece (next ∷ pieces)) place
    (read_pieces g (place + 1) (g.after_line before piece) (next ∷ pieces))
