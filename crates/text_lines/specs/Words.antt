-- Words from the front of what is left of a line.
use Rattle.std.specs.Prelude.{ℕ, List, [], ◌∷◌, Bool, true, false, ◌==◌, Option, Some, None}
use Rattle.std.specs.List.{slice_split}

-- what the spaces of a line part, which is given without its line feed; two spaces in a row part an empty word from
-- its neighbours
abbrev pub words_of : List ℕ → List (List ℕ)
words_of line = slice_split (λ b. b == 32) line

-- the words that are left: none behind the last one
abbrev pub words_left : Option (List ℕ) → List (List ℕ)
words_left None = []
words_left (Some line) = words_of line

-- the next word and those behind it
abbrev pub word_at : List (List ℕ) → Option (List ℕ × List (List ℕ))
word_at [] = None
word_at (word ∷ words) = Some (word, words)

-- the one word that is left
abbrev pub last_word : List (List ℕ) → Option (List ℕ)
last_word [] = None
last_word (word ∷ []) = Some word
last_word (word ∷ (next ∷ words)) = None

-- no words are left
abbrev pub is_ended : List (List ℕ) → Bool
is_ended [] = true
is_ended (word ∷ words) = false
