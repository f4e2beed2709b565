-- Lines and words of small texts.
use Rattle.std.specs.Prelude.{◌≡◌, [], ◌∷◌, codes, Some, None, true, false}
use Rattle.text_lines.specs.Lines.{is_skipped}
use Rattle.text_lines.specs.Words.{last_word, word_at, words_of}

pub record Examples : Type 0 where
  pub words : words_of (codes "a bc") ≡ codes "a" ∷ codes "bc" ∷ []
  pub two_spaces : words_of (codes "a  b") ≡ codes "a" ∷ [] ∷ codes "b" ∷ []
  pub no_space : words_of [] ≡ [] ∷ []
  pub next : word_at (codes "a" ∷ codes "bc" ∷ []) ≡ Some (codes "a", codes "bc" ∷ [])
  pub one_left : last_word (codes "a" ∷ []) ≡ Some (codes "a")
  pub two_left : last_word (codes "a" ∷ codes "bc" ∷ []) ≡ None
  pub comment : is_skipped (codes "# boot") ≡ true
  pub line : is_skipped (codes "boot") ≡ false
