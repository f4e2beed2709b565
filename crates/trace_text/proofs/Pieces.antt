-- The words of a line, and the first line of a text.
use Rattle.std.proofs.Common.{◌≡◌, ℕ, ◌+◌, ◌<◌, true, eqb, ltb, List, ◌∷◌, length, ap, arith}
use Rattle.std.specs.List.{list_all}
use Rattle.std.proofs.lemmas.Bool.{eqb-true, and_parts}
use Rattle.std.proofs.lemmas.List.Splits.{length-slice_split}
use Rattle.line_grammar.proofs.Pieces as grammar
use Rattle.text_lines.specs.Lines.{IsCutAt}
use Rattle.text_lines.specs.Words.{words_of}
use Rattle.trace_text.specs.Rules.{counts}
use Rattle.trace_text.specs.Grammar.{pieces_of}

pub some_word : (line : List ℕ) (words : List (List ℕ)) → words ≡ words_of line → 0 < length words
some_word line words e = omega (arith, ap length e, length-slice_split (λ b. eqb b 32) line)

pub words_behind_first : (behind : ℕ) (words : List (List ℕ)) (w : List ℕ) (rest : List (List ℕ)) → words ≡ w ∷ rest → counts behind words ≡ true → length rest ≡ behind
unfolding counts
words_behind_first behind words w rest e counted =
    let p = and_parts (eqb (length words) (behind + 1)) (list_all (λ x. ltb 0 (length x)) words) counted in
    let whole : length words ≡ behind + 1 = eqb-true _ _ p.0 in
    omega (arith, ap length e, whole)

pub first_piece : (rest line after : List ℕ) → IsCutAt 10 rest line after → pieces_of rest ≡ line ∷ pieces_of after
first_piece rest line after cut = grammar.first_piece rest line after cut
