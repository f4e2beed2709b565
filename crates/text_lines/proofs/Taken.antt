-- Words that are taken from the front of a line.
use Rattle.std.proofs.Common.{◌≡◌, ℕ, Bool, true, false, cond, eqb, not, List, [], ◌∷◌, drop, Option, Some, None, Bor, refl, sym, ap, ◌∙◌}
use Rattle.std.specs.Option.{is_some, option_copied}
use Rattle.std.specs.List.{onto_first}
use Rattle.std.proofs.lemmas.List.Splits.{slice_split_at, slice_split_none}
use Rattle.text_lines.specs.Lines.{Lacks, IsCutAt}
use Rattle.text_lines.specs.Words.{words_of, words_left, word_at, is_ended}
use Rattle.text_lines.proofs.Options.{some_is}

onto_first-is_ended : (b : ℕ) (parts : List (List ℕ)) → is_ended (onto_first b parts) ≡ false
onto_first-is_ended b [] = refl
onto_first-is_ended b (part ∷ parts) = refl

-- a line has a word
is_ended-words_of : (line : List ℕ) → is_ended (words_of line) ≡ false
is_ended-words_of [] = refl
is_ended-words_of (b ∷ line) =
    elim (eqb b 32) as (λ t. is_ended (cond t ([] ∷ words_of line) (onto_first b (words_of line))) ≡ false) [
      | true ↦ refl
      | false ↦ onto_first-is_ended b (words_of line)
    ]

pub is_ended-words_left : (rest : Option (Bor (List ℕ))) (none : Bool) → is_some rest ≡ not none → none ≡ is_ended (words_left (option_copied rest))
is_ended-words_left (Some line) true e = absurd cc
is_ended-words_left (Some line) false e = sym (is_ended-words_of line.now)
is_ended-words_left None true e = refl
is_ended-words_left None false e = absurd cc

-- all but the first word are left, also where there is none
pub left_behind : (words left : List (List ℕ)) (word : List ℕ) → word_at words ≡ Some (word, left) → left ≡ drop 1 words
left_behind [] left word e = absurd cc
left_behind (first ∷ words) left word e = sym (ap (λ (x : List ℕ × List (List ℕ)). x.1) (some_is (first, words) (word, left) e))

-- of no words none are left, and of some all but the first two, where two were taken
pub none_behind : (words left : List (List ℕ)) → word_at words ≡ None → left ≡ drop 1 words → left ≡ drop 2 words
none_behind [] left e is = is
none_behind (first ∷ words) left e is = absurd cc

drop_one_by_one : (words : List (List ℕ)) → drop 1 (drop 1 words) ≡ drop 2 words
drop_one_by_one [] = refl
drop_one_by_one (first ∷ words) = refl

pub two_behind : (words between left : List (List ℕ)) → between ≡ drop 1 words → left ≡ drop 1 between → left ≡ drop 2 words
two_behind words between left one two = two ∙ ap (λ (ws : List (List ℕ)). drop 1 ws) one ∙ drop_one_by_one words

pub word_at-words_of : (line word rest : List ℕ) → IsCutAt 32 line word rest → word_at (words_of line) ≡ Some (word, words_of rest)
word_at-words_of line word rest cut = ap (λ (bs : List ℕ). word_at (words_of bs)) cut.1 ∙ ap word_at (slice_split_at (λ b. eqb b 32) word 32 rest cut.0 refl)

pub word_at-words_of_last : (line : List ℕ) → Lacks 32 line → word_at (words_of line) ≡ Some (line, [])
word_at-words_of_last line uncut = ap word_at (slice_split_none (λ b. eqb b 32) line uncut)
