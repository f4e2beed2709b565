-- How many words a line of a call has.
use Rattle.std.proofs.Common.{◌≡◌, ℕ, ◌+◌, ◌≤◌, Bool, true, false, cond, ltb, List, [], ◌∷◌, length, Option, Some, None, Bor, refl, ap, ◌∙◌, arith}
use Rattle.std.specs.Prelude.{is_some}
use Rattle.std.specs.List.{list_all}
use Rattle.std.specs.Option.{option_copied, option_map}
use Rattle.std.proofs.lemmas.Bool.{and_parts}
use Rattle.trace_text.specs.Limits.{is_within}
use Rattle.trace_text.proofs.SoundWords.{within}
use Rattle.client_text.specs.Forms.{cancel_number}
use Rattle.client_text.specs.Rules.{before_params, cancel_in, has_between}

pub at_least : (least most : ℕ) (words : List (List ℕ)) → has_between least most words ≡ true → least ≤ length words
unfolding has_between
at_least least most words e =
    let p = and_parts (is_within least most (length words)) (list_all (λ w. ltb 0 (length w)) words) e in
    (within least most (length words) p.0).0

-- a word that cancels is there
fourth_there : (words : List (List ℕ)) → is_some (cancel_in words) ≡ true → 4 ≤ length words
unfolding cancel_number
fourth_there [] e = let no : false ≡ true = e in absurd cc
fourth_there (a ∷ []) e = let no : false ≡ true = e in absurd cc
fourth_there (a ∷ (b ∷ [])) e = let no : false ≡ true = e in absurd cc
fourth_there (a ∷ (b ∷ (c ∷ []))) e = let no : false ≡ true = e in absurd cc
fourth_there (a ∷ (b ∷ (c ∷ (d ∷ words)))) e = omega arith

by_cancel : (words : List (List ℕ)) (cancels : Bool) → is_some (cancel_in words) ≡ cancels
    → 3 ≤ length words → cond cancels 4 3 ≤ length words
by_cancel words true e three = fourth_there words e
by_cancel words false e three = three

-- and so are all words before the parameters
pub before_there : (words : List (List ℕ)) → has_between 3 (before_params words + 4) words ≡ true
    → before_params words ≤ length words
before_there words e = by_cancel words (is_some (cancel_in words)) refl (at_least 3 (before_params words + 4) words e)

-- that many, by the word that cancels
pub before_is : (words : List (List ℕ)) (count : ℕ) (cancel : Option (Bor (List ℕ)))
    → count ≡ cond (is_some (option_copied cancel)) 4 3 → option_map (λ (number : Bor (List ℕ)). number.now) cancel ≡ cancel_in words
    → count ≡ before_params words
before_is words count None e is = e ∙ ap (λ (o : Option (List ℕ)). cond (is_some o) 4 3) is
before_is words count (Some number) e is = e ∙ ap (λ (o : Option (List ℕ)). cond (is_some o) 4 3) is
