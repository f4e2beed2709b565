-- The lines of a canonical text say what they are written of.
use Rattle.std.proofs.Common.{◌≡◌, ℕ, ◌-◌, ◌<◌, ◌≤◌, ◌^◌, Bool, true, false, not, ◌&&◌, eqb, ltb, List, [], ◌∷◌, ◌++◌, length, drop, get_or, ◌⊎◌, inl, inr, Option, Some, None, refl, ap, ◌∙◌, arith, append_assoc}
use Rattle.std.specs.Prelude.{codes, decimal}
use Rattle.std.specs.Char.{digit_value}
use Rattle.std.specs.List.{list_all, AllByRecursion}
use Rattle.std.specs.Option.{unwrap_or}
use Rattle.std.specs.Str.Parse.{AllDigits, digits_value}
use Rattle.std.proofs.lemmas.Bool.{ne_eqb, or_from, or_left, or_right, and_from, and_parts, and_left, not-true, cond-true, cond-false, lt-ltb, le-leb}
use Rattle.std.proofs.lemmas.Bool.Decides.{nat_tests}
use Rattle.std.proofs.lemmas.Fmt.{decimal_is_IsNumeral, decimal_digit, first_decimal}
use Rattle.std.proofs.lemmas.List.{append-nil}
use Rattle.std.proofs.lemmas.List.Elements.{All-from_recursion, All-get_or}
use Rattle.std.proofs.lemmas.List.Folds.{list_all-append}
use Rattle.std.proofs.lemmas.List.Splits.{slice_split_none, slice_split_at}
use Rattle.ta_asm.specs.declared.statement.Statement.{Statement}
use Rattle.ta_asm.specs.declared.statement.Statement.TheVariants.{Unread}
use Rattle.ta_asm.specs.Canonical.{label_name, line_of, spaced}
use Rattle.text_lines.specs.Lines.{is_skipped, Lacks}
use Rattle.text_lines.specs.Words.{words_of}
use Rattle.ta_asm.specs.Lines.{is_label, said_by, said_in, statement_of, statements_of}
use Rattle.ta_asm.specs.Words.{are_digits, decimal_at, digits_at, has_leading_zero, has_radix_prefix, is_name, is_name_byte, number_at, register_at}
use Rattle.ta_asm.proofs.Texts.{first_statement}

-- ---- plain bytes

-- no space, no line feed and no `:`
abbrev pub is_plain : ℕ → Bool
is_plain b = not (eqb b 32) && (not (eqb b 10) && not (eqb b 58))

abbrev pub are_plain : List ℕ → Bool
are_plain word = list_all is_plain word

pub no_byte : (p : ℕ → Bool) (c : ℕ) → ((b : ℕ) → p b ≡ true → eqb b c ≡ false) → (word : List ℕ) → list_all p word ≡ true → AllByRecursion (λ b. eqb b c ≡ false) word
no_byte p c h [] e = tt
no_byte p c h (b ∷ word) e = let k = and_parts (p b) (list_all p word) e in (h b k.0, no_byte p c h word k.1)

no_space_by : (b : ℕ) → is_plain b ≡ true → eqb b 32 ≡ false
no_space_by b e = not-true (eqb b 32) (and_parts (not (eqb b 32)) (not (eqb b 10) && not (eqb b 58)) e).0

no_space : (word : List ℕ) → are_plain word ≡ true → Lacks 32 word
no_space word e = All-from_recursion (λ b. eqb b 32 ≡ false) word (no_byte is_plain 32 no_space_by word e)

-- no line feed and no `:`
abbrev is_quiet : ℕ → Bool
is_quiet b = not (eqb b 10) && not (eqb b 58)

are_quiet : (word : List ℕ) → are_plain word ≡ true → list_all is_quiet word ≡ true
are_quiet [] e = refl
are_quiet (b ∷ word) e =
    let k = and_parts (is_plain b) (are_plain word) e in
    and_from (is_quiet b) (list_all is_quiet word) (and_parts (not (eqb b 32)) (is_quiet b) k.0).1 (are_quiet word k.1)

quiet_append : (xs ys : List ℕ) → list_all is_quiet xs ≡ true → list_all is_quiet ys ≡ true → list_all is_quiet (xs ++ ys) ≡ true
quiet_append xs ys p q = list_all-append is_quiet xs ys ∙ and_from _ _ p q

abbrev pub ArePlain : List (List ℕ) → Type 0
ArePlain words = AllByRecursion (λ w. are_plain w ≡ true) words

quiet_spaced : (words : List (List ℕ)) → ArePlain words → list_all is_quiet (spaced words) ≡ true
quiet_spaced [] h = refl
quiet_spaced (w ∷ words) h = quiet_append w (spaced words) (are_quiet w h.0) (quiet_spaced words h.1)

feed_by : (b : ℕ) → is_quiet b ≡ true → eqb b 10 ≡ false
feed_by b e = not-true (eqb b 10) (and_parts (not (eqb b 10)) (not (eqb b 58)) e).0

colon_by : (b : ℕ) → is_quiet b ≡ true → eqb b 58 ≡ false
colon_by b e = not-true (eqb b 58) (and_parts (not (eqb b 10)) (not (eqb b 58)) e).1

no_feed : (line : List ℕ) → list_all is_quiet line ≡ true → Lacks 10 line
no_feed line e = All-from_recursion (λ b. eqb b 10 ≡ false) line (no_byte is_quiet 10 feed_by line e)

pub no_feed_plain : (word : List ℕ) → are_plain word ≡ true → Lacks 10 word
no_feed_plain word p = no_feed word (are_quiet word p)

-- ---- words

split_words : (first : List ℕ) (words : List (List ℕ)) → are_plain first ≡ true → ArePlain words → words_of (first ++ spaced words) ≡ first ∷ words
split_words first [] p h = ap words_of (append-nil first) ∙ slice_split_none (λ b. eqb b 32) first (no_space first p)
split_words first (w ∷ words) p h =
    slice_split_at (λ b. eqb b 32) first 32 (w ++ spaced words) (no_space first p) refl ∙ ap (λ (ws : List (List ℕ)). first ∷ ws) (split_words w words h.0 h.1)

pub not_skipped : (h : ℕ) (rest : List ℕ) → eqb h 35 ≡ false → is_skipped (h ∷ rest) ≡ false
unfolding is_skipped
not_skipped h rest e = or_from (eqb (length (h ∷ rest)) 0) (eqb h 35) (ne_eqb (length (h ∷ rest)) 0 (λ z. absurd (omega (arith, z)))) e

not_label : (h : ℕ) (rest : List ℕ) → list_all is_quiet (h ∷ rest) ≡ true → is_label (h ∷ rest) ≡ false
unfolding is_label
not_label h rest quiet =
    let line = h ∷ rest in
    let all = All-from_recursion (λ b. eqb b 58 ≡ false) line (no_byte is_quiet 58 colon_by line quiet) in
    and_left (eqb (get_or line (length line - 1) 0) 58) _ (All-get_or (λ b. eqb b 58 ≡ false) line (length line - 1) 0 (omega arith) all)

-- what a line of these words says
pub line_said : (h : ℕ) (t : List ℕ) (words : List (List ℕ)) (s : Statement) → eqb h 35 ≡ false → are_plain (h ∷ t) ≡ true → ArePlain words → said_by (h ∷ t) words ≡ Some s → statement_of ((h ∷ t) ++ spaced words) ≡ s
unfolding statement_of said_in
line_said h t words s mark p w said =
    let quiet : list_all is_quiet ((h ∷ t) ++ spaced words) ≡ true = quiet_append (h ∷ t) (spaced words) (are_quiet (h ∷ t) p) (quiet_spaced words w) in
    rw (not_skipped h (t ++ spaced words) mark, not_label h (t ++ spaced words) quiet) (ap (λ (ws : List (List ℕ)). unwrap_or (said_in ws) Unread) (split_words (h ∷ t) words p w) ∙ ap (λ (o : Option Statement). unwrap_or o Unread) said)

pub line_first : (h : ℕ) (t : List ℕ) (words : List (List ℕ)) (s : Statement) (after : List ℕ) → eqb h 35 ≡ false → are_plain (h ∷ t) ≡ true → ArePlain words → said_by (h ∷ t) words ≡ Some s
    → statements_of (line_of ((h ∷ t) ∷ words) ++ after) ≡ s ∷ statements_of after
line_first h t words s after mark p w said =
    let line = (h ∷ t) ++ spaced words in
    let quiet : list_all is_quiet line ≡ true = quiet_append (h ∷ t) (spaced words) (are_quiet (h ∷ t) p) (quiet_spaced words w) in
    let parts : line_of ((h ∷ t) ∷ words) ++ after ≡ line ++ 10 ∷ after = simp append_assoc in
    first_statement (line_of ((h ∷ t) ∷ words) ++ after) line after (no_feed line quiet, parts) ∙ ap (λ (x : Statement). x ∷ statements_of after) (line_said h t words s mark p w said)

-- ---- decimal numbers

digit_range : (c : ℕ) → digit_value c < 10 → (48 ≤ c) × (c ≤ 57)
digit_range c h = (grind (arith, nat_tests), grind (arith, nat_tests))

plain_digit : (c : ℕ) → digit_value c < 10 → is_plain c ≡ true
plain_digit c h =
    let r = digit_range c h in
    and_from _ _ (ap not (ne_eqb c 32 (λ e. absurd (omega (arith, e, r))))) (and_from _ _ (ap not (ne_eqb c 10 (λ e. absurd (omega (arith, e, r))))) (ap not (ne_eqb c 58 (λ e. absurd (omega (arith, e, r))))))

plain_digits : (word : List ℕ) → AllDigits 10 word → are_plain word ≡ true
plain_digits [] d = refl
plain_digits (c ∷ word) d = and_from _ _ (plain_digit c d.0) (plain_digits word d.1)

pub plain_decimal : (n : ℕ) → n < 2 ^ 64 → are_plain (decimal n) ≡ true
plain_decimal n small = plain_digits (decimal n) (decimal_is_IsNumeral n small).0.1

tests_digits : (radix : ℕ) (word : List ℕ) → AllDigits radix word → list_all (λ c. ltb (digit_value c) radix) word ≡ true
tests_digits radix [] d = refl
tests_digits radix (c ∷ cs) d = and_from _ _ (lt-ltb _ _ d.0) (tests_digits radix cs d.1)

digits_back : (n : ℕ) → n < 2 ^ 32 → digits_at 10 (decimal n) ≡ Some n
unfolding digits_at
digits_back n small =
    let d = decimal_is_IsNumeral n (omega arith) in
    let are : are_digits 10 (decimal n) ≡ true = and_from _ _ (lt-ltb 0 _ d.0.0) (tests_digits 10 (decimal n) d.0.1) in
    let below : ltb (digits_value 10 (decimal n)) (2 ^ 32) ≡ true = lt-ltb _ _ (omega (arith, d.1)) in
    cond-true _ (Some (digits_value 10 (decimal n))) None (and_from _ _ are below) ∙ ap (λ (v : ℕ). Some v) d.1

zero_or_more : (n : ℕ) → (n ≡ 0) ⊎ (0 < n)
zero_or_more n = grind arith

first_apart : (n : ℕ) → 0 < n → n < 2 ^ 64 → eqb (get_or (decimal n) 0 0) 48 ≡ false
first_apart n some small = ne_eqb _ 48 (λ e. absurd (omega (arith, e, first_decimal n some small)))

no_leading : (n : ℕ) → n < 2 ^ 64 → has_leading_zero (decimal n) ≡ false
no_leading n small =
    elim (zero_or_more n) [
      | inl z ↦ ap (λ (k : ℕ). has_leading_zero (decimal k)) z ∙ ap has_leading_zero (decimal_digit 0 (omega arith))
      | inr some ↦ and_left _ _ (first_apart n some small)
    ]

no_prefix : (n : ℕ) → n < 2 ^ 64 → has_radix_prefix (decimal n) ≡ false
no_prefix n small =
    elim (zero_or_more n) [
      | inl z ↦ ap (λ (k : ℕ). has_radix_prefix (decimal k)) z ∙ ap has_radix_prefix (decimal_digit 0 (omega arith))
      | inr some ↦ and_left _ _ (first_apart n some small)
    ]

pub decimal_back : (n : ℕ) → n < 2 ^ 32 → decimal_at (decimal n) ≡ Some n
unfolding decimal_at
decimal_back n small = cond-false _ None (digits_at 10 (decimal n)) (no_leading n (omega arith)) ∙ digits_back n small

pub number_back : (n : ℕ) → n < 2 ^ 32 → number_at (decimal n) ≡ Some n
unfolding number_at
number_back n small = cond-false _ (digits_at 16 (drop 2 (decimal n))) (decimal_at (decimal n)) (no_prefix n (omega arith)) ∙ decimal_back n small

-- ---- registers and labels

pub register_back : (n : ℕ) → n < 16 → register_at (codes "r" ++ decimal n) ≡ Some n
unfolding register_at
register_back n small = rw (decimal_back n (omega arith)) (cond-true _ (Some n) None (le-leb n 15 (omega arith)))

name_digit : (c : ℕ) → digit_value c < 10 → is_name_byte c ≡ true
name_digit c h =
    let r = digit_range c h in
    or_left _ _ (or_right _ _ (and_from _ _ (le-leb 48 c r.0) (le-leb c 57 r.1)))

name_digits : (word : List ℕ) → AllDigits 10 word → list_all is_name_byte word ≡ true
name_digits [] d = refl
name_digits (c ∷ word) d = and_from _ _ (name_digit c d.0) (name_digits word d.1)

pub name_back : (n : ℕ) → n < 2 ^ 64 → is_name (label_name n) ≡ true
unfolding is_name
name_back n small =
    let digits = name_digits (decimal n) (decimal_is_IsNumeral n small).0.1 in
    and_from _ _ (and_from _ _ (lt-ltb 0 (length (label_name n)) (omega arith)) refl) digits
