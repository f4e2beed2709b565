-- The word that four bytes make.
use Rattle.std.proofs.Common.{◌≡◌, ℕ, ◌+◌, ◌<◌, ◌≤◌, Bool, true, false, List, [], ◌∷◌, ◌++◌, length, take, drop, get_or, set, Some, None, refl, ap, sym, ◌∙◌, arith, append-nil}
use Rattle.std.specs.Prelude.{slice_get}
use Rattle.std.specs.Int.{w32, from_le_bytes}
use Rattle.std.proofs.lemmas.Bool.Decides.{nat_tests}
use Rattle.std.proofs.lemmas.Option.{get_or_from_slice_get, slice_get_within, slice_get_cases}
use Rattle.std.proofs.lemmas.Bool.{leb-true}
use Rattle.std.proofs.lemmas.List.{get_or-drop, set_past, take-append-drop, take_all}
use Rattle.base.proofs.Overwriting.{overwritten-next}
use Rattle.base.specs.Bytes.{has_bytes, overwritten, written}
use Rattle.ta_step.specs.Bytes.{word_at}

missing : (xs : List ℕ) (i : ℕ) → slice_get xs i ≡ None → length xs ≤ i
missing xs i e = grind (arith, slice_get_cases, e)

pub word_cut : (xs : List ℕ) (place i : ℕ) → place ≤ i → i < place + 4 → slice_get xs i ≡ None → word_at xs place ≡ None
word_cut xs place i le lt e =
    let short = missing xs i e in
    let none : has_bytes xs place 4 ≡ false = grind (arith, nat_tests, short) in
    rw none refl

byte_at : (xs : List ℕ) (place k b : ℕ) → slice_get xs (place + k) ≡ Some b → get_or (drop place xs) k 0 ≡ b
byte_at xs place k b e = get_or-drop place xs k 0 ∙ get_or_from_slice_get xs (place + k) b 0 e

pub word_found : (xs : List ℕ) (place b0 b1 b2 b3 : ℕ) → slice_get xs place ≡ Some b0 → slice_get xs (place + 1) ≡ Some b1
    → slice_get xs (place + 2) ≡ Some b2 → slice_get xs (place + 3) ≡ Some b3
    → word_at xs place ≡ Some (from_le_bytes w32 (b0 ∷ b1 ∷ b2 ∷ b3 ∷ []))
word_found xs place b0 b1 b2 b3 e0 e1 e2 e3 =
    let same : place + 0 ≡ place = omega arith in
    let first : slice_get xs (place + 0) ≡ Some b0 = ap (λ (k : ℕ). slice_get xs k) same ∙ e0 in
    let within = slice_get_within xs (place + 3) b3 e3 in
    let all : has_bytes xs place 4 ≡ true = grind (arith, nat_tests, within) in
    let f0 = byte_at xs place 0 b0 first in
    let f1 = byte_at xs place 1 b1 e1 in
    let f2 = byte_at xs place 2 b2 e2 in
    let f3 = byte_at xs place 3 b3 e3 in
    rw (all, f0, f1, f2, f3) refl

-- ---- a word of a list that is at hand whole

pub word_short : (xs : List ℕ) (place : ℕ) → length xs < place + 4 → word_at xs place ≡ None
word_short xs place lt =
    let none : has_bytes xs place 4 ≡ false = grind (arith, nat_tests) in
    rw none refl

pub word_read : (xs : List ℕ) (place b0 b1 b2 b3 : ℕ) → place + 4 ≤ length xs → b0 ≡ get_or xs place 0 → b1 ≡ get_or xs (place + 1) 0
    → b2 ≡ get_or xs (place + 2) 0 → b3 ≡ get_or xs (place + 3) 0
    → word_at xs place ≡ Some (from_le_bytes w32 (b0 ∷ b1 ∷ b2 ∷ b3 ∷ []))
word_read xs place b0 b1 b2 b3 le e0 e1 e2 e3 =
    let all : has_bytes xs place 4 ≡ true = grind (arith, nat_tests) in
    let same : place + 0 ≡ place = omega arith in
    let f0 : get_or (drop place xs) 0 0 ≡ b0 = get_or-drop place xs 0 0 ∙ ap (λ (k : ℕ). get_or xs k 0) same ∙ sym e0 in
    let f1 : get_or (drop place xs) 1 0 ≡ b1 = get_or-drop place xs 1 0 ∙ sym e1 in
    let f2 : get_or (drop place xs) 2 0 ≡ b2 = get_or-drop place xs 2 0 ∙ sym e2 in
    let f3 : get_or (drop place xs) 3 0 ≡ b3 = get_or-drop place xs 3 0 ∙ sym e3 in
    rw (all, f0, f1, f2, f3) refl

-- ---- bytes written one after another

no_bytes : (xs : List ℕ) (place : ℕ) → overwritten xs place [] ≡ xs
no_bytes xs place =
    let same : place + 0 ≡ place = omega arith in
    ap (λ (l : List ℕ). l ++ drop (place + 0) xs) (append-nil (take place xs))
    ∙ ap (λ (k : ℕ). take place xs ++ drop k xs) same
    ∙ take-append-drop place xs

-- the first byte of some that are all there
first_byte : (xs all : List ℕ) (place : ℕ) → 0 < length all → place + length all ≤ length xs
    → set xs place (get_or all 0 0) ≡ overwritten xs place (take 1 all)
first_byte xs all place some inside =
    ap (λ (l : List ℕ). set l place (get_or all 0 0)) (sym (no_bytes xs place))
    ∙ overwritten-next xs all place 0 place (get_or all 0 0) (omega arith) some inside refl

pub word_set : (xs word : List ℕ) (place : ℕ) → length word ≡ 4 → place + 4 ≤ length xs
    → set (set (set (set xs place (get_or word 0 0)) (place + 1) (get_or word 1 0)) (place + 2) (get_or word 2 0)) (place + 3) (get_or word 3 0)
    ≡ overwritten xs place word
word_set xs word place four fits =
    let inside : place + length word ≤ length xs = omega (arith, four) in
    let one = first_byte xs word place (omega (arith, four)) inside in
    let second = overwritten-next xs word place 1 (place + 1) (get_or word 1 0) refl (omega (arith, four)) inside refl in
    let third = overwritten-next xs word place 2 (place + 2) (get_or word 2 0) refl (omega (arith, four)) inside refl in
    let fourth = overwritten-next xs word place 3 (place + 3) (get_or word 3 0) refl (omega (arith, four)) inside refl in
    let two = ap (λ (l : List ℕ). set l (place + 1) (get_or word 1 0)) one ∙ second in
    let three = ap (λ (l : List ℕ). set l (place + 2) (get_or word 2 0)) two ∙ third in
    let whole : take 4 word ≡ word = take_all 4 word (omega (arith, four)) in
    ap (λ (l : List ℕ). set l (place + 3) (get_or word 3 0)) three ∙ fourth ∙ ap (overwritten xs place) whole

byte_either : (xs : List ℕ) (place value : ℕ) (b : Bool) → has_bytes xs place 1 ≡ b → written xs place (value ∷ []) ≡ set xs place value
byte_either xs place value true e =
    let fits : place + 1 ≤ length xs = leb-true (place + 1) (length xs) e in
    let first = first_byte xs (value ∷ []) place (omega arith) fits in
    rw e (sym first)
byte_either xs place value false e =
    let past : length xs ≤ place = grind (arith, nat_tests, e) in
    rw e (sym (set_past xs place value past))

pub byte_written : (xs : List ℕ) (place value : ℕ) → written xs place (value ∷ []) ≡ set xs place value
byte_written xs place value = byte_either xs place value (has_bytes xs place 1) refl
