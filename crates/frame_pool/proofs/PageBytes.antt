-- Where a byte of some pages stands in the one list of their bytes.
use Rattle.std.proofs.Common.{◌≡◌, ℕ, zero, suc, ◌+◌, ◌-◌, ◌*◌, ◌<◌, ◌≤◌, List, [], ◌∷◌, ◌++◌, length, take, drop, true, false, Some, None, refl, sym, ◌∙◌, ap, arith, length-append, append_assoc, length-drop, drop-drop}
use Rattle.std.proofs.Math.ListN.{set}
use Rattle.std.proofs.Math.Nat.{mul-le-mul_left}
use Rattle.std.proofs.Math.Seq.{take-append-add, drop-append-add}
use Rattle.std.proofs.lemmas.List.{set-append_left, set-append_right, append-nil, take-append-le, drop-append-le, length-take, take_at, take-take, drop-take, take-append-drop}
use Rattle.std.proofs.lemmas.Bool.Decides.{nat_tests}
use Rattle.std.proofs.lemmas.Option.{slice_get_past, slice_get-get_or}
use Rattle.std.specs.List.{All, concat, slice_get}
use Rattle.base.specs.Bytes.{has_bytes, overwritten, written}
use Rattle.ta_step.specs.Bytes.{word_at}
use Rattle.ta_step.proofs.Words.{word_found, word_short}

-- ---- bytes of two lists in a row

slice_get-left : (xs ys : List ℕ) (i : ℕ) → i < length xs → slice_get (xs ++ ys) i ≡ slice_get xs i
slice_get-left [] ys i h = absurd (omega arith)
slice_get-left (x ∷ xs) ys zero h = refl
slice_get-left (x ∷ xs) ys (suc i) h = slice_get-left xs ys i (omega arith)

slice_get-right : (xs ys : List ℕ) (n i : ℕ) → n ≡ length xs + i → slice_get (xs ++ ys) n ≡ slice_get ys i
slice_get-right [] ys n i e = let same : n ≡ i = omega arith in rw same refl
slice_get-right (x ∷ xs) ys zero i e = absurd (omega arith)
slice_get-right (x ∷ xs) ys (suc n) i e = slice_get-right xs ys n i (omega arith)

-- ---- pages of one size

abbrev pub Each : ℕ → List (List ℕ) → Type 0
Each size pages = All (λ page. length page ≡ size) pages

first : (size : ℕ) (page : List ℕ) (pages : List (List ℕ)) → Each size (page ∷ pages) → length page ≡ size
first size page pages all = all 0 page (omega arith)

others : (size : ℕ) (page : List ℕ) (pages : List (List ℕ)) → Each size (page ∷ pages) → Each size pages
others size page pages all = λ k d h. all (suc k) d (omega arith)

pub length-concat : (size : ℕ) (pages : List (List ℕ)) → Each size pages →
    length (concat pages) ≡ size * length pages
length-concat size [] all = omega arith
length-concat size (p ∷ ps) all =
    omega (arith, length-append p (concat ps), first size p ps all, length-concat size ps (others size p ps all))

-- one page more
pub concat_more : (pages : List (List ℕ)) (page : List ℕ) → concat (pages ++ page ∷ []) ≡ concat pages ++ page
concat_more [] page = append-nil page
concat_more (p ∷ ps) page = rw append_assoc (ap (λ bytes. p ++ bytes) (concat_more ps page))

-- the byte of this page at this place
pub slice_get-concat : (size : ℕ) (pages : List (List ℕ)) (q r n : ℕ) (page : List ℕ) (x : ℕ) → Each size pages →
    r < size → slice_get pages q ≡ Some page → slice_get page r ≡ Some x → n ≡ size * q + r →
    slice_get (concat pages) n ≡ Some x
slice_get-concat size [] q r n page x all below found byte e = absurd (cc)
slice_get-concat size (p ∷ ps) zero r n page x all below found byte e =
    let same : p ≡ page = cc in
    let at : n ≡ r = omega arith in
    let there : r < length p = omega (arith, first size p ps all) in
    rw at (slice_get-left p (concat ps) r there ∙ rw same byte)
slice_get-concat size (p ∷ ps) (suc q) r n page x all below found byte e =
    slice_get-right p (concat ps) n (size * q + r) (omega (arith, first size p ps all))
    ∙ slice_get-concat size ps q r (size * q + r) page x (others size p ps all) below found byte refl

-- there is none behind the last page
pub slice_get-concat_past : (size : ℕ) (pages : List (List ℕ)) (q r n : ℕ) → Each size pages →
    length pages ≤ q → n ≡ size * q + r → slice_get (concat pages) n ≡ None
slice_get-concat_past size pages q r n all past e =
    slice_get_past (concat pages) n (omega (arith, length-concat size pages all, mul-le-mul_left size past))

-- a byte written in this page
pub set-concat : (size : ℕ) (pages : List (List ℕ)) (q r n : ℕ) (page : List ℕ) (v : ℕ) → Each size pages →
    r < size → slice_get pages q ≡ Some page → n ≡ size * q + r →
    concat (set pages q (set page r v)) ≡ set (concat pages) n v
set-concat size [] q r n page v all below found e = absurd (cc)
set-concat size (p ∷ ps) zero r n page v all below found e =
    let same : page ≡ p = cc in
    let at : n ≡ r = omega arith in
    let there : r < length p = omega (arith, first size p ps all) in
    rw (at, same) (sym (set-append_left p (concat ps) r v there))
set-concat size (p ∷ ps) (suc q) r n page v all below found e =
    let whole : length p ≡ size = first size p ps all in
    ap (λ bytes. p ++ bytes) (set-concat size ps q r (n - size) page v (others size p ps all) below found (omega arith))
    ∙ sym (set-append_right p (concat ps) size n v whole (omega arith))

-- ---- words of pages

pub whole_page : (size : ℕ) (pages : List (List ℕ)) (q : ℕ) (page : List ℕ) → Each size pages → slice_get pages q ≡ Some page →
    length page ≡ size
whole_page size [] q page all found = absurd (cc)
whole_page size (p ∷ ps) zero page all found = let same : page ≡ p = cc in rw same (first size p ps all)
whole_page size (p ∷ ps) (suc q) page all found = whole_page size ps q page (others size p ps all) found

-- the word that lies in this page
pub word_at-concat : (size : ℕ) (pages : List (List ℕ)) (q r n : ℕ) (page : List ℕ) → Each size pages →
    r + 4 ≤ size → slice_get pages q ≡ Some page → n ≡ size * q + r →
    word_at (concat pages) n ≡ word_at page r
word_at-concat size pages q r n page all within found e =
    let long = whole_page size pages q page all found in
    let f0 = slice_get-get_or page r 0 (omega arith) in
    let f1 = slice_get-get_or page (r + 1) 0 (omega arith) in
    let f2 = slice_get-get_or page (r + 2) 0 (omega arith) in
    let f3 = slice_get-get_or page (r + 3) 0 (omega arith) in
    let g0 = slice_get-concat size pages q r n page _ all (omega arith) found f0 e in
    let g1 = slice_get-concat size pages q (r + 1) (n + 1) page _ all (omega arith) found f1 (omega arith) in
    let g2 = slice_get-concat size pages q (r + 2) (n + 2) page _ all (omega arith) found f2 (omega arith) in
    let g3 = slice_get-concat size pages q (r + 3) (n + 3) page _ all (omega arith) found f3 (omega arith) in
    word_found (concat pages) n _ _ _ _ g0 g1 g2 g3 ∙ sym (word_found page r _ _ _ _ f0 f1 f2 f3)

-- there is none behind the last page
pub word_at-concat_past : (size : ℕ) (pages : List (List ℕ)) (q r n : ℕ) → Each size pages →
    length pages ≤ q → n ≡ size * q + r → word_at (concat pages) n ≡ None
word_at-concat_past size pages q r n all past e =
    word_short (concat pages) n (omega (arith, length-concat size pages all, mul-le-mul_left size past))

overwritten-left : (xs ys : List ℕ) (at : ℕ) (new : List ℕ) → at + length new ≤ length xs →
    overwritten (xs ++ ys) at new ≡ overwritten xs at new ++ ys
overwritten-left xs ys at new le =
    let before : at ≤ length xs = omega arith in
    ap (λ l. l ++ new ++ drop (at + length new) (xs ++ ys)) (take-append-le at xs ys before)
    ∙ ap (λ l. take at xs ++ new ++ l) (drop-append-le (at + length new) xs ys le)
    ∙ sym (append_assoc (take at xs ++ new) (drop (at + length new) xs) ys)

overwritten-right : (xs ys : List ℕ) (at n : ℕ) (new : List ℕ) → n ≡ length xs + at →
    overwritten (xs ++ ys) n new ≡ xs ++ overwritten ys at new
overwritten-right xs ys at n new e =
    let behind : n + length new ≡ length xs + (at + length new) = omega arith in
    let rest = drop (at + length new) ys in
    let front : take n (xs ++ ys) ≡ xs ++ take at ys = ap (λ k. take k (xs ++ ys)) e ∙ take-append-add xs ys at in
    let back : drop (n + length new) (xs ++ ys) ≡ rest =
    ap (λ k. drop k (xs ++ ys)) behind ∙ drop-append-add xs ys (at + length new)
    in
    ap (λ l. l ++ new ++ drop (n + length new) (xs ++ ys)) front
    ∙ ap (λ l. (xs ++ take at ys) ++ new ++ l) back
    ∙ ap (λ l. l ++ rest) (append_assoc xs (take at ys) new)
    ∙ append_assoc xs (take at ys ++ new) rest

-- bytes written in this page
pub overwritten-concat : (size : ℕ) (pages : List (List ℕ)) (q r n : ℕ) (page new : List ℕ) → Each size pages →
    r + length new ≤ size → slice_get pages q ≡ Some page → n ≡ size * q + r →
    concat (set pages q (overwritten page r new)) ≡ overwritten (concat pages) n new
overwritten-concat size [] q r n page new all within found e = absurd (cc)
overwritten-concat size (p ∷ ps) zero r n page new all within found e =
    let same : page ≡ p = cc in
    let at : n ≡ r = omega arith in
    let there : r + length new ≤ length p = omega (arith, first size p ps all) in
    rw (at, same) (sym (overwritten-left p (concat ps) r new there))
overwritten-concat size (p ∷ ps) (suc q) r n page new all within found e =
    let long : length p ≡ size = first size p ps all in
    ap (λ bytes. p ++ bytes) (overwritten-concat size ps q r (size * q + r) page new (others size p ps all) within found refl)
    ∙ sym (overwritten-right p (concat ps) (size * q + r) n new (omega (arith, long)))

-- ---- bytes that are all there, and bytes behind the last page

pub written-there : (xs new : List ℕ) (n : ℕ) → n + length new ≤ length xs → written xs n new ≡ overwritten xs n new
written-there xs new n le =
    let there : has_bytes xs n (length new) ≡ true = grind (arith, nat_tests, le) in
    rw there refl

pub written-past : (xs new : List ℕ) (n : ℕ) → length xs < n + length new → written xs n new ≡ xs
written-past xs new n lt =
    let past : has_bytes xs n (length new) ≡ false = grind (arith, nat_tests, lt) in
    rw past refl

-- ---- parts of pages

-- the part that lies in this page
pub part_of-concat : (size : ℕ) (pages : List (List ℕ)) (q r n count : ℕ) (page : List ℕ) → Each size pages →
    r + count ≤ size → slice_get pages q ≡ Some page → n ≡ size * q + r →
    take count (drop n (concat pages)) ≡ take count (drop r page)
part_of-concat size [] q r n count page all within found e = absurd (cc)
part_of-concat size (p ∷ ps) zero r n count page all within found e =
    let same : p ≡ page = cc in
    let at : n ≡ r = omega arith in
    let long : length p ≡ size = first size p ps all in
    let here : r ≤ length p = omega arith in
    let rest : count ≤ length (drop r p) = omega (arith, length-drop r p) in
    ap (λ (k : ℕ). take count (drop k (p ++ concat ps))) at
    ∙ ap (take count) (drop-append-le r p (concat ps) here)
    ∙ take-append-le count (drop r p) (concat ps) rest
    ∙ ap (λ (l : List ℕ). take count (drop r l)) same
part_of-concat size (p ∷ ps) (suc q) r n count page all within found e =
    let long : length p ≡ size = first size p ps all in
    let behind : n ≡ length p + (size * q + r) = omega arith in
    ap (λ (k : ℕ). take count (drop k (p ++ concat ps))) behind
    ∙ ap (take count) (drop-append-add p (concat ps) (size * q + r))
    ∙ part_of-concat size ps q r (size * q + r) count page (others size p ps all) within found refl

-- a part with the next bytes of it
more_of : (all : List ℕ) (done count : ℕ) → take done all ++ take count (drop done all) ≡ take (done + count) all
more_of all done count =
    ap (λ (l : List ℕ). l ++ take count (drop done all)) (sym (take-take done (done + count) all (omega arith)))
    ∙ ap (λ (l : List ℕ). take done (take (done + count) all) ++ l) (sym (drop-take done count all))
    ∙ take-append-drop done (take (done + count) all)

-- the next bytes of a part written behind those that are
pub overwritten-more : (xs all : List ℕ) (place done count at : ℕ) → at ≡ place + done → place + length all ≤ length xs →
    done + count ≤ length all →
    overwritten (overwritten xs place (take done all)) at (take count (drop done all)) ≡ overwritten xs place (take (done + count) all)
overwritten-more xs all place done count at e fits most =
    let now = take done all in
    let next = take count (drop done all) in
    let written = take place xs ++ now in
    let rest = drop (place + length now) xs in
    let now_long : length now ≡ done = omega (arith, length-take done all) in
    let next_long : length next ≡ count = omega (arith, length-take count (drop done all), length-drop done all) in
    let all_long : length (take (done + count) all) ≡ done + count = omega (arith, length-take (done + count) all) in
    let long : length written ≡ at = omega (arith, length-append (take place xs) now, length-take place xs) in
    let front : take at (written ++ rest) ≡ written = take_at written rest at long in
    let behind : at + length next ≡ length written + count = omega arith in
    let place_of : place + length now + count ≡ place + length (take (done + count) all) = omega arith in
    ap (λ (l : List ℕ). l ++ next ++ drop (at + length next) (written ++ rest)) front
    ∙ ap (λ (k : ℕ). written ++ next ++ drop k (written ++ rest)) behind
    ∙ ap (λ (l : List ℕ). written ++ next ++ l) (drop-append-add written rest count ∙ drop-drop count (place + length now) xs)
    ∙ ap (λ (k : ℕ). written ++ next ++ drop k xs) place_of
    ∙ ap (λ (l : List ℕ). l ++ drop (place + length (take (done + count) all)) xs)
    (append_assoc (take place xs) now next ∙ ap (λ (l : List ℕ). take place xs ++ l) (more_of all done count))
