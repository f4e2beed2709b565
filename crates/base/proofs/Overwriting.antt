-- Bytes written over others: how many they are, what stands there and elsewhere afterwards, what a second write leaves,
-- and one byte after another.
use Rattle.std.proofs.Common.{◌≡◌, ℕ, suc, ◌+◌, ◌-◌, ◌<◌, ◌≤◌, Bool, true, false, List, [], ◌∷◌, ◌++◌, length, take, drop, get_or, set, refl, ap, sym, ◌∙◌, arith, append_assoc, append-nil, length-append, length-drop, drop-drop}
use Rattle.std.specs.Prelude.{if◌then◌else◌, nat_le}
use Rattle.std.proofs.Math.Seq.{set-append_seam}
use Rattle.std.proofs.lemmas.Bool.{leb-true}
use Rattle.std.proofs.lemmas.List.{length-set, length-take, take-append-drop, take_at, drop_at, set_split, set-append_left, set-append_right, drop_more, take_more}
use Rattle.base.specs.Bytes.{has_bytes, overwritten, written}

length-front : (xs : List ℕ) (place count : ℕ) → place + count ≤ length xs → length (take place xs) ≡ place
length-front xs place count le = omega (arith, length-take place xs)

pub length-overwritten : (xs : List ℕ) (place : ℕ) (new : List ℕ) → place + length new ≤ length xs → length (overwritten xs place new) ≡ length xs
length-overwritten xs place new le =
    omega (arith, length-append (take place xs ++ new) (drop (place + length new) xs), length-append (take place xs) new, length-take place xs, length-drop (place + length new) xs)

-- what stands there afterwards
pub part-overwritten : (xs : List ℕ) (place : ℕ) (new : List ℕ) → place + length new ≤ length xs
    → take (length new) (drop place (overwritten xs place new)) ≡ new
part-overwritten xs place new le =
    let rest = drop (place + length new) xs in
    ap (λ (l : List ℕ). take (length new) (drop place l)) (append_assoc (take place xs) new rest)
    ∙ ap (take (length new)) (drop_at (take place xs) (new ++ rest) place (length-front xs place (length new) le))
    ∙ take_at new rest (length new) refl

-- what stands behind it stays
pub behind-overwritten : (xs : List ℕ) (place : ℕ) (new : List ℕ) → place + length new ≤ length xs
    → drop (place + length new) (overwritten xs place new) ≡ drop (place + length new) xs
behind-overwritten xs place new le =
    let long : length (take place xs ++ new) ≡ place + length new = omega (arith, length-append (take place xs) new, length-front xs place (length new) le) in
    drop_at (take place xs ++ new) (drop (place + length new) xs) (place + length new) long

-- what stands before it stays
pub before-overwritten : (xs : List ℕ) (place : ℕ) (new : List ℕ) → place + length new ≤ length xs → take place (overwritten xs place new) ≡ take place xs
before-overwritten xs place new le =
    ap (take place) (append_assoc (take place xs) new (drop (place + length new) xs))
    ∙ take_at (take place xs) (new ++ drop (place + length new) xs) place (length-front xs place (length new) le)

-- of two writes of as many bytes the last one counts
pub overwritten-twice : (xs : List ℕ) (place : ℕ) (first new : List ℕ) → length first ≡ length new → place + length new ≤ length xs
    → overwritten (overwritten xs place first) place new ≡ overwritten xs place new
overwritten-twice xs place first new same le =
    let fits : place + length first ≤ length xs = omega arith in
    let front = before-overwritten xs place first fits in
    let back : drop (place + length new) (overwritten xs place first) ≡ drop (place + length new) xs =
    ap (λ (n : ℕ). drop (place + n) (overwritten xs place first)) (sym same)
    ∙ behind-overwritten xs place first fits
    ∙ ap (λ (n : ℕ). drop (place + n) xs) same
    in
    ap (λ (l : List ℕ). l ++ new ++ drop (place + length new) (overwritten xs place first)) front
    ∙ ap (λ (l : List ℕ). take place xs ++ new ++ l) back

-- a write of what stands there changes nothing
pub overwritten-same : (xs : List ℕ) (place count : ℕ) → place + count ≤ length xs → overwritten xs place (take count (drop place xs)) ≡ xs
overwritten-same xs place count le =
    let part = take count (drop place xs) in
    let long : length part ≡ count = omega (arith, length-take count (drop place xs), length-drop place xs) in
    append_assoc (take place xs) part (drop (place + length part) xs)
    ∙ ap (λ (n : ℕ). take place xs ++ (part ++ drop (place + n) xs)) long
    ∙ ap (λ (l : List ℕ). take place xs ++ (part ++ l)) (sym (drop-drop count place xs))
    ∙ ap (λ (l : List ℕ). take place xs ++ l) (take-append-drop count (drop place xs))
    ∙ take-append-drop place xs

-- a write of one byte
overwritten-byte : (xs : List ℕ) (place byte : ℕ) → place < length xs → overwritten xs place (byte ∷ []) ≡ set xs place byte
overwritten-byte xs place byte lt =
    let next : place + 1 ≡ suc place = omega arith in
    append_assoc (take place xs) (byte ∷ []) (drop (place + 1) xs)
    ∙ ap (λ (n : ℕ). take place xs ++ byte ∷ drop n xs) next
    ∙ sym (set_split xs place byte lt)

-- the byte stands in what is written
set-overwritten : (xs : List ℕ) (place : ℕ) (new : List ℕ) (at byte : ℕ) → place + length new ≤ length xs → at < length new
    → set (overwritten xs place new) (place + at) byte ≡ overwritten xs place (set new at byte)
set-overwritten xs place new at byte le lt =
    let front : length (take place xs) ≡ place = length-front xs place (length new) le in
    let within : place + at < length (take place xs ++ new) = omega (arith, length-append (take place xs) new, front) in
    let before : place ≤ place + at = omega arith in
    let here : place + at - place ≡ at = omega arith in
    set-append_left (take place xs ++ new) (drop (place + length new) xs) (place + at) byte within
    ∙ ap (λ (l : List ℕ). l ++ drop (place + length new) xs)
    (set-append_right (take place xs) new place (place + at) byte front before ∙ ap (λ (n : ℕ). take place xs ++ set new n byte) here)
    ∙ ap (λ (n : ℕ). take place xs ++ set new at byte ++ drop (place + n) xs) (sym (length-set new at byte))

-- a write of one byte is one of all bytes of a part, with that byte among them
pub overwritten-one : (xs : List ℕ) (place count at byte : ℕ) → place + count ≤ length xs → at < count
    → overwritten xs (place + at) (byte ∷ []) ≡ overwritten xs place (set (take count (drop place xs)) at byte)
overwritten-one xs place count at byte le lt =
    let part = take count (drop place xs) in
    let long : length part ≡ count = omega (arith, length-take count (drop place xs), length-drop place xs) in
    let within : at < length part = omega arith in
    let fits : place + length part ≤ length xs = omega arith in
    overwritten-byte xs (place + at) byte (omega arith)
    ∙ ap (λ (l : List ℕ). set l (place + at) byte) (sym (overwritten-same xs place count le))
    ∙ set-overwritten xs place part at byte fits within

-- ---- one byte after another

seam : (front xs : List ℕ) (at byte : ℕ) → length front ≡ at → at < length xs
    → set (front ++ drop at xs) at byte ≡ (front ++ byte ∷ []) ++ drop (at + 1) xs
seam front xs at byte e lt =
    ap (λ (t : List ℕ). set (front ++ t) at byte) (drop_more xs at 0 lt)
    ∙ ap (λ (k : ℕ). set (front ++ (get_or xs at 0 ∷ drop (at + 1) xs)) k byte) (sym e)
    ∙ set-append_seam front (get_or xs at 0) (drop (at + 1) xs) byte
    ∙ sym (append_assoc front (byte ∷ []) (drop (at + 1) xs))

-- with one byte more of those that are written
pub overwritten-next : (xs all : List ℕ) (place number at byte : ℕ) → at ≡ place + number → number < length all
    → place + length all ≤ length xs → byte ≡ get_or all number 0
    → set (overwritten xs place (take number all)) at byte ≡ overwritten xs place (take (number + 1) all)
overwritten-next xs all place number at byte e lt fits is =
    let now : length (take number all) ≡ number = omega (arith, length-take number all) in
    let one_more : length (take (number + 1) all) ≡ number + 1 = omega (arith, length-take (number + 1) all) in
    let front = length-append (take place xs) (take number all) in
    let long : length (take place xs ++ take number all) ≡ at = omega (arith, length-take place xs) in
    let within : at < length xs = omega arith in
    let here : place + length (take number all) ≡ at = omega arith in
    let next : at + 1 ≡ place + length (take (number + 1) all) = omega arith in
    ap (λ (k : ℕ). set ((take place xs ++ take number all) ++ drop k xs) at byte) here
    ∙ seam (take place xs ++ take number all) xs at byte long within
    ∙ ap (λ (k : ℕ). ((take place xs ++ take number all) ++ byte ∷ []) ++ drop k xs) next
    ∙ ap (λ (t : List ℕ). t ++ drop (place + length (take (number + 1) all)) xs)
    (append_assoc (take place xs) (take number all) (byte ∷ [])
    ∙ ap (λ (t : List ℕ). take place xs ++ t)
    (ap (λ (b : ℕ). take number all ++ b ∷ []) is ∙ sym (take_more all number 0 lt)))

-- ---- the same where they may not all be there

length-either : (xs : List ℕ) (place : ℕ) (new : List ℕ) (b : Bool) → has_bytes xs place (length new) ≡ b
    → length (if b then overwritten xs place new else xs) ≡ length xs
length-either xs place new true e = length-overwritten xs place new (leb-true (place + length new) (length xs) e)
length-either xs place new false e = refl

pub length-written : (xs : List ℕ) (place : ℕ) (new : List ℕ) → length (written xs place new) ≡ length xs
length-written xs place new = length-either xs place new (has_bytes xs place (length new)) refl

pub written-there : (xs : List ℕ) (place : ℕ) (new : List ℕ) → has_bytes xs place (length new) ≡ true → written xs place new ≡ overwritten xs place new
written-there xs place new e = ap (λ (b : Bool). if b then overwritten xs place new else xs) e

written-absent : (xs : List ℕ) (place : ℕ) (new : List ℕ) → has_bytes xs place (length new) ≡ false → written xs place new ≡ xs
written-absent xs place new e = ap (λ (b : Bool). if b then overwritten xs place new else xs) e

-- as many bytes elsewhere are there as here, where the lists have as many
pub has_bytes-same : (xs ys : List ℕ) (place count : ℕ) → length xs ≡ length ys → has_bytes xs place count ≡ has_bytes ys place count
has_bytes-same xs ys place count e = ap (λ (n : ℕ). nat_le (place + count) n) e

none-either : (xs : List ℕ) (place : ℕ) (b : Bool) → (if b then overwritten xs place [] else xs) ≡ xs
none-either xs place true =
    let same : place + 0 ≡ place = omega arith in
    ap (λ (l : List ℕ). l ++ drop (place + 0) xs) (append-nil (take place xs))
    ∙ ap (λ (n : ℕ). take place xs ++ drop n xs) same
    ∙ take-append-drop place xs
none-either xs place false = refl

pub written-none : (xs : List ℕ) (place : ℕ) → written xs place [] ≡ xs
written-none xs place = none-either xs place (has_bytes xs place 0)

twice-either : (xs : List ℕ) (place : ℕ) (first new : List ℕ) (b : Bool) → length first ≡ length new → has_bytes xs place (length new) ≡ b
    → written (written xs place first) place new ≡ written xs place new
twice-either xs place first new true same e =
    let fits = leb-true (place + length new) (length xs) e in
    let there : has_bytes xs place (length first) ≡ true = ap (has_bytes xs place) same ∙ e in
    let still : has_bytes (written xs place first) place (length new) ≡ true =
    has_bytes-same (written xs place first) xs place (length new) (length-written xs place first) ∙ e
    in
    written-there (written xs place first) place new still
    ∙ ap (λ (l : List ℕ). overwritten l place new) (written-there xs place first there)
    ∙ overwritten-twice xs place first new same fits
    ∙ sym (written-there xs place new e)
twice-either xs place first new false same e =
    let absent : has_bytes xs place (length first) ≡ false = ap (has_bytes xs place) same ∙ e in
    ap (λ (l : List ℕ). written l place new) (written-absent xs place first absent)

pub written-twice : (xs : List ℕ) (place : ℕ) (first new : List ℕ) → length first ≡ length new
    → written (written xs place first) place new ≡ written xs place new
written-twice xs place first new same = twice-either xs place first new (has_bytes xs place (length new)) same refl
