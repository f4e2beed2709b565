-- The new data of a write, with one more piece of the old.
use Rattle.std.proofs.Common.{◌≡◌, ℕ, ◌+◌, ◌-◌, ◌<◌, ◌≤◌, true, false, nat_lt, List, [], ◌++◌, length, take, drop, refl, ap, sym, ◌∙◌, arith, inl, inr, append_assoc, length-append}
use Rattle.std.specs.Prelude.{if◌then◌else◌}
use Rattle.std.proofs.lemmas.Bool.{cases_lt}
use Rattle.std.proofs.lemmas.Bool.Decides.{nat_tests}
use Rattle.std.proofs.lemmas.List.{drop_all, drop-append-le, take-append-le}
use Rattle.std.proofs.Math.Seq.{drop-append-add, take-append-add}
use Rattle.base.specs.Bytes.{overwritten}

-- what is made of so much of the old data, where these bytes are written at the position
abbrev pub put_at : ℕ → List ℕ → List ℕ → List ℕ
put_at position written content = if nat_lt position (length content) then overwritten content position written else content

below : (m n : ℕ) → m < n → nat_lt m n ≡ true
below m n lt = grind (arith, nat_tests)

not_below : (m n : ℕ) → n ≤ m → nat_lt m n ≡ false
not_below m n le = grind (arith, nat_tests)

-- the position is in the piece
pub put_in : (position before : ℕ) (written content piece : List ℕ) → position ≡ length content + before → before < length piece
    → put_at position written (content ++ piece)
    ≡ put_at position written content ++ take before piece ++ written ++ drop (before + length written) piece
put_in position before written content piece at lt =
    let short : nat_lt position (length content) ≡ false = not_below _ _ (omega arith) in
    let long : nat_lt position (length (content ++ piece)) ≡ true = below _ _ (omega (arith, length-append content piece)) in
    let behind : position + length written ≡ length content + (before + length written) = omega arith in
    rw (short, long, behind, at, take-append-add content piece before, drop-append-add content piece (before + length written)) refl

drop_on : (n : ℕ) (content piece : List ℕ) → drop n (content ++ piece) ≡ drop n content ++ drop (n - length content) piece
drop_on n content piece = elim (cases_lt (length content) n) [ inl lt ↦ past n content piece lt | inr le ↦ within n content piece le ]
  where
    within : (n : ℕ) (content piece : List ℕ) → n ≤ length content → drop n (content ++ piece) ≡ drop n content ++ drop (n - length content) piece
    within n content piece le =
        let none : n - length content ≡ 0 = omega arith in
        rw none (drop-append-le n content piece le)

    past : (n : ℕ) (content piece : List ℕ) → length content < n → drop n (content ++ piece) ≡ drop n content ++ drop (n - length content) piece
    past n content piece lt =
        let all : drop n content ≡ [] = drop_all n content (omega arith) in
        let sum : n ≡ length content + (n - length content) = omega arith in
        ap (λ (k : ℕ). drop k (content ++ piece)) sum ∙ drop-append-add content piece (n - length content) ∙ rw all refl

-- it stands behind the position
pub put_behind : (position : ℕ) (written content piece : List ℕ) → position < length content
    → put_at position written (content ++ piece)
    ≡ put_at position written content ++ drop (position + length written - length content) piece
put_behind position written content piece lt =
    let short : nat_lt position (length content) ≡ true = below _ _ lt in
    let long : nat_lt position (length (content ++ piece)) ≡ true = below _ _ (omega (arith, length-append content piece)) in
    rw (short, long, take-append-le position content piece (omega arith), drop_on (position + length written) content piece)
    (sym (append_assoc (take position content ++ written) (drop (position + length written) content) (drop (position + length written - length content) piece)))

-- ---- behind what stands before the data

pub one_behind : (front now more next : List ℕ) → next ≡ now ++ more → front ++ now ++ more ≡ front ++ next
one_behind front now more next is = append_assoc front now more ∙ ap (λ (l : List ℕ). front ++ l) (sym is)

pub three_behind : (front now first second third next : List ℕ) → next ≡ now ++ first ++ second ++ third
    → front ++ now ++ first ++ second ++ third ≡ front ++ next
three_behind front now first second third next is =
    ap (λ (l : List ℕ). l ++ second ++ third) (append_assoc front now first)
    ∙ ap (λ (l : List ℕ). l ++ third) (append_assoc front (now ++ first) second)
    ∙ one_behind front (now ++ first ++ second) third next is
