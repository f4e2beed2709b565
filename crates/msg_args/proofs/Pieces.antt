-- The parameters behind the head: pieces of 32 bytes, each read and written by itself.
use Rattle.std.proofs.Common.{◌≡◌, ℕ, zero, suc, ◌+◌, ◌*◌, ◌≤◌, Bool, true, false, cond, not, ltb, List, [], ◌∷◌, ◌++◌, length, take, drop, map, Option, Some, None, refl, sym, ap, ap₂, ◌∙◌, arith, inl, inr, length-append}
use Rattle.std.specs.Prelude.{All}
use Rattle.std.specs.Option.{option_map}
use Rattle.std.specs.List.{flat_map, position_or_len}
use Rattle.std.specs.Simd.{first_chunks}
use Rattle.std.proofs.lemmas.Bool.{cases_Bool, ltb-false}
use Rattle.std.proofs.lemmas.List.{take-append-drop, take-take, drop-take, length-take, length-drop, nil_from_length}
use Rattle.std.proofs.lemmas.List.Elements.{All-cons, All-tail}
use Rattle.msg_args.specs.declared.param.MsgParam.{MsgParam}
use Rattle.msg_args.specs.declared.arg.Misshapen.{Misshapen}
use Rattle.msg_args.specs.declared.arg.Misshapen.TheVariants.{Attr}
use Rattle.msg_args.specs.Attribute.{IsAllowed}
use Rattle.msg_args.specs.Spelling.{param_bytes, FitsParam}
use Rattle.msg_args.specs.Reading.{param_at, has_attribute, bad_param}
use Rattle.base.proofs.Numbers.{IsBytes, IsBytes-drop, IsBytes-take}
use Rattle.msg_args.proofs.Valid.{param_back, param_again}

-- how many pieces stand before the first that is bad
abbrev pub good_len : List (List ℕ) → ℕ
good_len spelled = position_or_len (λ bytes. not (has_attribute bytes)) spelled

-- the first bad piece, by how many stand before it
abbrev pub bad_at : ℕ → Bool → Option Misshapen
bad_at place is_inside = option_map (λ i. Attr i) (cond is_inside (Some place) None)

none_inside : (place : ℕ) (is_inside : Bool) → bad_at place is_inside ≡ None → is_inside ≡ false
none_inside place true e = absurd cc
none_inside place false e = refl

pub all_good : (spelled : List (List ℕ)) → bad_param spelled ≡ None → length spelled ≤ good_len spelled
all_good spelled e = ltb-false _ _ (none_inside (good_len spelled) (ltb (good_len spelled) (length spelled)) e)

good_len-cons : (x : List ℕ) (xs : List (List ℕ)) (b : Bool) → has_attribute x ≡ b → good_len (x ∷ xs) ≡ cond b (1 + good_len xs) 0
good_len-cons x xs true e = ap (λ (b : Bool). cond (not (not b)) (1 + good_len xs) 0) e
good_len-cons x xs false e = ap (λ (b : Bool). cond (not (not b)) (1 + good_len xs) 0) e

-- where all are good, the first is, and the others are
good_parts : (x : List ℕ) (xs : List (List ℕ)) → length (x ∷ xs) ≤ good_len (x ∷ xs) → (has_attribute x ≡ true) × (length xs ≤ good_len xs)
good_parts x xs le =
    elim (cases_Bool (has_attribute x)) [
      | inl good ↦ let e : good_len (x ∷ xs) ≡ 1 + good_len xs = good_len-cons x xs true good in (good, omega arith)
      | inr bad ↦ let e : good_len (x ∷ xs) ≡ 0 = good_len-cons x xs false bad in absurd (omega arith)
    ]

pub length-first_chunks : (n : ℕ) (bytes : List ℕ) → length (first_chunks 32 n bytes) ≡ n
length-first_chunks zero bytes = refl
length-first_chunks (suc n) bytes = ap suc (length-first_chunks n (drop 32 bytes))

-- so many pieces, of bytes that are cut behind them
pub first_chunks-take : (n : ℕ) (bytes : List ℕ) → first_chunks 32 n (take (32 * n) bytes) ≡ first_chunks 32 n bytes
first_chunks-take zero bytes = refl
first_chunks-take (suc n) bytes =
    let more : 32 * suc n ≡ 32 + 32 * n = omega arith in
    let first : take 32 (take (32 * suc n) bytes) ≡ take 32 bytes = take-take 32 (32 * suc n) bytes (omega arith) in
    let others : drop 32 (take (32 * suc n) bytes) ≡ take (32 * n) (drop 32 bytes) = ap (λ (len : ℕ). drop 32 (take len bytes)) more ∙ drop-take 32 (32 * n) bytes in
    ap₂ ◌∷◌ first (ap (first_chunks 32 n) others ∙ first_chunks-take n (drop 32 bytes))

-- the pieces are the spelling of what is read from them
pub pieces_back : (n : ℕ) (bytes : List ℕ) → length bytes ≡ 32 * n → IsBytes bytes → n ≤ good_len (first_chunks 32 n bytes) → (flat_map param_bytes (map param_at (first_chunks 32 n bytes)) ≡ bytes) × All IsAllowed (map param_at (first_chunks 32 n bytes)) × All FitsParam (map param_at (first_chunks 32 n bytes))
pieces_back zero bytes len fits good = (sym (nil_from_length bytes (omega arith)), λ k d lt. absurd (omega arith), λ k d lt. absurd (omega arith))
pieces_back (suc n) bytes len fits good =
    let piece = take 32 bytes in
    let rest = drop 32 bytes in
    let parts = good_parts piece (first_chunks 32 n rest) (omega (arith, length-first_chunks n rest)) in
    let first = param_back piece (omega (arith, length-take 32 bytes)) (IsBytes-take 32 bytes fits) parts.0 in
    let others = pieces_back n rest (omega (arith, length-drop 32 bytes)) (IsBytes-drop 32 bytes fits) (omega (arith, parts.1, length-first_chunks n rest)) in
    let whole : flat_map param_bytes (param_at piece ∷ map param_at (first_chunks 32 n rest)) ≡ bytes =
    ap (λ (x : List ℕ). x ++ flat_map param_bytes (map param_at (first_chunks 32 n rest))) first.0
    ∙ ap (λ (x : List ℕ). piece ++ x) others.0
    ∙ take-append-drop 32 bytes in
    (whole, All-cons IsAllowed (param_at piece) (map param_at (first_chunks 32 n rest)) first.1 others.1, All-cons FitsParam (param_at piece) (map param_at (first_chunks 32 n rest)) first.2 others.2)

-- ---- and back

pub length-flat_map_params : (ms : List MsgParam) → length (flat_map param_bytes ms) ≡ 32 * length ms
length-flat_map_params [] = refl
length-flat_map_params (m ∷ ms) = let rest = length-flat_map_params ms in omega (arith, length-append (param_bytes m) (flat_map param_bytes ms))

-- parameters are read from their spelling, and all are good
pub pieces_again : (ms : List MsgParam) → All IsAllowed ms → All FitsParam ms → (map param_at (first_chunks 32 (length ms) (flat_map param_bytes ms)) ≡ ms) × (good_len (first_chunks 32 (length ms) (flat_map param_bytes ms)) ≡ length ms)
pieces_again [] allowed fits = (refl, refl)
pieces_again (m ∷ ms) allowed fits =
    let first = param_again m (allowed 0 m (omega arith)) (fits 0 m (omega arith)) in
    let others = pieces_again ms (All-tail IsAllowed m ms allowed) (All-tail FitsParam m ms fits) in
    let rest = first_chunks 32 (length ms) (flat_map param_bytes ms) in
    let values : param_at (param_bytes m) ∷ map param_at rest ≡ m ∷ ms = λ i. first.0 i ∷ others.0 i in
    let places : good_len (param_bytes m ∷ rest) ≡ length (m ∷ ms) = good_len-cons (param_bytes m) rest true first.1 ∙ omega (arith, others.1) in
    (values, places)
