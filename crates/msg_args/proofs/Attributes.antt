-- An attribute is the sum of its parts, and has no other bits.
use Rattle.std.proofs.Common.{◌≡◌, ℕ, ◌+◌, ◌*◌, ◌/◌, ◌%◌, ◌^◌, ◌<◌, Bool, true, false, cond, eqb, ◌&&◌, ◌||◌, not, List, [], ◌∷◌, take, drop, Option, Some, None, find, unwrap_or, refl, sym, ap, ◌∙◌, inl, inr, lit≤, arith, bit_and}
use Rattle.std.specs.Option.{option_map_or}
use Rattle.std.specs.Int.{bit_at}
use Rattle.std.proofs.lemmas.Bool.{cases_Bool, cases_eq, eq-eqb, eqb-true, ne_eqb}
use Rattle.std.proofs.lemmas.Nat.{pow_pos, and_mask, mod-pow-add, div-add-mod'}
use Rattle.std.proofs.lemmas.Nat.Bits.{and_pow, bit_at-lt}
use Rattle.msg_args.specs.declared.kind.ParamKind.{ParamKind}
use Rattle.msg_args.specs.declared.kind.ParamKind.TheVariants.{Empty, ValueIn, ValueOut, ValueInout, RmemIn, RmemOut, RmemInout, TmemIn, TmemOut, TmemInout}
use Rattle.msg_args.specs.declared.param.MsgParam.{MsgParam}
use Rattle.msg_args.specs.Attribute.{type_of, kind_of, is_tmem, flag, attribute, has_no_others, is_attribute, kinds}
use Rattle.msg_args.specs.Reading.{u64_at, param_of, param_at, has_attribute}
use Rattle.byteorder.specs.Endian.{little_number}
use Rattle.msg_args.proofs.Numbers.{little_64}

abbrev some : {A : Type 0} → A → Option A
some x = Some x

abbrev none : Option MsgParam
none = None

-- a kind's number stands for it
pub kind_of-type_of : (k : ParamKind) → kind_of (type_of k) ≡ Some k
kind_of-type_of Empty = refl
kind_of-type_of ValueIn = refl
kind_of-type_of ValueOut = refl
kind_of-type_of ValueInout = refl
kind_of-type_of RmemIn = refl
kind_of-type_of RmemOut = refl
kind_of-type_of RmemInout = refl
kind_of-type_of TmemIn = refl
kind_of-type_of TmemOut = refl
kind_of-type_of TmemInout = refl

some_is : {A : Type 0} (x y : A) → some x ≡ some y → x ≡ y
some_is x y e = cc

-- what is found passes the test
find-Some : {A : Type 0} (test : A → Bool) (xs : List A) (x : A) → find test xs ≡ Some x → test x ≡ true
find-Some test [] x e = absurd cc
find-Some test (y ∷ ys) x e =
    elim (cases_Bool (test y)) [
      | inl passes ↦ let same : y ≡ x = some_is y x (sym (ap (λ (b : Bool). cond b (Some y) (find test ys)) passes) ∙ e) in ap test (sym same) ∙ passes
      | inr fails ↦ find-Some test ys x (sym (ap (λ (b : Bool). cond b (Some y) (find test ys)) fails) ∙ e)
    ]

-- the number that stands for a kind is the kind's
pub type_of-kind_of : (n : ℕ) (k : ParamKind) → kind_of n ≡ Some k → type_of k ≡ n
type_of-kind_of n k e = eqb-true _ _ (find-Some (λ k. eqb (type_of k) n) kinds k e)

-- the code's test of a bit
bit_test : (a k : ℕ) → not (eqb (bit_and a (2 ^ k)) 0) ≡ eqb (bit_at a k) 1
bit_test a k =
    let small : bit_at a k < 2 = bit_at-lt a k in
    let pos : 0 < 2 ^ k = pow_pos k in
    let is : bit_and a (2 ^ k) ≡ bit_at a k * 2 ^ k = and_pow a k in
    elim (cases_eq (bit_at a k) 0) [
      | inl zero_bit ↦
          let none : bit_and a (2 ^ k) ≡ 0 = rw is (rw zero_bit (omega arith)) in
          rw (none, zero_bit) refl
      | inr ne ↦
          let one : bit_at a k ≡ 1 = omega arith in
          let some : bit_and a (2 ^ k) ≡ 2 ^ k = rw is (rw one (omega arith)) in
          rw (some, one) (ap not (ne_eqb _ _ (λ e. absurd (omega arith))))
    ]

-- what a bit is worth
pub flag_bit : (b worth : ℕ) → b < 2 → flag (eqb b 1) worth ≡ b * worth
flag_bit b worth lt =
    elim (cases_eq b 0) [
      | inl e ↦ rw e (omega arith)
      | inr ne ↦ let one : b ≡ 1 = omega arith in rw one (omega arith)
    ]

-- a number by its parts
parts : (a : ℕ) → a ≡ a / 2 ^ 19 * 2 ^ 19 + (a / 2 ^ 16 % 2 ^ 3 * 2 ^ 16 + (a / 2 ^ 10 % 2 ^ 6 * 2 ^ 10 + (bit_at a 9 * 2 ^ 9 + (bit_at a 8 * 2 ^ 8 + a % 2 ^ 8))))
parts a =
    omega (arith, div-add-mod' a (2 ^ 19), mod-pow-add a 3 16, mod-pow-add a 6 10, mod-pow-add a 1 9, mod-pow-add a 1 8)

-- two numbers are equal where two others are 0
eqb-and : (x a u v : ℕ) → (x ≡ a → (u ≡ 0) × (v ≡ 0)) → (u ≡ 0 → v ≡ 0 → x ≡ a) → eqb x a ≡ (eqb u 0 && eqb v 0)
eqb-and x a u v forth back =
    elim (cases_eq x a) [
      | inl e ↦ let z = forth e in rw (e, z.0, z.1) (eq-eqb a a refl)
      | inr ne ↦
          elim (cases_eq u 0) [
            | inr nu ↦ rw (ne_eqb x a ne, ne_eqb u 0 nu) refl
            | inl zu ↦ rw (zu, ne_eqb x a ne, ne_eqb v 0 (λ zv. ne (back zu zv))) refl
          ]
    ]

-- a sum of parts is the number where no other bit is set
parts_whole : (a t : ℕ) → t ≡ a % 2 ^ 8 → eqb (t + flag (eqb (bit_at a 8) 1) (2 ^ 8) + flag (eqb (bit_at a 9) 1) (2 ^ 9) + a / 2 ^ 16 % 2 ^ 3 * 2 ^ 16) a ≡ has_no_others a
parts_whole a t e =
    let all = parts a in
    rw (flag_bit (bit_at a 8) (2 ^ 8) (bit_at-lt a 8), flag_bit (bit_at a 9) (2 ^ 9) (bit_at-lt a 9))
    (eqb-and _ a (a / 2 ^ 10 % 2 ^ 6) (a / 2 ^ 19) (λ same. (omega arith, omega arith)) (λ u v. omega arith))

-- a parameter as the code reads it
abbrev read : ℕ → ℕ → ℕ → ℕ → ParamKind → MsgParam
read a p q s k = record { kind = k; meta = not (eqb (bit_and a 256) 0); noncontig = not (eqb (bit_and a 512) 0); cache = bit_and (a / 65536) 7; p = p; q = q; s = s }

-- the parameter of an attribute whose kind is known
abbrev pub of_kind : ℕ → ℕ → ℕ → ℕ → ParamKind → MsgParam
of_kind a p q s k = record { kind = k; meta = eqb (bit_at a 8) 1; noncontig = eqb (bit_at a 9) 1; cache = a / 2 ^ 16 % 2 ^ 3; p = p; q = q; s = s }

read_is : (a p q s : ℕ) (k : ParamKind) → read a p q s k ≡ of_kind a p q s k
read_is a p q s k =
    let meta : not (eqb (bit_and a 256) 0) ≡ eqb (bit_at a 8) 1 = bit_test a 8 in
    let noncontig : not (eqb (bit_and a 512) 0) ≡ eqb (bit_at a 9) 1 = bit_test a 9 in
    let cache : bit_and (a / 65536) 7 ≡ a / 2 ^ 16 % 2 ^ 3 = and_mask (a / 2 ^ 16) 3 in
    cc

kind_is : (a : ℕ) (k : ParamKind) → kind_of (bit_and a 255) ≡ Some k → kind_of (a % 2 ^ 8) ≡ Some k
kind_is a k e = ap kind_of (sym (and_mask a 8)) ∙ e

pub param_of_is : (a p q s : ℕ) (k : ParamKind) → kind_of (a % 2 ^ 8) ≡ Some k → param_of a p q s ≡ of_kind a p q s k
param_of_is a p q s k e = ap (λ (o : Option ParamKind). of_kind a p q s (unwrap_or o Empty)) e

-- an attribute whose kind is known is valid where its parts are all of it and NONCONTIG is allowed
pub is_attribute_is : (a p q s : ℕ) (k : ParamKind) → kind_of (a % 2 ^ 8) ≡ Some k → is_attribute a ≡ (eqb (attribute (of_kind a p q s k)) a && (not (eqb (bit_at a 9) 1) || is_tmem k))
is_attribute_is a p q s k e =
    ap (λ (o : Option ParamKind). option_map_or (λ kind. has_no_others a && (not (eqb (bit_at a 9) 1) || is_tmem kind)) o false) e
    ∙ ap (λ (b : Bool). b && (not (eqb (bit_at a 9) 1) || is_tmem k)) (sym (parts_whole a (type_of k) (type_of-kind_of (a % 2 ^ 8) k e)))

-- what the code reads where both of its tests pass
pub whole_is_read : (a p q s : ℕ) (k : ParamKind) → kind_of (bit_and a 255) ≡ Some k → attribute (read a p q s k) ≡ a → true ≡ (not (read a p q s k).noncontig || is_tmem k) → some (read a p q s k) ≡ cond (is_attribute a) (Some (param_of a p q s)) None
whole_is_read a p q s k e same allowed =
    let m = read_is a p q s k in
    let kind = kind_is a k e in
    let whole : eqb (attribute (of_kind a p q s k)) a ≡ true = eq-eqb _ _ (sym (ap attribute m) ∙ same) in
    let free : (not (eqb (bit_at a 9) 1) || is_tmem k) ≡ true = sym (ap (λ (n : MsgParam). not n.noncontig || is_tmem k) m) ∙ sym allowed in
    let valid : is_attribute a ≡ true = is_attribute_is a p q s k kind ∙ rw (whole, free) refl in
    let value : some (read a p q s k) ≡ some (param_of a p q s) = ap some (m ∙ sym (param_of_is a p q s k kind)) in
    value ∙ sym (ap (λ (b : Bool). cond b (some (param_of a p q s)) None) valid)

-- other bits are set
pub other_bits_are_refused : (a p q s : ℕ) (k : ParamKind) → kind_of (bit_and a 255) ≡ Some k → (attribute (read a p q s k) ≡ a → ⊥) → none ≡ cond (is_attribute a) (Some (param_of a p q s)) None
other_bits_are_refused a p q s k e other =
    let m = read_is a p q s k in
    let not_whole : eqb (attribute (of_kind a p q s k)) a ≡ false = ne_eqb _ _ (λ same. other (ap attribute m ∙ same)) in
    let invalid : is_attribute a ≡ false = is_attribute_is a p q s k (kind_is a k e) ∙ rw not_whole refl in
    sym (ap (λ (b : Bool). cond b (some (param_of a p q s)) None) invalid)

-- NONCONTIG stands with another kind
pub noncontig_is_refused : (a p q s : ℕ) (k : ParamKind) → kind_of (bit_and a 255) ≡ Some k → attribute (read a p q s k) ≡ a → false ≡ (not (read a p q s k).noncontig || is_tmem k) → none ≡ cond (is_attribute a) (Some (param_of a p q s)) None
noncontig_is_refused a p q s k e same refused =
    let m = read_is a p q s k in
    let whole : eqb (attribute (of_kind a p q s k)) a ≡ true = eq-eqb _ _ (sym (ap attribute m) ∙ same) in
    let bound : (not (eqb (bit_at a 9) 1) || is_tmem k) ≡ false = sym (ap (λ (n : MsgParam). not n.noncontig || is_tmem k) m) ∙ sym refused in
    let invalid : is_attribute a ≡ false = is_attribute_is a p q s k (kind_is a k e) ∙ rw (whole, bound) refl in
    sym (ap (λ (b : Bool). cond b (some (param_of a p q s)) None) invalid)

-- what four numbers of eight bytes read
abbrev from_words : ℕ → ℕ → ℕ → ℕ → Option MsgParam
from_words a p q s = cond (is_attribute a) (Some (param_of a p q s)) None

pub words_at : (bytes : List ℕ) (a p q s : ℕ) (o : Option MsgParam) → o ≡ from_words a p q s → a ≡ little_number 8 (take 32 bytes) → p ≡ little_number 8 (take 24 (drop 8 bytes)) → q ≡ little_number 8 (take 16 (drop 16 bytes)) → s ≡ little_number 8 (take 8 (drop 24 bytes)) → o ≡ cond (has_attribute bytes) (Some (param_at bytes)) None
words_at bytes a p q s o e ea ep eq es =
    e
    ∙ ap (λ (x : ℕ). from_words x p q s) (ea ∙ little_64 32 bytes (lit≤ tt))
    ∙ ap (λ (x : ℕ). from_words (u64_at 0 bytes) x q s) (ep ∙ little_64 24 (drop 8 bytes) (lit≤ tt))
    ∙ ap (λ (x : ℕ). from_words (u64_at 0 bytes) (u64_at 8 bytes) x s) (eq ∙ little_64 16 (drop 16 bytes) (lit≤ tt))
    ∙ ap (λ (x : ℕ). from_words (u64_at 0 bytes) (u64_at 8 bytes) (u64_at 16 bytes) x) (es ∙ little_64 8 (drop 24 bytes) (lit≤ tt))
