-- Valid attributes are those of parameters: each way round.
use Rattle.std.proofs.Common.{◌≡◌, ℕ, ◌+◌, ◌*◌, ◌/◌, ◌%◌, ◌^◌, ◌<◌, ◌≤◌, Bool, true, false, cond, eqb, ◌&&◌, ◌||◌, not, List, [], ◌∷◌, length, drop, Option, Some, None, refl, sym, ap, ◌∙◌, subst, lit<, arith}
use Rattle.std.specs.Prelude.{IsTrue, ◌↔◌}
use Rattle.std.specs.Option.{option_map_or}
use Rattle.std.specs.Int.{bit_at, w64, to_le_bytes}
use Rattle.std.specs.List.{flat_map}
use Rattle.std.proofs.lemmas.Bool.{eq-eqb, eqb-true}
use Rattle.std.proofs.lemmas.List.{drop_all}
use Rattle.std.proofs.lemmas.Nat.{from_le_bytes-to_le_bytes_8}
use Rattle.msg_args.specs.declared.kind.ParamKind.{ParamKind}
use Rattle.msg_args.specs.declared.kind.ParamKind.TheVariants.{Empty, ValueIn, ValueOut, ValueInout, RmemIn, RmemOut, RmemInout, TmemIn, TmemOut, TmemInout}
use Rattle.msg_args.specs.declared.param.MsgParam.{MsgParam}
use Rattle.msg_args.specs.Attribute.{type_of, kind_of, is_tmem, flag, attribute, IsAllowed, has_no_others, is_attribute}
use Rattle.msg_args.specs.Spelling.{param_bytes, FitsParam}
use Rattle.msg_args.specs.Reading.{u64_at, param_of, param_at, has_attribute}
use Rattle.msg_args.proofs.Attributes.{of_kind, param_of_is, is_attribute_is, kind_of-type_of}
use Rattle.base.proofs.Numbers.{IsBytes, u64_back, u64-lt}

-- ---- from a number to the parameter and back

both_true : (a b : Bool) → (a && b) ≡ true → (a ≡ true) × (b ≡ true)
both_true true b e = (refl, e)
both_true false b e = absurd cc

-- NONCONTIG stands only with a tmem
only_tmem : (noncontig tmem : Bool) → (not noncontig || tmem) ≡ true → IsTrue noncontig → IsTrue tmem
only_tmem true tmem e h = e
only_tmem false tmem e h = absurd cc

-- a valid attribute of a known kind is that of the parameter that is read from it
of_kind_valid : (a p q s : ℕ) (k : ParamKind) → is_attribute a ≡ true → kind_of (a % 2 ^ 8) ≡ Some k → (attribute (of_kind a p q s k) ≡ a) × IsAllowed (of_kind a p q s k)
of_kind_valid a p q s k valid kind =
    let tests = both_true (eqb (attribute (of_kind a p q s k)) a) (not (eqb (bit_at a 9) 1) || is_tmem k) (sym (is_attribute_is a p q s k kind) ∙ valid) in
    (eqb-true _ _ tests.0, record { cache = omega arith; noncontig = only_tmem (eqb (bit_at a 9) 1) (is_tmem k) tests.1 })

-- a valid attribute has a kind
kind_known : (a : ℕ) (o : Option ParamKind) → kind_of (a % 2 ^ 8) ≡ o → is_attribute a ≡ true → (k : ParamKind) × (kind_of (a % 2 ^ 8) ≡ Some k)
kind_known a (Some k) e valid = (k, e)
kind_known a None e valid =
    let no : is_attribute a ≡ false = ap (λ (o : Option ParamKind). option_map_or (λ kind. has_no_others a && (not (eqb (bit_at a 9) 1) || is_tmem kind)) o false) e in
    let clash : true ≡ false = sym valid ∙ no in
    absurd cc

pub attribute-param_of : (a p q s : ℕ) → is_attribute a ≡ true → (attribute (param_of a p q s) ≡ a) × IsAllowed (param_of a p q s)
attribute-param_of a p q s valid =
    let kind = kind_known a (kind_of (a % 2 ^ 8)) refl valid in
    let known = of_kind_valid a p q s kind.0 valid kind.1 in
    let P : MsgParam → Type 0 = λ m. (attribute m ≡ a) × IsAllowed m in
    subst P (sym (param_of_is a p q s kind.0 kind.1)) known

-- ---- from a parameter to its attribute and back

type_of-lt : (k : ParamKind) → type_of k < 256
type_of-lt Empty = lit< tt
type_of-lt ValueIn = lit< tt
type_of-lt ValueOut = lit< tt
type_of-lt ValueInout = lit< tt
type_of-lt RmemIn = lit< tt
type_of-lt RmemOut = lit< tt
type_of-lt RmemInout = lit< tt
type_of-lt TmemIn = lit< tt
type_of-lt TmemOut = lit< tt
type_of-lt TmemInout = lit< tt

-- the number of a flag
abbrev bit : Bool → ℕ
bit b = cond b 1 0

bit-lt : (b : Bool) → bit b < 2
bit-lt true = lit< tt
bit-lt false = lit< tt

flag_is : (b : Bool) (worth : ℕ) → flag b worth ≡ bit b * worth
flag_is true worth = omega arith
flag_is false worth = omega arith

bit_is_set : (b : Bool) → eqb (bit b) 1 ≡ b
bit_is_set true = refl
bit_is_set false = refl

-- the parts of a sum of parts
record Parts (a t m n c : ℕ) : Type 0 where
  low : a % 2 ^ 8 ≡ t
  meta : bit_at a 8 ≡ m
  noncontig : bit_at a 9 ≡ n
  cache : a / 2 ^ 16 % 2 ^ 3 ≡ c
  middle : a / 2 ^ 10 % 2 ^ 6 ≡ 0
  high : a / 2 ^ 19 ≡ 0

parts_of : (a t m n c : ℕ) → a ≡ t + m * 2 ^ 8 + n * 2 ^ 9 + c * 2 ^ 16 → t < 256 → m < 2 → n < 2 → c ≤ 7 → Parts a t m n c
parts_of a t m n c e ht hm hn hc = record {
  low = omega arith;
  meta = omega arith;
  noncontig = omega arith;
  cache = omega arith;
  middle = omega arith;
  high = omega arith;
}

parts_of_attribute : (m : MsgParam) → IsAllowed m → Parts (attribute m) (type_of m.kind) (bit m.meta) (bit m.noncontig) m.cache
parts_of_attribute m allowed =
    let sum : attribute m ≡ type_of m.kind + bit m.meta * 2 ^ 8 + bit m.noncontig * 2 ^ 9 + m.cache * 2 ^ 16 = omega (arith, flag_is m.meta (2 ^ 8), flag_is m.noncontig (2 ^ 9)) in
    parts_of (attribute m) (type_of m.kind) (bit m.meta) (bit m.noncontig) m.cache sum (type_of-lt m.kind) (bit-lt m.meta) (bit-lt m.noncontig) allowed.cache

kind_again : (m : MsgParam) → IsAllowed m → kind_of (attribute m % 2 ^ 8) ≡ Some m.kind
kind_again m allowed = ap kind_of (parts_of_attribute m allowed).low ∙ kind_of-type_of m.kind

of_kind-attribute : (m : MsgParam) → IsAllowed m → of_kind (attribute m) m.p m.q m.s m.kind ≡ m
of_kind-attribute m allowed =
    let parts = parts_of_attribute m allowed in
    let meta : eqb (bit_at (attribute m) 8) 1 ≡ m.meta = ap (λ (n : ℕ). eqb n 1) parts.meta ∙ bit_is_set m.meta in
    let noncontig : eqb (bit_at (attribute m) 9) 1 ≡ m.noncontig = ap (λ (n : ℕ). eqb n 1) parts.noncontig ∙ bit_is_set m.noncontig in
    let cache : attribute m / 2 ^ 16 % 2 ^ 3 ≡ m.cache = parts.cache in
    λ i. record { kind = m.kind; meta = meta i; noncontig = noncontig i; cache = cache i; p = m.p; q = m.q; s = m.s }

pub param_of-attribute : (m : MsgParam) → IsAllowed m → param_of (attribute m) m.p m.q m.s ≡ m
param_of-attribute m allowed = param_of_is (attribute m) m.p m.q m.s m.kind (kind_again m allowed) ∙ of_kind-attribute m allowed

allowed_only : (noncontig tmem : Bool) → (IsTrue noncontig → IsTrue tmem) → (not noncontig || tmem) ≡ true
allowed_only true tmem h = h refl
allowed_only false tmem h = refl

pub is_attribute-attribute : (m : MsgParam) → IsAllowed m → is_attribute (attribute m) ≡ true
is_attribute-attribute m allowed =
    let back = of_kind-attribute m allowed in
    let whole : eqb (attribute (of_kind (attribute m) m.p m.q m.s m.kind)) (attribute m) ≡ true = eq-eqb _ _ (ap attribute back) in
    let free : (not (eqb (bit_at (attribute m) 9) 1) || is_tmem m.kind) ≡ true = ap (λ (n : MsgParam). not n.noncontig || is_tmem n.kind) back ∙ allowed_only m.noncontig (is_tmem m.kind) allowed.noncontig in
    is_attribute_is (attribute m) m.p m.q m.s m.kind (kind_again m allowed) ∙ rw (whole, free) refl

valid_along : (n : ℕ) (m : MsgParam) → IsAllowed m → attribute m ≡ n → is_attribute n ≡ true
valid_along n m allowed e = sym (ap is_attribute e) ∙ is_attribute-attribute m allowed

-- the valid attributes are those that parameters have
pub attributes : (n : ℕ) → IsTrue (is_attribute n) ↔ ((m : MsgParam) × IsAllowed m × (attribute m ≡ n))
attributes n = (λ valid. let found = attribute-param_of n 0 0 0 valid in (param_of n 0 0 0, found.1, found.0), λ w. valid_along n w.0 w.1 w.2)

-- the sum of the parts fits eight bytes
attribute-lt : (m : MsgParam) → IsAllowed m → attribute m < 2 ^ 64
attribute-lt m allowed = let parts = parts_of_attribute m allowed in let high = parts.high in omega arith

-- ---- from 32 bytes to the parameter and back

pub param_back : (bytes : List ℕ) → length bytes ≡ 32 → IsBytes bytes → has_attribute bytes ≡ true → (param_bytes (param_at bytes) ≡ bytes) × IsAllowed (param_at bytes) × FitsParam (param_at bytes)
param_back bytes len fits valid =
    let a = attribute-param_of (u64_at 0 bytes) (u64_at 8 bytes) (u64_at 16 bytes) (u64_at 24 bytes) valid in
    let all : drop 32 bytes ≡ [] = drop_all 32 bytes (omega arith) in
    let t24 = u64_back 24 bytes [] (omega arith) fits (sym all) in
    let t16 = u64_back 16 bytes _ (omega arith) fits t24 in
    let t8 = u64_back 8 bytes _ (omega arith) fits t16 in
    let t0 = u64_back 0 bytes _ (omega arith) fits t8 in
    let whole : param_bytes (param_at bytes) ≡ bytes = ap (λ (n : ℕ). flat_map (to_le_bytes w64) (n ∷ u64_at 8 bytes ∷ u64_at 16 bytes ∷ u64_at 24 bytes ∷ [])) a.0 ∙ t0 in
    (whole, a.1, record { p = u64-lt 8 bytes fits; q = u64-lt 16 bytes fits; s = u64-lt 24 bytes fits })

attribute_again : (m : MsgParam) → IsAllowed m → u64_at 0 (param_bytes m) ≡ attribute m
attribute_again m allowed = from_le_bytes-to_le_bytes_8 (attribute m) (attribute-lt m allowed)

pub param_again : (m : MsgParam) → IsAllowed m → FitsParam m → (param_at (param_bytes m) ≡ m) × (has_attribute (param_bytes m) ≡ true)
param_again m allowed fits =
    let a = attribute_again m allowed in
    let p : u64_at 8 (param_bytes m) ≡ m.p = from_le_bytes-to_le_bytes_8 m.p fits.p in
    let q : u64_at 16 (param_bytes m) ≡ m.q = from_le_bytes-to_le_bytes_8 m.q fits.q in
    let s : u64_at 24 (param_bytes m) ≡ m.s = from_le_bytes-to_le_bytes_8 m.s fits.s in
    let read : param_at (param_bytes m) ≡ param_of (attribute m) m.p m.q m.s = λ i. param_of (a i) (p i) (q i) (s i) in
    (read ∙ param_of-attribute m allowed, ap is_attribute a ∙ is_attribute-attribute m allowed)
