-- Bytes stored in a machine, and those that stand there: what a store keeps, and what it leaves.
use Rattle.std.proofs.Common.{◌≡◌, ℕ, zero, suc, ◌+◌, ◌%◌, ◌/◌, ◌<◌, ◌≤◌, Bool, true, List, [], ◌∷◌, length, take, drop, set, get_or, Option, Some, refl, ap, sym, ◌∙◌, arith, length-drop}
use Rattle.std.specs.Prelude.{◌==◌, ◌&&◌, ◌||◌, nat_le, slice_index_or, slice_get, unwrap_or}
use Rattle.std.proofs.lemmas.Bool.{leb-true}
use Rattle.std.proofs.lemmas.Bool.Decides.{nat_tests}
use Rattle.std.proofs.lemmas.List.{length-set, length-take, get_or-take, get_or-drop}
use Rattle.std.proofs.lemmas.Option.{slice_get-get_or, unwrap_or-slice_get}
use Rattle.base.specs.Zeros.{zeros}
use Rattle.base.proofs.ZeroLemmas.{length-zeros}
use Rattle.job_model.specs.Asking.{bytes_at}
use Rattle.job_model.proofs.Ranges.{inside, is_range-fits, length-bytes_at}
use Rattle.ta_step.specs.Addresses.{ranges, range_at, with_range, load, store}
use Rattle.ta_step.specs.Bytes.{has_bytes, written}
use Rattle.ta_step.specs.State.{State}
use Rattle.ta_step.specs.SystemCalls.{is_range}
use Rattle.rpc_cont.specs.Spans.{rest_of}
use Rattle.base.proofs.Overwriting.{length-written, written-there, written-none, written-twice, part-overwritten, overwritten-same, overwritten-one, has_bytes-same}
use Rattle.rpc_cont.proofs.RangeWrites.{range, range-with_range, with_range-twice, with_range-same}

-- the bytes of the range that an address names, with those that are stored
abbrev stored : State → ℕ → List ℕ → List ℕ
stored s addr new = written (range_at s addr) (addr % 0x10000000) new

-- ---- what a store keeps

-- what a store keeps: all but the bytes of the ranges, and how many bytes the memory has
pub record SameBut (old new : State) : Type 0 where
  pub registers : new.registers ≡ old.registers
  pub place : new.place ≡ old.place
  pub stack : new.stack ≡ old.stack
  pub memory : length new.memory ≡ length old.memory
  pub login : new.login ≡ old.login
  pub masked : new.masked ≡ old.masked
  pub cancelled : new.cancelled ≡ old.cancelled
  pub asked : new.asked ≡ old.asked

with_range-same_but : (s : State) (number : ℕ) (bytes : List ℕ) → length bytes ≡ length (range s number) → SameBut s (with_range s number bytes)
with_range-same_but s zero bytes e = record { registers = refl; place = refl; stack = refl; memory = e; login = refl; masked = refl; cancelled = refl; asked = refl }
with_range-same_but s (suc number) bytes e = record { registers = refl; place = refl; stack = refl; memory = refl; login = refl; masked = refl; cancelled = refl; asked = refl }

pub store-same_but : (s : State) (addr : ℕ) (new : List ℕ) → SameBut s (store s addr new)
store-same_but s addr new = with_range-same_but s (addr / 0x10000000) (stored s addr new) (length-written (range_at s addr) (addr % 0x10000000) new)

-- a store of no bytes changes nothing
pub store-none : (s : State) (addr : ℕ) → store s addr [] ≡ s
store-none s addr =
    ap (with_range s (addr / 0x10000000)) (written-none (range_at s addr) (addr % 0x10000000))
    ∙ with_range-same s (addr / 0x10000000)

pub range_at-store : (s : State) (addr : ℕ) (new : List ℕ) → range_at (store s addr new) addr ≡ stored s addr new
range_at-store s addr new = range-with_range s (addr / 0x10000000) (stored s addr new) (length-written (range_at s addr) (addr % 0x10000000) new)

length-range_at-store : (s : State) (addr : ℕ) (new : List ℕ) → length (range_at (store s addr new) addr) ≡ length (range_at s addr)
length-range_at-store s addr new = ap length (range_at-store s addr new) ∙ length-written (range_at s addr) (addr % 0x10000000) new

pub is_range-store : (s : State) (addr : ℕ) (new : List ℕ) (count : ℕ) → is_range (store s addr new) addr count ≡ is_range s addr count
is_range-store s addr new count =
    ap (λ (b : Bool). (count == 0) || (nat_le (addr % 0x10000000 + count) 0x10000000 && b))
    (has_bytes-same (range_at (store s addr new) addr) (range_at s addr) (addr % 0x10000000) count (length-range_at-store s addr new))

-- ---- the bytes that stand there

below : (s : State) (addr count at : ℕ) → at < length (bytes_at s addr count) → at < count
below s addr count at lt = omega (arith, length-take count (drop (addr % 0x10000000) (range_at s addr)))

part-written : (xs : List ℕ) (place : ℕ) (new : List ℕ) → has_bytes xs place (length new) ≡ true → take (length new) (drop place (written xs place new)) ≡ new
part-written xs place new e =
    ap (λ (l : List ℕ). take (length new) (drop place l)) (written-there xs place new e)
    ∙ part-overwritten xs place new (leb-true (place + length new) (length xs) e)

-- what was stored stands there
pub bytes_at-store : (s : State) (addr : ℕ) (new : List ℕ) → is_range s addr (length new) ≡ true → bytes_at (store s addr new) addr (length new) ≡ new
bytes_at-store s addr [] e = refl
bytes_at-store s addr (byte ∷ more) e =
    let new = byte ∷ more in
    ap (λ (l : List ℕ). take (length new) (drop (addr % 0x10000000) l)) (range_at-store s addr new)
    ∙ part-written (range_at s addr) (addr % 0x10000000) new (inside s addr (length more) e)

written-same : (xs : List ℕ) (place count : ℕ) → has_bytes xs place count ≡ true → written xs place (take count (drop place xs)) ≡ xs
written-same xs place count e =
    let part = take count (drop place xs) in
    let le = leb-true (place + count) (length xs) e in
    let long : length part ≡ count = omega (arith, length-take count (drop place xs), length-drop place xs) in
    written-there xs place part (ap (has_bytes xs place) long ∙ e) ∙ overwritten-same xs place count le

-- ---- stores

-- a store of what stands there changes nothing
pub store-same : (s : State) (addr count : ℕ) → is_range s addr count ≡ true → store s addr (bytes_at s addr count) ≡ s
store-same s addr zero e = store-none s addr
store-same s addr (suc count) e =
    ap (with_range s (addr / 0x10000000)) (written-same (range_at s addr) (addr % 0x10000000) (suc count) (inside s addr count e))
    ∙ with_range-same s (addr / 0x10000000)

-- of two stores of as many bytes the last one counts
pub store-twice : (s : State) (addr : ℕ) (first new : List ℕ) → length first ≡ length new → store (store s addr first) addr new ≡ store s addr new
store-twice s addr first new same =
    ap (λ (l : List ℕ). with_range (store s addr first) (addr / 0x10000000) (written l (addr % 0x10000000) new)) (range_at-store s addr first)
    ∙ ap (with_range (store s addr first) (addr / 0x10000000)) (written-twice (range_at s addr) (addr % 0x10000000) first new same)
    ∙ with_range-twice s (addr / 0x10000000) (stored s addr first) (stored s addr new)

-- ---- what lies around

-- two machines that are alike with zeros in the place of a span differ in it alone
around : (s old : State) (addr count : ℕ) → is_range old addr count ≡ true → store s addr (zeros count) ≡ store old addr (zeros count)
    → s ≡ store old addr (bytes_at s addr count)
around s old addr count e alike =
    let here : is_range s addr count ≡ true =
    sym (is_range-store s addr (zeros count) count) ∙ ap (λ (t : State). is_range t addr count) alike ∙ is_range-store old addr (zeros count) count ∙ e
    in
    let bytes = bytes_at s addr count in
    let same : length (zeros count) ≡ length bytes = length-zeros count ∙ sym (length-bytes_at s addr count here) in
    sym (store-same s addr count here)
    ∙ sym (store-twice s addr (zeros count) bytes same)
    ∙ ap (λ (t : State). store t addr bytes) alike
    ∙ store-twice old addr (zeros count) bytes same

-- the same, where what lies around their spans is alike
pub around-rest : (s old : State) (a l addr count : ℕ) → is_range old addr count ≡ true → rest_of s a l ≡ rest_of old addr count → s ≡ store old addr (bytes_at s a l)
around-rest s old a l addr count e alike =
    let places : a ≡ addr = ap (λ (r : ℕ × ℕ × State). r.0) alike in
    let counts : l ≡ count = ap (λ (r : ℕ × ℕ × State). r.1) alike in
    let moved : store s addr (zeros count) ≡ store s a (zeros l) =
    ap (λ (k : ℕ). store s k (zeros count)) (sym places) ∙ ap (λ (k : ℕ). store s a (zeros k)) (sym counts)
    in
    around s old addr count e (moved ∙ ap (λ (r : ℕ × ℕ × State). r.2) alike)
    ∙ ap (λ (k : ℕ). store old addr (bytes_at s k count)) (sym places)
    ∙ ap (λ (k : ℕ). store old addr (bytes_at s a k)) (sym counts)

-- ---- one byte

-- a write of one byte is one of all bytes of a part, with that byte among them
written-one : (xs : List ℕ) (place count at byte : ℕ) → has_bytes xs place count ≡ true → at < count
    → written xs (place + at) (byte ∷ []) ≡ written xs place (set (take count (drop place xs)) at byte)
written-one xs place count at byte e lt =
    let part = take count (drop place xs) in
    let le = leb-true (place + count) (length xs) e in
    let long : length part ≡ count = omega (arith, length-take count (drop place xs), length-drop place xs) in
    let one : has_bytes xs (place + at) 1 ≡ true = grind (arith, nat_tests, le) in
    let same : length (set part at byte) ≡ count = length-set part at byte ∙ long in
    let there : has_bytes xs place (length (set part at byte)) ≡ true = ap (has_bytes xs place) same ∙ e in
    written-there xs (place + at) (byte ∷ []) one
    ∙ overwritten-one xs place count at byte le lt
    ∙ sym (written-there xs place (set part at byte) there)

-- the address of a byte of a span
pub same_range : (addr count at : ℕ) → addr % 0x10000000 + count ≤ 0x10000000 → at < count → (addr + at) / 0x10000000 ≡ addr / 0x10000000
same_range addr count at fits lt = omega arith

pub next_place : (addr count at : ℕ) → addr % 0x10000000 + count ≤ 0x10000000 → at < count → (addr + at) % 0x10000000 ≡ addr % 0x10000000 + at
next_place addr count at fits lt = omega arith

-- the byte that stands there
pub slice_get-bytes_at : (s : State) (addr count at byte : ℕ) → is_range s addr count ≡ true → at < length (bytes_at s addr count) → byte ≡ unwrap_or (load s (addr + at)) 0
    → slice_get (bytes_at s addr count) at ≡ Some byte
slice_get-bytes_at s addr count at byte e lt is =
    let fits = is_range-fits s addr count e in
    let xs = range_at s addr in
    let less = below s addr count at lt in
    let loaded : load s (addr + at) ≡ slice_get xs (addr % 0x10000000 + at) =
    ap (λ (n : ℕ). slice_get (slice_index_or (ranges s) n []) ((addr + at) % 0x10000000)) (same_range addr count at fits less)
    ∙ ap (slice_get xs) (next_place addr count at fits less)
    in
    let here : byte ≡ get_or xs (addr % 0x10000000 + at) 0 =
    is ∙ ap (λ (o : Option ℕ). unwrap_or o 0) loaded ∙ unwrap_or-slice_get xs (addr % 0x10000000 + at) 0
    in
    slice_get-get_or (bytes_at s addr count) at 0 lt
    ∙ ap Some (get_or-take count (drop (addr % 0x10000000) xs) at 0 less ∙ get_or-drop (addr % 0x10000000) xs at 0 ∙ sym here)

-- a byte stored in a span is the span stored with another byte
pub store-one : (s : State) (addr count at byte : ℕ) → is_range s addr count ≡ true → at < length (bytes_at s addr count)
    → store s (addr + at) (byte ∷ []) ≡ store s addr (set (bytes_at s addr count) at byte)
store-one s addr zero at byte e lt = absurd (omega arith)
store-one s addr (suc count) at byte e lt =
    let fits = is_range-fits s addr (suc count) e in
    let less = below s addr (suc count) at lt in
    ap (λ (n : ℕ). with_range s n (written (slice_index_or (ranges s) n []) ((addr + at) % 0x10000000) (byte ∷ []))) (same_range addr (suc count) at fits less)
    ∙ ap (λ (k : ℕ). with_range s (addr / 0x10000000) (written (range_at s addr) k (byte ∷ []))) (next_place addr (suc count) at fits less)
    ∙ ap (with_range s (addr / 0x10000000)) (written-one (range_at s addr) (addr % 0x10000000) (suc count) at byte (inside s addr count e) less)

-- what such a store makes of the span, and of what lies around it
pub bytes_at-one : (s : State) (addr count at byte : ℕ) → is_range s addr count ≡ true → at < length (bytes_at s addr count)
    → bytes_at (store s (addr + at) (byte ∷ [])) addr count ≡ set (bytes_at s addr count) at byte
bytes_at-one s addr count at byte e lt =
    let new = set (bytes_at s addr count) at byte in
    let long : length new ≡ count = length-set (bytes_at s addr count) at byte ∙ length-bytes_at s addr count e in
    ap (λ (t : State). bytes_at t addr count) (store-one s addr count at byte e lt)
    ∙ ap (λ (n : ℕ). bytes_at (store s addr new) addr n) (sym long)
    ∙ bytes_at-store s addr new (ap (is_range s addr) long ∙ e)

pub rest_of-one : (s : State) (addr count at byte : ℕ) → is_range s addr count ≡ true → at < length (bytes_at s addr count)
    → rest_of (store s (addr + at) (byte ∷ [])) addr count ≡ rest_of s addr count
rest_of-one s addr count at byte e lt =
    let new = set (bytes_at s addr count) at byte in
    let long : length new ≡ length (zeros count) = length-set (bytes_at s addr count) at byte ∙ length-bytes_at s addr count e ∙ sym (length-zeros count) in
    ap (λ (t : State). rest_of t addr count) (store-one s addr count at byte e lt)
    ∙ ap (λ (t : State). (addr, count, t)) (store-twice s addr new (zeros count) long)

pub is_range-one : (s : State) (addr count at byte : ℕ) → is_range s addr count ≡ true → at < length (bytes_at s addr count)
    → is_range (store s (addr + at) (byte ∷ [])) addr count ≡ true
is_range-one s addr count at byte e lt =
    ap (λ (t : State). is_range t addr count) (store-one s addr count at byte e lt)
    ∙ is_range-store s addr (set (bytes_at s addr count) at byte) count
    ∙ e
