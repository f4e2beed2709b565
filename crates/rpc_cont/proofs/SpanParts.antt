-- Parts of the bytes of a span: where they stand in the machine, and what one stored there leaves.
use Rattle.std.proofs.Common.{◌≡◌, ℕ, zero, suc, ◌+◌, ◌-◌, ◌%◌, ◌/◌, ◌<◌, ◌≤◌, true, List, [], ◌++◌, length, take, drop, ap, sym, ◌∙◌, arith, append_assoc, length-drop, drop-drop}
use Rattle.std.specs.Prelude.{slice_index_or}
use Rattle.std.proofs.lemmas.Bool.{leb-true}
use Rattle.std.proofs.lemmas.Bool.Decides.{nat_tests}
use Rattle.std.proofs.lemmas.List.{length-take, take-take, drop-take, take-append-drop}
use Rattle.base.proofs.Overwriting.{length-overwritten, written-there}
use Rattle.base.proofs.ZeroLemmas.{length-zeros}
use Rattle.base.specs.Zeros.{zeros}
use Rattle.job_model.proofs.Ranges.{inside, is_range-fits, length-bytes_at}
use Rattle.job_model.specs.Asking.{bytes_at}
use Rattle.rpc_cont.specs.Spans.{rest_of}
use Rattle.rpc_cont.proofs.Spans.{bytes_at-store, is_range-store, next_place, same_range, store-twice}
use Rattle.ta_step.specs.Addresses.{range_at, ranges, store, with_range}
use Rattle.ta_step.specs.Bytes.{has_bytes, overwritten, written}
use Rattle.ta_step.specs.State.{State}
use Rattle.ta_step.specs.SystemCalls.{is_range}

-- ---- lists

-- of a part of a list a part
part_of-part : (xs : List ℕ) (place count at n : ℕ) → at + n ≤ count → take n (drop at (take count (drop place xs))) ≡ take n (drop (place + at) xs)
part_of-part xs place count at n le =
    let rest = count - at in
    let whole : at + rest ≡ count = omega arith in
    let most : n ≤ rest = omega arith in
    ap (λ (k : ℕ). take n (drop at (take k (drop place xs)))) (sym whole)
    ∙ ap (take n) (drop-take at rest (drop place xs))
    ∙ take-take n rest (drop at (drop place xs)) most
    ∙ ap (take n) (drop-drop at place xs)

more_of : (xs : List ℕ) (place at : ℕ) → take place xs ++ take at (drop place xs) ≡ take (place + at) xs
more_of xs place at =
    ap (λ (l : List ℕ). l ++ take at (drop place xs)) (sym (take-take place (place + at) xs (omega arith)))
    ∙ ap (λ (l : List ℕ). take place (take (place + at) xs) ++ l) (sym (drop-take place at xs))
    ∙ take-append-drop place (take (place + at) xs)

rest_of-part : (xs : List ℕ) (place count at : ℕ) → at ≤ count → drop at (take count (drop place xs)) ++ drop (place + count) xs ≡ drop (place + at) xs
rest_of-part xs place count at le =
    let rest = count - at in
    let whole : at + rest ≡ count = omega arith in
    let ends : place + at + rest ≡ place + count = omega arith in
    ap (λ (k : ℕ). drop at (take k (drop place xs)) ++ drop (place + count) xs) (sym whole)
    ∙ ap (λ (l : List ℕ). l ++ drop (place + count) xs) (drop-take at rest (drop place xs) ∙ ap (take rest) (drop-drop at place xs))
    ∙ ap (λ (k : ℕ). take rest (drop (place + at) xs) ++ drop k xs) (sym ends)
    ∙ ap (λ (l : List ℕ). take rest (drop (place + at) xs) ++ l) (sym (drop-drop rest (place + at) xs))
    ∙ take-append-drop rest (drop (place + at) xs)

-- a write in a part is one of that part with the same bytes in it
overwritten-part : (xs : List ℕ) (place count at : ℕ) (new : List ℕ) → place + count ≤ length xs → at + length new ≤ count
    → overwritten xs (place + at) new ≡ overwritten xs place (overwritten (take count (drop place xs)) at new)
overwritten-part xs place count at new le within =
    let part = take count (drop place xs) in
    let long : length part ≡ count = omega (arith, length-take count (drop place xs), length-drop place xs) in
    let same : length (overwritten part at new) ≡ count = length-overwritten part at new (omega arith) ∙ long in
    let front : take at part ≡ take at (drop place xs) = take-take at count (drop place xs) (omega arith) in
    let behind = drop (at + length new) part in
    let ends : place + at + length new ≡ place + (at + length new) = omega arith in
    ap (λ (l : List ℕ). l ++ new ++ drop (place + at + length new) xs) (sym (more_of xs place at))
    ∙ ap (λ (l : List ℕ). take place xs ++ l ++ new ++ drop (place + at + length new) xs) (sym front)
    ∙ ap (λ (k : ℕ). take place xs ++ take at part ++ new ++ drop k xs) ends
    ∙ ap (λ (l : List ℕ). take place xs ++ take at part ++ new ++ l) (sym (rest_of-part xs place count (at + length new) within))
    ∙ sym (append_assoc (take place xs ++ take at part ++ new) behind (drop (place + count) xs))
    ∙ ap (λ (l : List ℕ). l ++ behind ++ drop (place + count) xs) (append_assoc (take place xs) (take at part) new)
    ∙ ap (λ (l : List ℕ). l ++ drop (place + count) xs) (append_assoc (take place xs) (take at part ++ new) behind)
    ∙ ap (λ (k : ℕ). take place xs ++ overwritten part at new ++ drop (place + k) xs) (sym same)

written-part : (xs : List ℕ) (place count at : ℕ) (new : List ℕ) → has_bytes xs place count ≡ true → at + length new ≤ count
    → written xs (place + at) new ≡ written xs place (overwritten (take count (drop place xs)) at new)
written-part xs place count at new e within =
    let part = take count (drop place xs) in
    let le = leb-true (place + count) (length xs) e in
    let long : length part ≡ count = omega (arith, length-take count (drop place xs), length-drop place xs) in
    let here : has_bytes xs (place + at) (length new) ≡ true = grind (arith, nat_tests, le) in
    let same : length (overwritten part at new) ≡ count = length-overwritten part at new (omega arith) ∙ long in
    let there : has_bytes xs place (length (overwritten part at new)) ≡ true = ap (has_bytes xs place) same ∙ e in
    written-there xs (place + at) new here
    ∙ overwritten-part xs place count at new le within
    ∙ sym (written-there xs place (overwritten part at new) there)

-- ---- in a machine

pub bytes_at-part : (s : State) (addr count at n : ℕ) → is_range s addr count ≡ true → 0 < n → at + n ≤ count
    → take n (drop ((addr + at) % 0x10000000) (range_at s (addr + at))) ≡ take n (drop at (bytes_at s addr count))
bytes_at-part s addr count at n e some within =
    let fits = is_range-fits s addr count e in
    let less : at < count = omega arith in
    ap (λ (k : ℕ). take n (drop ((addr + at) % 0x10000000) (slice_index_or (ranges s) k []))) (same_range addr count at fits less)
    ∙ ap (λ (k : ℕ). take n (drop k (range_at s addr))) (next_place addr count at fits less)
    ∙ sym (part_of-part (range_at s addr) (addr % 0x10000000) count at n within)

-- a part stored in a span is the span stored with that part in it
store-part : (s : State) (addr count at : ℕ) (new : List ℕ) → is_range s addr count ≡ true → 0 < length new → at + length new ≤ count
    → store s (addr + at) new ≡ store s addr (overwritten (bytes_at s addr count) at new)
store-part s addr zero at new e some within = absurd (omega arith)
store-part s addr (suc count) at new e some within =
    let fits = is_range-fits s addr (suc count) e in
    let less : at < suc count = omega arith in
    ap (λ (n : ℕ). with_range s n (written (slice_index_or (ranges s) n []) ((addr + at) % 0x10000000) new)) (same_range addr (suc count) at fits less)
    ∙ ap (λ (k : ℕ). with_range s (addr / 0x10000000) (written (range_at s addr) k new)) (next_place addr (suc count) at fits less)
    ∙ ap (with_range s (addr / 0x10000000)) (written-part (range_at s addr) (addr % 0x10000000) (suc count) at new (inside s addr count e) within)

length-part : (s : State) (addr count at : ℕ) (new : List ℕ) → is_range s addr count ≡ true → at + length new ≤ count
    → length (overwritten (bytes_at s addr count) at new) ≡ count
length-part s addr count at new e within =
    let long = length-bytes_at s addr count e in
    length-overwritten (bytes_at s addr count) at new (omega (arith, long)) ∙ long

-- what such a store makes of the span, and of what lies around it
pub bytes_at-stored : (s : State) (addr count at : ℕ) (new : List ℕ) → is_range s addr count ≡ true → 0 < length new → at + length new ≤ count
    → bytes_at (store s (addr + at) new) addr count ≡ overwritten (bytes_at s addr count) at new
bytes_at-stored s addr count at new e some within =
    let whole = overwritten (bytes_at s addr count) at new in
    let long : length whole ≡ count = length-part s addr count at new e within in
    ap (λ (t : State). bytes_at t addr count) (store-part s addr count at new e some within)
    ∙ ap (λ (n : ℕ). bytes_at (store s addr whole) addr n) (sym long)
    ∙ bytes_at-store s addr whole (ap (is_range s addr) long ∙ e)

pub rest_of-stored : (s : State) (addr count at : ℕ) (new : List ℕ) → is_range s addr count ≡ true → 0 < length new → at + length new ≤ count
    → rest_of (store s (addr + at) new) addr count ≡ rest_of s addr count
rest_of-stored s addr count at new e some within =
    let whole = overwritten (bytes_at s addr count) at new in
    let long : length whole ≡ length (zeros count) = length-part s addr count at new e within ∙ sym (length-zeros count) in
    ap (λ (t : State). rest_of t addr count) (store-part s addr count at new e some within)
    ∙ ap (λ (t : State). (addr, count, t)) (store-twice s addr whole (zeros count) long)

pub is_range-stored : (s : State) (addr count at : ℕ) (new : List ℕ) → is_range s addr count ≡ true → 0 < length new → at + length new ≤ count
    → is_range (store s (addr + at) new) addr count ≡ true
is_range-stored s addr count at new e some within =
    ap (λ (t : State). is_range t addr count) (store-part s addr count at new e some within)
    ∙ is_range-store s addr (overwritten (bytes_at s addr count) at new) count
    ∙ e
