-- Each change keeps what holds of each registry.
use Rattle.std.proofs.Common.{◌≡◌, ℕ, zero, suc, ◌+◌, ◌*◌, ◌<◌, ◌≤◌, Bool, true, false, not, ◌&&◌, ◌||◌, ◌==◌, cond, List, [], ◌∷◌, ◌++◌, length, map, filter, Some, None, IsSome, refl, sym, ◌∙◌, ap, arith, inl, inr, length-append}
use Rattle.std.proofs.lemmas.List.{length-map}
use Rattle.std.specs.Ordering.{nat_cmp, eq_by_cmp}
use Rattle.std.specs.List.{AllByRecursion, IsDistinct, list_any}
use Rattle.std.specs.Cmp.{nat_eq_equiv}
use Rattle.std.proofs.lemmas.Bool.{cases_Bool, eqb-true, eq-eqb}
use Rattle.std.proofs.lemmas.Bool.Decides.{nat_tests}
use Rattle.std.proofs.lemmas.List.Elements.{All-nil}
use Rattle.std.proofs.lemmas.List.Folds.{list_any-append}
use Rattle.std.proofs.lemmas.Map.Made.{length-le_from_is_member}
use Rattle.base.specs.NumberMap.{NumberMap, get, insert, remove, get-insert, get-remove, IsRising-insert, IsRising-remove}
use Rattle.base.proofs.MapLemmas.{All-insert, All-remove, length-insert-le, length-remove-le}
use Rattle.shm_registry.specs.declared.page_buffer.PageBuffer.{PageBuffer}
use Rattle.shm_registry.specs.declared.pin.Pin.{Pin}
use Rattle.shm_registry.specs.Pieces.{IsBuffer}
use Rattle.shm_registry.specs.Registered.{IsKeptPin, IsSound, is_pin, without_slot, lowest_slot}

-- ---- facts of each element

All-map : {X : Type 0} (P Q : X → Type 0) (xs : List X) → ((x : X) → P x → Q x) → AllByRecursion P xs → AllByRecursion Q xs
All-map P Q [] f h = tt
All-map P Q (x ∷ xs) f h = (f x h.0, All-map P Q xs f h.1)

All-filter : {X : Type 0} (P : X → Type 0) (p : X → Bool) (xs : List X) → AllByRecursion P xs → AllByRecursion P (filter p xs)
All-filter P p [] h = tt
All-filter P p (x ∷ xs) h =
    elim (p x) as (λ b. AllByRecursion P (cond b (x ∷ filter p xs) (filter p xs))) [
      | true ↦ (h.0, All-filter P p xs h.1)
      | false ↦ All-filter P p xs h.1
    ]

All-append : {X : Type 0} (P : X → Type 0) (xs ys : List X) → AllByRecursion P xs → AllByRecursion P ys → AllByRecursion P (xs ++ ys)
All-append P [] ys h g = g
All-append P (x ∷ xs) ys h g = (h.0, All-append P xs ys h.1 g)

-- ---- a buffer more, a buffer less

kept_with : (m : NumberMap PageBuffer) (k : ℕ) (v : PageBuffer) (q : ℕ) → IsSome (get m q) → IsSome (get (insert m k v) q)
kept_with m k v q h =
    rw (get-insert m k v q) (elim (eq_by_cmp nat_cmp q k) as (λ b. IsSome (cond b (Some v) (get m q))) [ true ↦ refl | false ↦ h ])

pub IsSound-insert : (buffers : NumberMap PageBuffer) (pins : List Pin) (k : ℕ) (v : PageBuffer) →
    IsSound (record { buffers = buffers; pins = pins }) → length buffers < 64 → IsBuffer v →
    IsSound (record { buffers = insert buffers k v; pins = pins })
IsSound-insert buffers pins k v s room valid = record {
  rising = IsRising-insert buffers k v s.rising;
  few = omega (arith, length-insert-le buffers k v);
  buffers = All-insert (λ e. IsBuffer e.1) buffers k v s.buffers valid;
  distinct = s.distinct;
  pins = All-map (IsKeptPin buffers) (IsKeptPin (insert buffers k v)) pins (λ pin kept. record { cookie = kept_with buffers k v pin.cookie kept.cookie; slot = kept.slot }) s.pins;
}

-- where no slot pins a cookie, no pin names it
none_pins : (pins : List Pin) (k : ℕ) → lowest_slot pins k ≡ None → AllByRecursion (λ pin. (pin.cookie == k) ≡ false) pins
none_pins [] k e = tt
none_pins (pin ∷ pins) k e =
    elim (cases_Bool (pin.cookie == k)) [
      | inl p ↦ let wrong = rw p at e in absurd (cc)
      | inr p ↦ (p, none_pins pins k (rw p at e))
    ]

-- a cookie that a slot pins is kept
pub lowest_kept : (m : NumberMap PageBuffer) (pins : List Pin) (k slot : ℕ) → AllByRecursion (IsKeptPin m) pins →
    lowest_slot pins k ≡ Some slot → IsSome (get m k)
lowest_kept m [] k slot h e = absurd (cc)
lowest_kept m (pin ∷ pins) k slot h e =
    elim (cases_Bool (pin.cookie == k)) [
      | inl p ↦ let same : pin.cookie ≡ k = eqb-true pin.cookie k p in rw same at h.0.cookie
      | inr p ↦ lowest_kept m pins k slot h.1 (rw p at e)
    ]

kept_without : (m : NumberMap PageBuffer) (k q : ℕ) → (q == k) ≡ false → IsSome (get m q) → IsSome (get (remove m k) q)
kept_without m k q apart h =
    let differ : eq_by_cmp nat_cmp k q ≡ false = grind (arith, nat_tests) in rw (get-remove m k q, differ) h

kept_pins : (m : NumberMap PageBuffer) (k : ℕ) (pins : List Pin) → AllByRecursion (λ pin. (pin.cookie == k) ≡ false) pins →
    AllByRecursion (IsKeptPin m) pins → AllByRecursion (IsKeptPin (remove m k)) pins
kept_pins m k [] apart h = tt
kept_pins m k (pin ∷ pins) apart h = (
  record { cookie = kept_without m k pin.cookie apart.0 h.0.cookie; slot = h.0.slot },
  kept_pins m k pins apart.1 h.1,
)

pub IsSound-remove : (buffers : NumberMap PageBuffer) (pins : List Pin) (k : ℕ) →
    IsSound (record { buffers = buffers; pins = pins }) → lowest_slot pins k ≡ None →
    IsSound (record { buffers = remove buffers k; pins = pins })
IsSound-remove buffers pins k s free = record {
  rising = IsRising-remove buffers k s.rising;
  few = omega (arith, length-remove-le buffers k, s.few);
  buffers = All-remove (λ e. IsBuffer e.1) buffers k s.buffers;
  distinct = s.distinct;
  pins = kept_pins buffers k pins (none_pins pins k free) s.pins;
}

-- ---- a pin more

neither : (a b : Bool) → (a || b) ≡ false → (a ≡ false) × (b ≡ false)
neither true b e = absurd (cc)
neither false b e = (refl, e)

or_true : (a b : Bool) → b ≡ true → (a || b) ≡ true
or_true true b e = refl
or_true false b e = e

distinct-append : (pins : List Pin) (pin : Pin) → IsDistinct (λ one other. is_pin one.cookie one.slot other) pins →
    AllByRecursion (λ one. is_pin one.cookie one.slot pin ≡ false) pins →
    IsDistinct (λ one other. is_pin one.cookie one.slot other) (pins ++ pin ∷ [])
unfolding IsDistinct
distinct-append [] pin d h = (tt, tt)
distinct-append (one ∷ pins) pin d h =
    (All-append (λ other. is_pin one.cookie one.slot other ≡ false) pins (pin ∷ []) d.0 (h.0, tt), distinct-append pins pin d.1 h.1)

-- a pin that is another one, from either side
apart : (one : Pin) (cookie slot : ℕ) → is_pin cookie slot one ≡ false → ((one.cookie == cookie) && (one.slot == slot)) ≡ false →
    ((cookie == one.cookie) && (slot == one.slot)) ≡ false
apart one cookie slot h g = grind (arith, nat_tests)

no_pin : (cookie slot : ℕ) (pins : List Pin) → list_any (is_pin cookie slot) pins ≡ false →
    AllByRecursion (λ one. is_pin one.cookie one.slot (record { cookie = cookie; slot = slot }) ≡ false) pins
no_pin cookie slot [] h = tt
no_pin cookie slot (one ∷ pins) h =
    let tests = neither (is_pin cookie slot one) (list_any (is_pin cookie slot) pins) h in
    (apart one cookie slot tests.0 tests.0, no_pin cookie slot pins tests.1)

pub IsSound-pin : (buffers : NumberMap PageBuffer) (pins : List Pin) (cookie slot : ℕ) →
    IsSound (record { buffers = buffers; pins = pins }) → IsSome (get buffers cookie) → slot < 16 →
    list_any (is_pin cookie slot) pins ≡ false →
    IsSound (record { buffers = buffers; pins = pins ++ record { cookie = cookie; slot = slot } ∷ [] })
IsSound-pin buffers pins cookie slot s kept low fresh =
    let pin : Pin = record { cookie = cookie; slot = slot } in
    record {
      rising = s.rising;
      few = s.few;
      buffers = s.buffers;
      distinct = distinct-append pins pin s.distinct (no_pin cookie slot pins fresh);
      pins = All-append (IsKeptPin buffers) pins (pin ∷ []) s.pins (record { cookie = kept; slot = low }, tt);
    }

-- ---- the pins of a slot less

distinct-filter : (p : Pin → Bool) (pins : List Pin) → IsDistinct (λ one other. is_pin one.cookie one.slot other) pins →
    IsDistinct (λ one other. is_pin one.cookie one.slot other) (filter p pins)
unfolding IsDistinct
distinct-filter p [] d = tt
distinct-filter p (one ∷ pins) d =
    elim (p one) as (λ b. IsDistinct (λ one other. is_pin one.cookie one.slot other) (cond b (one ∷ filter p pins) (filter p pins))) [
      | true ↦ (All-filter (λ other. is_pin one.cookie one.slot other ≡ false) p pins d.0, distinct-filter p pins d.1)
      | false ↦ distinct-filter p pins d.1
    ]

pub IsSound-unpin : (buffers : NumberMap PageBuffer) (pins : List Pin) (slot : ℕ) →
    IsSound (record { buffers = buffers; pins = pins }) → IsSound (record { buffers = buffers; pins = without_slot pins slot })
IsSound-unpin buffers pins slot s =
    let p : Pin → Bool = λ pin. not (pin.slot == slot) in
    record {
      rising = s.rising;
      few = s.few;
      buffers = s.buffers;
      distinct = distinct-filter p pins s.distinct;
      pins = All-filter (IsKeptPin buffers) p pins s.pins;
    }

-- ---- at most one pin of each slot on each buffer

abbrev code : Pin → ℕ
code pin = 16 * pin.cookie + pin.slot

-- so many numbers from one on, the last first
abbrev run : ℕ → ℕ → List ℕ
run from zero = []
run from (suc n) = (from + n) ∷ run from n

-- the codes of all pins that there can be
abbrev all_codes : NumberMap PageBuffer → List ℕ
all_codes [] = []
all_codes (e ∷ es) = run (16 * e.0) 16 ++ all_codes es

length-run : (from n : ℕ) → length (run from n) ≡ n
length-run from zero = refl
length-run from (suc n) = ap (λ k. suc k) (length-run from n)

length-all_codes : (m : NumberMap PageBuffer) → length (all_codes m) ≡ 16 * length m
length-all_codes [] = refl
length-all_codes (e ∷ es) =
    omega (arith, length-append (run (16 * e.0) 16) (all_codes es), length-run (16 * e.0) 16, length-all_codes es)

run-has : (from n k : ℕ) → k < n → list_any (λ x. (from + k) == x) (run from n) ≡ true
run-has from zero k h = absurd (omega arith)
run-has from (suc n) k h =
    elim (cases_Bool ((from + k) == (from + n))) [
      | inl p ↦ rw p refl
      | inr p ↦
          let less : k < n = grind (arith, nat_tests) in
          rw p (run-has from n k less)
    ]

all_codes-has : (m : NumberMap PageBuffer) (k slot : ℕ) → IsSome (get m k) → slot < 16 →
    list_any (λ x. (16 * k + slot) == x) (all_codes m) ≡ true
all_codes-has [] k slot h low = absurd (cc)
all_codes-has (e ∷ es) k slot h low =
    let test : ℕ → Bool = λ x. (16 * k + slot) == x in
    rw (list_any-append test (run (16 * e.0) 16) (all_codes es))
    (elim (cases_Bool (eq_by_cmp nat_cmp k e.0)) [
      | inl p ↦
          let same : k ≡ e.0 = grind (arith, nat_tests) in
          let there : list_any test (run (16 * e.0) 16) ≡ true = rw same (run-has (16 * e.0) 16 slot low) in
          rw there refl
      | inr p ↦ or_true (list_any test (run (16 * e.0) 16)) _ (all_codes-has es k slot (rw p at h) low)
    ])

codes_apart : (m : NumberMap PageBuffer) (pin : Pin) → pin.slot < 16 → (pins : List Pin) →
    AllByRecursion (λ other. is_pin pin.cookie pin.slot other ≡ false) pins → AllByRecursion (IsKeptPin m) pins →
    AllByRecursion (λ y. (code pin == y) ≡ false) (map code pins)
codes_apart m pin low [] d h = tt
codes_apart m pin low (other ∷ pins) d h =
    let apart : (code pin == code other) ≡ false =
    elim (cases_Bool (code pin == code other)) as (λ _. (code pin == code other) ≡ false) [
      | inl p ↦
          let same : 16 * pin.cookie + pin.slot ≡ 16 * other.cookie + other.slot = eqb-true _ _ p in
          let low_too : other.slot < 16 = h.0.slot in
          let cookies : other.cookie ≡ pin.cookie = omega arith in
          let slots : other.slot ≡ pin.slot = omega arith in
          let is : is_pin pin.cookie pin.slot other ≡ true = rw (cookies, slots, eq-eqb pin.cookie pin.cookie refl, eq-eqb pin.slot pin.slot refl) refl in
          absurd (let wrong : true ≡ false = sym is ∙ d.0 in cc)
      | inr p ↦ p
    ] in
    (apart, codes_apart m pin low pins d.1 h.1)

codes-distinct : (m : NumberMap PageBuffer) (pins : List Pin) → IsDistinct (λ one other. is_pin one.cookie one.slot other) pins →
    AllByRecursion (IsKeptPin m) pins → IsDistinct ◌==◌ (map code pins)
unfolding IsDistinct
codes-distinct m [] d h = tt
codes-distinct m (pin ∷ pins) d h = (codes_apart m pin h.0.slot pins d.0 h.1, codes-distinct m pins d.1 h.1)

codes-kept : (m : NumberMap PageBuffer) (pins : List Pin) (q : ℕ) → AllByRecursion (IsKeptPin m) pins →
    list_any (λ x. q == x) (map code pins) ≡ true → list_any (λ x. q == x) (all_codes m) ≡ true
codes-kept m [] q h e = absurd (cc)
codes-kept m (pin ∷ pins) q h e =
    elim (cases_Bool (q == code pin)) [
      | inl p ↦
          let same : q ≡ code pin = eqb-true q (code pin) p in
          rw same (all_codes-has m pin.cookie pin.slot h.0.cookie h.0.slot)
      | inr p ↦ codes-kept m pins q h.1 (rw p at e)
    ]

pub few_pins : (buffers : NumberMap PageBuffer) (pins : List Pin) → IsSound (record { buffers = buffers; pins = pins }) → length pins ≤ 1024
few_pins buffers pins s =
    let fewer : length (map code pins) ≤ length (all_codes buffers) =
    length-le_from_is_member nat_eq_equiv (map code pins) (all_codes buffers) (codes-distinct buffers pins s.distinct s.pins) (λ q e. codes-kept buffers pins q s.pins e) in
    omega (arith, fewer, length-map pins code, length-all_codes buffers, s.few)

-- with one that isn't there, there is room for it
pub room_for_pin : (buffers : NumberMap PageBuffer) (pins : List Pin) (cookie slot : ℕ) →
    IsSound (record { buffers = buffers; pins = pins }) → IsSome (get buffers cookie) → slot < 16 →
    list_any (is_pin cookie slot) pins ≡ false → length pins < 1024
room_for_pin buffers pins cookie slot s kept low fresh =
    let pin : Pin = record { cookie = cookie; slot = slot } in
    omega (arith, few_pins buffers (pins ++ pin ∷ []) (IsSound-pin buffers pins cookie slot s kept low fresh), length-append pins (pin ∷ []))

pub IsSound-none : IsSound (record { buffers = []; pins = [] })
unfolding IsDistinct
IsSound-none = record { rising = refl; few = omega arith; buffers = All-nil (λ e. IsBuffer e.1); distinct = tt; pins = tt }
