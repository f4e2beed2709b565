-- Readers that list few bytes over a lane, and no page lists.
use Rattle.std.proofs.Common.{◌≡◌, ℕ, ◌+◌, ◌-◌, ◌≤◌, Bool, true, false, List, [], ◌∷◌, ◌++◌, length, Option, Some, None, Result, Ok, Err, refl, ap, subst, sym, arith}
use Rattle.std.proofs.lemmas.List.Sums.{sum_by-append}
use Rattle.std.proofs.lemmas.Option.{option_and_then_some}
use Rattle.ns_ram.specs.Attempt.{Attempt, faultless, known, need, read, ◌>>=◌}
use Rattle.ns_ram.specs.Lane.{bytes_at}
use Rattle.ns_ram.specs.Reader.{Reader, done, lane_bytes, over_lane, want_bytes, want_words, ◌>>=◌ as read_then}
use Rattle.ns_ram.specs.Reads.{listed, total_bytes}
use Rattle.ns_ram.specs.declared.read.Read.{Read}
use Rattle.ns_ram.proofs.ReaderSteps.{lane_bytes-some}

-- over this lane the reader wants at most so many bytes, and no words
abbrev pub AtMost : {A : Type 0} → List ℕ → Reader A → ℕ → Type 0
AtMost lane (done value) most = Unit {0}
AtMost lane (want_bytes addr len next) most = (len ≤ most) × AtMost lane (next (bytes_at lane addr len)) (most - len)
AtMost lane (want_words addr count test next) most = ⊥

total-listed : (addr : ℕ) (got : List ℕ) → total_bytes (listed addr got) ≡ length got
total-listed addr [] = refl
total-listed addr (byte ∷ bytes) = omega arith

total-append : (xs ys : List Read) → total_bytes (xs ++ ys) ≡ total_bytes xs + total_bytes ys
total-append xs ys = sum_by-append (λ (r : Read). length r.bytes) xs ys

-- and so it lists at most so many
pub lists_few : {A : Type 0} (lane : List ℕ) (reader : Reader A) (most : ℕ) (before after : List Read) (value : A)
    → AtMost lane reader most → over_lane reader lane before ≡ Some (value, after)
    → total_bytes after ≤ total_bytes before + most
lists_few {A} lane (done v) most before after value few e =
    let ends : (v, before) ≡ (value, after) = cc in
    let same = ap (λ (p : A × List Read). p.1) ends in
    subst (λ (reads : List Read). total_bytes reads ≤ total_bytes before + most) same (omega arith)
lists_few {A} lane (want_bytes addr len next) most before after value few e =
    option_and_then_some _ (lane_bytes lane addr len) (value, after) e
    (λ (got : List ℕ) there onward.
    let h = lane_bytes-some lane addr len got there in
    let rest = subst (λ (bytes : List ℕ). AtMost lane (next bytes) (most - len)) (sym h.0) few.1 in
    let more = lists_few lane (next got) (most - len) (before ++ listed addr got) after value rest onward in
    let so_far = total-append before (listed addr got) in
    let here = total-listed addr got in
    omega (arith, few.0, h.1, more, so_far, here))
lists_few {A} lane (want_words addr count test next) most before after value few e = absurd few

-- ---- readers one after the other

pub few_more : {A : Type 0} (lane : List ℕ) (reader : Reader A) (few more : ℕ) → few ≤ more → AtMost lane reader few
    → AtMost lane reader more
few_more lane (done value) few more less at = tt
few_more lane (want_bytes addr len next) few more less at =
    (omega (arith, at.0, less), few_more lane (next (bytes_at lane addr len)) (few - len) (more - len) (omega (arith, less)) at.1)
few_more lane (want_words addr count test next) few more less at = absurd at

-- the first, and then one that wants nothing
pub then_nothing : {A B : Type 0} (lane : List ℕ) (first : Reader A) (onward : A → Reader B) (most : ℕ)
    → AtMost lane first most → ((value : A) → AtMost lane (onward value) 0) → AtMost lane (read_then first onward) most
then_nothing lane (done value) onward most at rest = few_more lane (onward value) 0 most (omega arith) (rest value)
then_nothing lane (want_bytes addr len next) onward most at rest =
    (at.0, then_nothing lane (next (bytes_at lane addr len)) onward (most - len) at.1 rest)
then_nothing lane (want_words addr count test next) onward most at rest = absurd at

-- ---- tests

pub need_then : {F A : Type 0} (lane : List ℕ) (test : Bool) (refusal : F) (onward : Unit {0} → Attempt F A) (most : ℕ)
    → AtMost lane (onward tt) most → AtMost lane (need test refusal >>= onward) most
need_then lane true refusal onward most rest = rest
need_then lane false refusal onward most rest = tt

pub known_then : {F A B : Type 0} (lane : List ℕ) (found : Option A) (refusal : F) (onward : A → Attempt F B) (most : ℕ)
    → ((value : A) → found ≡ Some value → AtMost lane (onward value) most)
    → AtMost lane (known found refusal >>= onward) most
known_then lane (Some value) refusal onward most rest = rest value refl
known_then lane None refusal onward most rest = tt

-- what is read without a fault wants nothing
pub faultless_then : {E F A B : Type 0} (lane : List ℕ) (attempt : Attempt E A) (refusal : F) (onward : A → Attempt F B)
    (most : ℕ) → AtMost lane attempt 0 → ((value : A) → AtMost lane (onward value) most)
    → AtMost lane (faultless attempt refusal >>= onward) most
faultless_then lane (done (Ok value)) refusal onward most at rest = rest value
faultless_then lane (done (Err fault)) refusal onward most at rest = tt
faultless_then lane (want_bytes addr len next) refusal onward most at rest =
    let none : len ≡ 0 = omega (arith, at.0) in (
      omega (arith, none),
      few_more lane (faultless (next (bytes_at lane addr len)) refusal >>= onward) most (most - len) (omega (arith, none))
          (faultless_then lane (next (bytes_at lane addr len)) refusal onward most
          (few_more lane (next (bytes_at lane addr len)) (0 - len) 0 (omega arith) at.1) rest),
    )
faultless_then lane (want_words addr count test next) refusal onward most at rest = absurd at

-- what is read, and then nothing
pub read_alone : {A : Type 0} (F : Type 0) (lane : List ℕ) (reader : Reader A) (most : ℕ) → AtMost lane reader most
    → AtMost {A = Result A F} lane (read reader) most
read_alone F lane (done value) most at = tt
read_alone F lane (want_bytes addr len next) most at =
    (at.0, read_alone F lane (next (bytes_at lane addr len)) (most - len) at.1)
read_alone F lane (want_words addr count test next) most at = absurd at
