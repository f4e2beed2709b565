-- Readers of which each wish lies in RAM, whatever they are told.
use Rattle.std.proofs.Common.{◌≡◌, ℕ, zero, suc, ◌+◌, ◌-◌, ◌*◌, Bool, true, false, List, [], ◌++◌, min}
use Rattle.std.proofs.Common.{Option, Some, None, Result, Ok, Err, refl, arith}
use Rattle.std.specs.Prelude.{if◌then◌else◌, nat_le}
use Rattle.std.specs.Int.{from_le_bytes, w64}
use Rattle.std.specs.List.{list_all}
use Rattle.ns_ram.specs.Attempt.{Attempt, after_pass, faultless, known, need, passes, read, unless_faulty, ◌>>=◌}
use Rattle.ns_ram.specs.Lane.{IsInRam}
use Rattle.ns_ram.specs.Pages.{is_page, lists_of, walk, walk_lists}
use Rattle.ns_ram.specs.Reader.{Reader, done, take_bytes, want_bytes, want_words}
use Rattle.ns_ram.specs.Reader.{◌>>=◌ as read_then}
use Rattle.ns_ram.proofs.PageWalk.{is_page-inside}
use Rattle.kernel_model.proofs.Copied.{PassedIn, Passed}
use Rattle.kernel_model.proofs.Parts.{AllOf, anything}

-- the bytes, and the most words, that it can wish for lie in RAM
abbrev pub LiesInRam : {A : Type 0} → Reader A → Type 0
LiesInRam (done value) = Unit {0}
LiesInRam (want_bytes addr len next) = IsInRam addr len × ((got : List ℕ) → LiesInRam (next got))
LiesInRam (want_words addr most test next) = IsInRam addr (8 * most) × ((got : List ℕ) → LiesInRam (next got))

-- the reader asks for RAM alone
pub record AsksRam {A : Type 0} (reader : Reader A) : Type 0 where
  pub of_ram : LiesInRam reader

pub asks_done : {A : Type 0} (value : A) → AsksRam (done value)
asks_done value = record { of_ram = tt }

-- ---- one wish

pub asks_bytes : {A : Type 0} (addr len : ℕ) (next : List ℕ → Reader A) → IsInRam addr len
    → ((got : List ℕ) → AsksRam (next got)) → AsksRam (want_bytes addr len next)
asks_bytes addr len next inside rest = record { of_ram = (inside, λ got. (rest got).of_ram) }

pub asks_taken : (addr len : ℕ) → IsInRam addr len → AsksRam (take_bytes addr len)
asks_taken addr len inside = asks_bytes addr len done inside (λ got. asks_done got)

asks_words : {A : Type 0} (addr most : ℕ) (test : ℕ → Bool) (next : List ℕ → Reader A) → IsInRam addr (8 * most)
    → ((got : List ℕ) → AsksRam (next got)) → AsksRam (want_words addr most test next)
asks_words addr most test next inside rest = record { of_ram = (inside, λ got. (rest got).of_ram) }

-- ---- one reader, and then another

-- which is told what holds of the value
pub asks_then : {A B : Type 0} (P : A → Type 0) (first : Reader A) (onward : A → Reader B) → AsksRam first → AllOf P first
    → ((value : A) → P value → AsksRam (onward value)) → AsksRam (read_then first onward)
asks_then P (done value) onward asks all rest = rest value all
asks_then P (want_bytes addr len next) onward asks all rest =
    asks_bytes addr len _ asks.of_ram.0
    (λ got. asks_then P (next got) onward (record { of_ram = asks.of_ram.1 got }) (all got) rest)
asks_then P (want_words addr most test next) onward asks all rest =
    asks_words addr most test _ asks.of_ram.0
    (λ got. asks_then P (next got) onward (record { of_ram = asks.of_ram.1 got }) (all got) rest)

pub asks_on : {A B : Type 0} (first : Reader A) (onward : A → Reader B) → AsksRam first
    → ((value : A) → AsksRam (onward value)) → AsksRam (read_then first onward)
asks_on first onward asks rest =
    asks_then (λ value. Unit {0}) first onward asks (anything first) (λ value any. rest value)

-- an attempt, and what follows where it passes a value of which this holds
pub passes_so : {F A B : Type 0} (P : A → Type 0) (first : Attempt F A) (onward : A → Attempt F B) → AsksRam first
    → Passed P first → ((value : A) → P value → AsksRam (onward value)) → AsksRam (first >>= onward)
passes_so {F} {A} P first onward asks all rest =
    asks_then (λ (result : Result A F). PassedIn P result) first (after_pass onward) asks all by
  where
    by : (result : Result A F) → PassedIn P result → AsksRam (after_pass onward result)
    by (Ok value) holds = rest value holds
    by (Err refusal) holds = asks_done (Err refusal)

pub passes_on : {F A B : Type 0} (first : Attempt F A) (onward : A → Attempt F B) → AsksRam first
    → ((value : A) → AsksRam (onward value)) → AsksRam (first >>= onward)
passes_on {F} {A} first onward asks rest = asks_on first (after_pass onward) asks by
  where
    by : (result : Result A F) → AsksRam (after_pass onward result)
    by (Ok value) = rest value
    by (Err refusal) = asks_done (Err refusal)

pub needs_on : {F B : Type 0} (holds : Bool) (refusal : F) (onward : Unit {0} → Attempt F B)
    → (holds ≡ true → AsksRam (onward tt)) → AsksRam (need holds refusal >>= onward)
needs_on true refusal onward rest = rest refl
needs_on false refusal onward rest = asks_done (Err refusal)

pub knows_on : {F A B : Type 0} (found : Option A) (refusal : F) (onward : A → Attempt F B)
    → ((value : A) → found ≡ Some value → AsksRam (onward value)) → AsksRam (known found refusal >>= onward)
knows_on None refusal onward rest = asks_done (Err refusal)
knows_on (Some value) refusal onward rest = rest value refl

pub reads_so : {F A : Type 0} (reader : Reader A) → AsksRam reader → AsksRam (read {F = F} reader)
reads_so reader asks = asks_on reader passes asks (λ value. asks_done (Ok value))

pub faultless_so : {E F A : Type 0} (attempt : Attempt E A) (refusal : F) → AsksRam attempt
    → AsksRam (faultless attempt refusal)
faultless_so {E} {F} {A} attempt refusal asks = asks_on attempt (unless_faulty refusal) asks by
  where
    by : (result : Result A E) → AsksRam (unless_faulty refusal result)
    by (Ok value) = asks_done (Ok value)
    by (Err fault) = asks_done (Err refusal)

-- by a test
pub asks_if : {A : Type 0} (test : Bool) (first second : Reader A) → (test ≡ true → AsksRam first)
    → (test ≡ false → AsksRam second) → AsksRam (if test then first else second)
asks_if true first second on_true on_false = on_true refl
asks_if false first second on_true on_false = on_false refl

-- ---- page lists

asks_lists : (lists list count : ℕ) (found : List ℕ) → AsksRam (walk_lists lists list count found)
asks_lists zero list count found = asks_done (Ok found)
asks_lists (suc lists) list count found =
    asks_if (is_page list) _ _
    (λ page.
    let inside = is_page-inside list page in
    let low = inside.0 in
    let high = inside.1 in
    asks_words list (min count 511) is_page _ (omega (arith, low), omega (arith, high)) (λ entries.
    asks_if (list_all is_page entries) _ _
    (λ passed. asks_if (nat_le count 511) _ _ (λ last. asks_done _)
    (λ more. asks_bytes (list + 8 * 511) 8 _ (omega (arith, low), omega (arith, high))
    (λ word. asks_lists lists (from_le_bytes w64 word) (count - 511) (found ++ entries))))
    (λ bad. asks_done _)))
    (λ bad. asks_done _)

pub asks_walk : (list count : ℕ) → AsksRam (walk list count)
asks_walk list count = asks_lists (lists_of count) list count []
