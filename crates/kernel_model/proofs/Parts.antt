-- One element of a list by number, set and read; what holds of each value of a reader; and of a choice.
use Rattle.std.proofs.Common.{◌≡◌, ℕ, zero, suc, List, [], ◌∷◌, Option, Some, None, Bool, true, false, refl, ap, sym, ◌∙◌}
use Rattle.std.specs.Prelude.{IsSome, slice_get, slice_set, if◌then◌else◌}
use Rattle.std.specs.Option.{option_and_then, option_map, option_map_or}
use Rattle.std.proofs.lemmas.Option.{option_and_then_some}
use Rattle.ns_ram.specs.declared.read.Read.{Read}
use Rattle.ns_ram.specs.Reader.{Reader, done, want_bytes, want_words, ◌>>=◌, next_bytes, next_words, over_reads, if_used_up, reading}

pub set_then_read : {X : Type 0} (xs : List X) (i : ℕ) (x y : X) → slice_get (slice_set xs i x) i ≡ Some y → x ≡ y
set_then_read [] i x y e = absurd cc
set_then_read (first ∷ xs) zero x y e = cc
set_then_read (first ∷ xs) (suc i) x y e = set_then_read xs i x y e

pub set_twice : {X : Type 0} (xs : List X) (i : ℕ) (x y : X) → slice_get xs i ≡ Some y → slice_set (slice_set xs i x) i y ≡ xs
set_twice [] i x y e = absurd cc
set_twice (first ∷ xs) zero x y e = let same : first ≡ y = cc in ap (λ z. z ∷ xs) (sym same)
set_twice (first ∷ xs) (suc i) x y e = ap (λ zs. first ∷ zs) (set_twice xs i x y e)

pub set_found : {X : Type 0} (xs : List X) (i : ℕ) (x y : X) → slice_get xs i ≡ Some y → slice_get (slice_set xs i x) i ≡ Some x
set_found [] i x y e = absurd cc
set_found (first ∷ xs) zero x y e = cc
set_found (first ∷ xs) (suc i) x y e = set_found xs i x y e

pub set_other : {X : Type 0} (xs : List X) (i j : ℕ) (x : X) → (i ≡ j → ⊥) → slice_get (slice_set xs i x) j ≡ slice_get xs j
set_other [] i j x apart = refl
set_other (first ∷ xs) zero zero x apart = absurd (apart refl)
set_other (first ∷ xs) zero (suc j) x apart = refl
set_other (first ∷ xs) (suc i) zero x apart = refl
set_other (first ∷ xs) (suc i) (suc j) x apart = set_other xs i j x (λ e. apart (ap suc e))

-- ---- what holds of each value that a reader can have

abbrev pub AllOf : {A : Type 0} → (A → Type 0) → Reader A → Type 0
AllOf P (done value) = P value
AllOf P (want_bytes addr len next) = (got : List ℕ) → AllOf P (next got)
AllOf P (want_words addr most test next) = (got : List ℕ) → AllOf P (next got)

pub anything : {A : Type 0} (reader : Reader A) → AllOf (λ value. Unit {0}) reader
anything (done value) = tt
anything (want_bytes addr len next) = λ got. anything (next got)
anything (want_words addr most test next) = λ got. anything (next got)

pub AllOf-mapped : {A B : Type 0} (reader : Reader A) (f : A → B) (P : B → Type 0) → ((a : A) → P (f a)) → AllOf P (reader >>= (λ a. done (f a)))
AllOf-mapped (done value) f P all = all value
AllOf-mapped (want_bytes addr len next) f P all = λ got. AllOf-mapped (next got) f P all
AllOf-mapped (want_words addr most test next) f P all = λ got. AllOf-mapped (next got) f P all

pub AllOf-onward : {A : Type 0} (reader : Reader A) (P Q : A → Type 0) → ((a : A) → P a → Q a) → AllOf P reader → AllOf Q reader
AllOf-onward (done value) P Q onward all = onward value all
AllOf-onward (want_bytes addr len next) P Q onward all = λ got. AllOf-onward (next got) P Q onward (all got)
AllOf-onward (want_words addr most test next) P Q onward all = λ got. AllOf-onward (next got) P Q onward (all got)

-- a value of which something holds, and what a function gives for it
pub record Found {A B : Type 0} (f : A → B) (P : A → Type 0) (result : B) : Type 0 where
  pub value : A
  pub holds : P value
  pub gives : f value ≡ result

over_reads-all : {A B : Type 0} (reader : Reader A) (f : A → B) (P : A → Type 0) → AllOf P reader → (reads : List Read) (step : B × List Read)
    → over_reads (reader >>= (λ value. done (f value))) reads ≡ Some step → Found f P step.0
over_reads-all (done value) f P all reads step e =
    let here : _ × List Read = (f value, reads) in
    let same : here ≡ step = cc in
    record { value = value; holds = all; gives = ap (λ s. s.0) same }
over_reads-all (want_bytes addr len next) f P all reads step e =
    option_and_then_some _ (next_bytes addr len reads) step e (λ got there onward. over_reads-all (next got.0) f P (all got.0) got.1 step onward)
over_reads-all (want_words addr most test next) f P all reads step e =
    option_and_then_some _ (next_words addr most test reads) step e (λ got there onward. over_reads-all (next got.0) f P (all got.0) got.1 step onward)

used_up : {B : Type 0} (step : B × List Read) (value : B) → if_used_up step ≡ Some value → step.0 ≡ value
used_up (v, []) value e = cc
used_up (v, read ∷ reads) value e = absurd cc

-- what a mapped reader makes of reads is the function of a value that it can have
pub reading-all : {A B : Type 0} (reader : Reader A) (f : A → B) (P : A → Type 0) → AllOf P reader → (reads : List Read) (result : B)
    → reading (reader >>= (λ value. done (f value))) reads ≡ Some result → Found f P result
reading-all reader f P all reads result e =
    option_and_then_some if_used_up (over_reads (reader >>= (λ value. done (f value))) reads) result e
    (λ step there onward.
    let found = over_reads-all reader f P all reads step there in
    record { value = found.value; holds = found.holds; gives = found.gives ∙ used_up step result onward })

-- ---- what holds of both sides of a choice

pub if-both : {A : Type 0} (P : A → Type 0) (test : Bool) (first second : A) → P first → P second → P (if test then first else second)
if-both P true first second on_first on_second = on_first
if-both P false first second on_first on_second = on_second

pub map_or-both : {A B : Type 0} (P : B → Type 0) (f : A → B) (found : Option A) (other : B)
    → ((a : A) → P (f a)) → P other → P (option_map_or f found other)
map_or-both P f None other on_found on_other = on_other
map_or-both P f (Some a) other on_found on_other = on_found a

-- ---- what a mapped reader makes of reads

abbrev mapped_step : {A B : Type 0} (f : A → B) → A × List Read → B × List Read
mapped_step f step = (f step.0, step.1)

through : {X A B : Type 0} (f : A → B) (o : Option X) (g : X → Option (B × List Read)) (h : X → Option (A × List Read))
    → ((x : X) → g x ≡ option_map (mapped_step f) (h x)) → option_and_then g o ≡ option_map (mapped_step f) (option_and_then h o)
through f None g h same = refl
through f (Some x) g h same = same x

over_reads-mapped : {A B : Type 0} (reader : Reader A) (f : A → B) (reads : List Read)
    → over_reads (reader >>= (λ value. done (f value))) reads ≡ option_map (mapped_step f) (over_reads reader reads)
over_reads-mapped (done value) f reads = refl
over_reads-mapped (want_bytes addr len next) f reads =
    through f (next_bytes addr len reads) _ _ (λ got. over_reads-mapped (next got.0) f got.1)
over_reads-mapped (want_words addr most test next) f reads =
    through f (next_words addr most test reads) _ _ (λ got. over_reads-mapped (next got.0) f got.1)

used_up-mapped : {A B : Type 0} (f : A → B) (o : Option (A × List Read))
    → option_and_then if_used_up (option_map (mapped_step f) o) ≡ option_map f (option_and_then if_used_up o)
used_up-mapped f None = refl
used_up-mapped f (Some (value, [])) = refl
used_up-mapped f (Some (value, read ∷ reads)) = refl

pub reading-mapped : {A B : Type 0} (reader : Reader A) (f : A → B) (reads : List Read)
    → reading (reader >>= (λ value. done (f value))) reads ≡ option_map f (reading reader reads)
reading-mapped reader f reads =
    ap (λ o. option_and_then if_used_up o) (over_reads-mapped reader f reads) ∙ used_up-mapped f (over_reads reader reads)

-- ---- what is there

pub some_of : {A : Type 0} (o : Option A) → IsSome o → (a : A) × (o ≡ Some a)
some_of None some = absurd cc
some_of (Some a) some = (a, refl)

pub option_map_some : {A B : Type 0} (f : A → B) (o : Option A) (b : B) → option_map f o ≡ Some b → (a : A) × (o ≡ Some a) × (f a ≡ b)
option_map_some f None b e = absurd cc
option_map_some f (Some a) b e = (a, refl, cc)
