-- The maps and lines of a session's machine as those of the group, and choices and look-ups that are mapped.
use Rattle.std.proofs.Common.{◌≡◌, ℕ, Bool, true, false, not, cond, List, [], ◌∷◌, Option, Some, None, refl, ap, ◌∙◌}
use Rattle.std.specs.Prelude.{◌==◌, filter, find, map, slice_get, if◌then◌else◌}
use Rattle.std.specs.Option.{option_map, option_and_then}
use Rattle.std.specs.Ordering.{nat_cmp, eq_by_cmp}
use Rattle.std.specs.declared.cmp.Ordering.TheVariants.{Less, Equal, Greater}
use Rattle.std.specs.FinMap.Entries as Entries
use Rattle.base.specs.NumberMap.{NumberMap, get, insert, remove}
use Rattle.own_model.specs.Solo.{OwnCall}
use Rattle.group_model.specs.Group.{GroupWaiter}
use Rattle.group_model.specs.Embedding.{call_as, calls_as, waiter_as}

-- ---- what is mapped

pub if-mapped : {A B : Type 0} (f : A → B) (test : Bool) (first second : A) (one other : B) → one ≡ f first
    → other ≡ f second → (if test then one else other) ≡ f (if test then first else second)
if-mapped f true first second one other same_first same_second = same_first
if-mapped f false first second one other same_first same_second = same_second

pub map-mapped : {X A B : Type 0} (f : A → B) (o : Option X) (g : X → A) (h : X → B) → ((x : X) → h x ≡ f (g x))
    → option_map h o ≡ option_map f (option_map g o)
map-mapped f None g h same = refl
map-mapped f (Some x) g h same = ap (λ y. Some y) (same x)

pub then-mapped : {X A B : Type 0} (f : A → B) (o : Option X) (g : X → Option A) (h : X → Option B)
    → ((x : X) → h x ≡ option_map f (g x)) → option_and_then h o ≡ option_map f (option_and_then g o)
then-mapped f None g h same = refl
then-mapped f (Some x) g h same = same x

-- of what is found, where that is mapped, too
pub found-mapped : {X Y A B : Type 0} (f : A → B) (e : X → Y) (o : Option X) (g : X → Option A) (h : Y → Option B)
    → ((x : X) → o ≡ Some x → h (e x) ≡ option_map f (g x))
    → option_and_then h (option_map e o) ≡ option_map f (option_and_then g o)
found-mapped f e None g h same = refl
found-mapped f e (Some x) g h same = same x refl

-- ---- calls by their numbers

mapped_at : (test : Bool) (call : OwnCall) (rest : Option OwnCall)
    → cond test (Some (call_as call)) (option_map call_as rest) ≡ option_map call_as (cond test (Some call) rest)
mapped_at true call rest = refl
mapped_at false call rest = refl

pub get_as : (calls : NumberMap OwnCall) (number : ℕ) → get (calls_as calls) number ≡ option_map call_as (get calls number)
get_as [] number = refl
get_as (first ∷ rest) number =
    ap (λ found. cond (eq_by_cmp nat_cmp number first.0) (Some (call_as first.1)) found) (get_as rest number)
    ∙ mapped_at (eq_by_cmp nat_cmp number first.0) first.1 (get rest number)

pub insert_as : (calls : NumberMap OwnCall) (number : ℕ) (call : OwnCall)
    → insert (calls_as calls) number (call_as call) ≡ calls_as (insert calls number call)
insert_as [] number call = refl
insert_as (first ∷ rest) number call =
    elim (nat_cmp number first.0) as (λ r.
    Entries.by_order r ((number, call_as call) ∷ calls_as (first ∷ rest)) ((first.0, call_as call) ∷ calls_as rest)
    ((first.0, call_as first.1) ∷ insert (calls_as rest) number (call_as call))
    ≡ calls_as (Entries.by_order r ((number, call) ∷ first ∷ rest) ((first.0, call) ∷ rest)
    (first ∷ insert rest number call))) [
      | Less ↦ refl
      | Equal ↦ refl
      | Greater ↦ ap (λ others. (first.0, call_as first.1) ∷ others) (insert_as rest number call)
    ]

pub remove_as : (calls : NumberMap OwnCall) (number : ℕ) → remove (calls_as calls) number ≡ calls_as (remove calls number)
remove_as [] number = refl
remove_as (first ∷ rest) number =
    ap (λ others. cond (not (eq_by_cmp nat_cmp number first.0)) ((first.0, call_as first.1) ∷ others) others)
    (remove_as rest number)
    ∙ kept_at (not (eq_by_cmp nat_cmp number first.0))
  where
    kept_at : (test : Bool)
        → cond test ((first.0, call_as first.1) ∷ calls_as (remove rest number)) (calls_as (remove rest number))
        ≡ calls_as (cond test (first ∷ remove rest number) (remove rest number))
    kept_at true = refl
    kept_at false = refl

-- ---- those that wait

pub without_as : (line : List ℕ) (number : ℕ)
    → filter (λ (waiter : GroupWaiter). not (waiter.call == number)) (map waiter_as line)
    ≡ map waiter_as (filter (λ other. not (other == number)) line)
without_as [] number = refl
without_as (first ∷ rest) number =
    ap (λ others. cond (not (first == number)) (waiter_as first ∷ others) others) (without_as rest number)
    ∙ kept_at (not (first == number))
  where
    left : List ℕ
    left = filter (λ other. not (other == number)) rest

    kept_at : (test : Bool)
        → cond test (waiter_as first ∷ map waiter_as left) (map waiter_as left)
        ≡ map waiter_as (cond test (first ∷ left) left)
    kept_at true = refl
    kept_at false = refl

-- all wait for the one instance
pub first_as : (line : List ℕ)
    → option_map (λ (waiter : GroupWaiter). waiter.call)
    (find (λ (waiter : GroupWaiter). waiter.instance == 1) (map waiter_as line)) ≡ slice_get line 0
first_as [] = refl
first_as (first ∷ rest) = refl
