-- The rule of the lock's table.
-- Word 0 is NEXT, the ticket that the next who comes draws. Word 1 is SERVING, the ticket whose turn it is. Word 2 is LENGTH, how many entries there are. The one slot has the value.
use Rattle.std.specs.Prelude.{◌≡◌, ◌⊎◌, ℕ, ◌+◌, ◌%◌, ◌<◌, ◌≤◌, List, [], ◌∷◌, map, length, slice_index, All, Option, Some, None}
use mathlib.Core.Option.{some, none}
use mathlib.Core.List.{IsPrefix}
use lib.ListN.{get_elem?}
use Rattle.atomic_table.specs.Table.{State}
use Rattle.core_lock.specs.declared.view.Record.{Record}
use Rattle.core_lock.specs.declared.view.Stand.{Stand}
use Rattle.core_lock.specs.declared.view.Stand.TheVariants.{Outside, Waits, Turn}
use Rattle.core_lock.specs.declared.view.View.{View}
use Rattle.core_lock.specs.Counts.{total, same, times, numbers_from, tickets_from, made_by}

-- 1 where the seat has a ticket
abbrev pub queued : Stand → ℕ
queued Outside = 0
queued (Waits t) = 1
queued (Turn t) = 1

-- 1 where the seat has this ticket
abbrev pub queued_at : ℕ → Stand → ℕ
queued_at x Outside = 0
queued_at x (Waits t) = same t x
queued_at x (Turn t) = same t x

-- 1 where the seat has the turn
abbrev pub turning : Stand → ℕ
turning Outside = 0
turning (Waits t) = 0
turning (Turn t) = 1

-- a record has just the entries of its number, and what it was taken over with was seen
abbrev pub IsRecord : {E : Type 0} → (E → ℕ) → List E → Record E → Type 0
IsRecord maker history r = IsPrefix r.seen history × (r.made ≡ made_by maker r.number history)

module _ {E G : Type 0} where
  abbrev pub waiting : List (View E G) → ℕ
  waiting views = total (λ v. queued v.stand) views

  abbrev pub waiting_at : ℕ → List (View E G) → ℕ
  waiting_at x views = total (λ v. queued_at x v.stand) views

  abbrev pub turns : List (View E G) → ℕ
  turns views = total (λ v. turning v.stand) views

  abbrev pub numbers_of : View E G → List ℕ
  numbers_of v = map (λ r. r.number) v.records

  abbrev pub numbered : ℕ → List (View E G) → ℕ
  numbered n views = total (λ v. times n (numbers_of v)) views

  -- a view that was taken in by another
  abbrev pub spent : View E G
  spent = record { count = 0; basis = None; seen = []; records = []; stand = Outside }

  -- a view that was not taken in has the lock's count and basis, and a record
  pub record IsLive (count : ℕ) (base : G) (v : View E G) : Type 0 where
    pub count_is : v.count ≡ count
    pub basis_is : v.basis ≡ Some base
    pub recorded : 0 < length v.records

  -- who has the turn has the ticket that is served, and has seen the whole history
  abbrev pub IsServed : List E → ℕ → View E G → Stand → Type 0
  IsServed history serving v Outside = Unit {0}
  IsServed history serving v (Waits t) = Unit {0}
  IsServed history serving v (Turn t) = (t ≡ serving) × (v.seen ≡ history)

  -- what the rule says of one view
  pub record Fits (maker : E → ℕ) (history : List E) (serving count : ℕ) (base : G) (v : View E G) : Type 0 where
    pub seen : IsPrefix v.seen history
    pub records : All (IsRecord maker history) v.records
    pub served : IsServed history serving v v.stand
    pub alive : IsLive count base v ⊎ (v ≡ spent)

  -- the slot has a value that stands for the history, unless a seat has the turn: then it is out with that seat
  abbrev pub IsKeptIn : {T : Type 0} → (T → List E) → (T → G) → List E → G → List (mathlib.Core.Option.Option (Option T)) → ℕ → Type 0
  IsKeptIn {T} entries basis history base homes turning =
      (turning ≡ 0 → (x : T) × (homes ≡ some (Some x) ∷ []) × (entries x ≡ history) × (basis x ≡ base))
      × (turning ≡ 1 → homes ≡ none ∷ [])

-- The rule, in six clauses. There is one list, the history, such that:
-- 1. LENGTH is its length. Each view, and each record that was taken over, has seen a beginning of it.
-- 2. NEXT is SERVING and the number of views with a ticket, and the tickets are the numbers from SERVING up to that, each once.
-- 3. At most one view has the turn. Its ticket is SERVING, and it has seen the whole history.
-- 4. While no view has the turn the slot has a value that stands for the history and has the lock's basis. While one has it the value is out with that seat.
-- 5. The views have the lock's count and basis. Each number below the count stands in one record of one view, no other number does, and each record has made just the entries of its number. Each entry's maker is below the count.
-- 6. Each view has a record, unless it was taken in by another.
-- `Fits` has what 1, 3, 5 and 6 say of a single view. `whole` follows from 5.
pub record Kept {T E G : Type 0} (entries : T → List E) (maker : E → ℕ) (basis : T → G) (count : ℕ) (base : G) (s : State (Option T) (View E G)) : Type 0 where
  pub history : List E
  pub wide : length s.words ≡ 3
  pub counted : slice_index s.words 2 ≡ length history
  pub small : slice_index s.words 1 < 18446744073709551616
  pub next : slice_index s.words 0 ≡ (slice_index s.words 1 + waiting s.views) % 18446744073709551616
  pub tickets : (x : ℕ) → waiting_at x s.views ≡ times x (tickets_from (slice_index s.words 1) (waiting s.views))
  pub one_turn : turns s.views ≤ 1
  pub slot : IsKeptIn entries basis history base s.homes (turns s.views)
  pub numbers : (n : ℕ) → numbered n s.views ≡ times n (numbers_from 0 count)
  pub whole : total (λ v. length v.records) s.views ≡ count
  pub few : count ≤ 64
  pub makers : All (λ e. maker e < count) history
  pub each : (by : ℕ) (v : View E G) → get_elem? s.views by ≡ some v → Fits maker history (slice_index s.words 1) count base v

-- records for so many numbers, from the first on, under which nothing was made
abbrev pub fresh_records : {E : Type 0} → ℕ → ℕ → List (Record E)
fresh_records first n = map (λ (k : ℕ). record { number = k; made = []; seen = [] }) (numbers_from first n)

-- the table's first view has a record for each number, and has seen nothing
abbrev pub opening_view : {E G : Type 0} → ℕ → G → View E G
opening_view count base = record { count = count; basis = Some base; seen = []; records = fresh_records 0 count; stand = Outside }
