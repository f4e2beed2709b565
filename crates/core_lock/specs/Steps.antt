-- What each kind of step does to a view, and what it tells.
use Rattle.std.specs.Prelude.{◌≡◌, ◌≢◌, ◌<◌, ℕ, nat_lt, List, [], ◌∷◌, ◌++◌, length, All, Option, Some, if◌then◌else◌}
use mathlib.Core.List.{IsPrefix}
use Rattle.atomic_table.specs.Table.{Me, Step, rest}
use Rattle.atomic_table.specs.declared.shared.Seat.{Seat}
use Rattle.core_lock.specs.declared.view.Record.{Record}
use Rattle.core_lock.specs.declared.view.Stand.TheVariants.{Outside, Waits, Turn}
use Rattle.core_lock.specs.declared.view.View.{View}
use Rattle.core_lock.specs.Counts.{made_by}
use Rattle.core_lock.specs.Rule.{IsRecord}

module _ {E : Type 0} where
  -- the number of one's own record
  abbrev pub own_number : List (Record E) → ℕ
  own_number [] = 0
  own_number (r ∷ rs) = r.number

  -- what was made under it
  abbrev pub own_made : List (Record E) → List E
  own_made [] = []
  own_made (r ∷ rs) = r.made

  abbrev pub own_alone : List (Record E) → List (Record E)
  own_alone [] = []
  own_alone (r ∷ rs) = r ∷ []

  abbrev pub all_others : List (Record E) → List (Record E)
  all_others [] = []
  all_others (r ∷ rs) = rs

  abbrev pub first_of : List E → List E → List E
  first_of [] ys = ys
  first_of (x ∷ xs) ys = x ∷ xs

  -- one's own record, with what its pass had seen, where it does not have that yet
  abbrev pub taken_over : List E → List (Record E) → List (Record E)
  taken_over seen [] = []
  taken_over seen (r ∷ rs) = record { number = r.number; made = r.made; seen = first_of r.seen seen } ∷ rs

  -- one's own record, with what a list has of its number
  abbrev pub remade : (E → ℕ) → List E → List (Record E) → List (Record E)
  remade maker xs [] = []
  remade maker xs (r ∷ rs) = record { number = r.number; made = made_by maker r.number xs; seen = r.seen } ∷ rs

  abbrev pub longer : List E → List E → List E
  longer xs ys = if nat_lt (length xs) (length ys) then ys else xs

module _ {E G : Type 0} where
  -- split: the old view keeps its own record, the new one gets the others
  abbrev pub split_left : View E G → View E G
  split_left v = record { count = v.count; basis = v.basis; seen = v.seen; records = own_alone v.records; stand = v.stand }

  abbrev pub split_right : View E G → View E G
  split_right v = record { count = v.count; basis = v.basis; seen = v.seen; records = all_others v.records; stand = Outside }

  -- join: the longer list stays, the other's records are appended, and each own record has what its pass had seen
  abbrev pub joined : View E G → View E G → View E G
  joined v u = record { count = v.count; basis = v.basis; seen = longer v.seen u.seen; records = taken_over v.seen v.records ++ taken_over u.seen u.records; stand = v.stand }

  -- draw
  abbrev pub with_ticket : ℕ → View E G → View E G
  with_ticket t v = record { count = v.count; basis = v.basis; seen = v.seen; records = v.records; stand = Waits t }

  -- look, where the ticket is served
  abbrev pub with_turn : ℕ → List E → View E G → View E G
  with_turn t xs v = record { count = v.count; basis = v.basis; seen = xs; records = v.records; stand = Turn t }

  -- count
  abbrev pub with_entries : (E → ℕ) → List E → View E G → View E G
  with_entries maker xs v = record { count = v.count; basis = v.basis; seen = xs; records = remade maker xs v.records; stand = v.stand }

  -- serve
  abbrev pub with_none : View E G → View E G
  with_none v = record { count = v.count; basis = v.basis; seen = v.seen; records = v.records; stand = Outside }

module _ {T E G : Type 0} where
  abbrev pub drew : Step (Option T) → Me (Option T) (View E G) → ℕ → Me (Option T) (View E G) → Type 0
  drew st m n m' = m' ≡ (with_ticket n m.0, m.1)

  -- the turn has come: the value stands for the history, of which all is known that the view speaks of
  pub record Begins (entries : T → List E) (maker : E → ℕ) (basis : T → G) (t : ℕ) (m m' : Me (Option T) (View E G)) : Type 0 where
    pub value : T
    pub after : m' ≡ (with_turn t (entries value) m.0, (0, Some value) ∷ m.1)
    pub seen : IsPrefix m.0.seen (entries value)
    pub records : All (IsRecord maker (entries value)) m.0.records
    pub basis_is : m.0.basis ≡ Some (basis value)

  abbrev pub looked : (T → List E) → (E → ℕ) → (T → G) → Step (Option T) → Me (Option T) (View E G) → ℕ → Me (Option T) (View E G) → Type 0
  looked entries maker basis st m n m' = (t : ℕ) → m.0.stand ≡ Waits t → (n ≡ t → Begins entries maker basis t m m') × (n ≢ t → m' ≡ m)

  -- the history is now what the value stands for, and the view's own entries are those of its number
  abbrev pub counted : (T → List E) → (E → ℕ) → Step (Option T) → Me (Option T) (View E G) → ℕ → Me (Option T) (View E G) → Type 0
  counted entries maker st m n m' = (x : T) → m.1 ≡ (0, Some x) ∷ [] → (m' ≡ (with_entries maker (entries x) m.0, m.1)) × All (IsRecord maker m.0.seen) m.0.records

  abbrev pub served : Step (Option T) → Me (Option T) (View E G) → ℕ → Me (Option T) (View E G) → Type 0
  served st m n m' = m' ≡ (with_none m.0, rest m.1)

  -- what a count needs: the value is in the slot that the seat holds, and what it has more than was seen is of the seat's own number
  pub record CanCount (entries : T → List E) (maker : E → ℕ) (m : Me (Option T) (View E G)) (n : ℕ) : Type 0 where
    pub ticket : ℕ
    pub value : T
    pub more : List E
    pub turn : m.0.stand ≡ Turn ticket
    pub recorded : 0 < length m.0.records
    pub held : m.1 ≡ (0, Some value) ∷ []
    pub grows : entries value ≡ m.0.seen ++ more
    pub mine : All (λ e. maker e ≡ own_number m.0.records) more
    pub counts : n ≡ length (entries value)

  -- what the end of a turn needs: the value is in the slot, and what it stands for was counted
  pub record CanServe (entries : T → List E) (basis : T → G) (m : Me (Option T) (View E G)) : Type 0 where
    pub ticket : ℕ
    pub value : T
    pub turn : m.0.stand ≡ Turn ticket
    pub recorded : 0 < length m.0.records
    pub held : m.1 ≡ (0, Some value) ∷ []
    pub is_counted : entries value ≡ m.0.seen
    pub basis_is : m.0.basis ≡ Some (basis value)

  abbrev pub IsSameSeat : Seat (Option T) (View E G) → Seat (Option T) (View E G) → Type 0
  IsSameSeat a b = (b.table_id ≡ a.table_id) × (b.id ≡ a.id)
