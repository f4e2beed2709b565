-- What contracts say of a lock, its passes and a turn.
use Rattle.std.specs.Prelude.{◌≡◌, ℕ, ◌<◌, List, [], ◌∷◌, ◌++◌, map, All, Some, None}
use mathlib.Core.List.{IsPrefix}
use Rattle.core_lock.specs.declared.lock.CoreLock.{CoreLock}
use Rattle.core_lock.specs.declared.pass.Pass.{Pass}
use Rattle.core_lock.specs.declared.pass.Turn.{Turn}
use Rattle.core_lock.specs.declared.view.Record.{Record}
use Rattle.core_lock.specs.declared.view.Stand.TheVariants.{Outside, Turn as TurnOf}
use Rattle.core_lock.specs.declared.view.View.{View}
use Rattle.core_lock.specs.Counts.{times, numbers_from, made_by}
use Rattle.core_lock.specs.Rule.{IsRecord}
use Rattle.core_lock.specs.Steps.{own_number, own_made, taken_over}

module _ {T E G : Type 0} where
  -- how many numbers the lock has
  abbrev pub count_of : CoreLock T E G → ℕ
  count_of lock = lock.table.shared.key.count

  -- what no turn changes
  abbrev pub basis_of : (T → G) → CoreLock T E G → G
  basis_of basis lock = basis lock.table.shared.key.first.value

  abbrev pub view_of : Pass T E G → View E G
  view_of p = p.seat.me.0

  abbrev pub number : Pass T E G → ℕ
  number p = p.number

  -- the entries that the pass has seen
  abbrev pub seen : Pass T E G → List E
  seen p = (view_of p).seen

  -- the entries that were made by the pass's turns
  abbrev pub made : Pass T E G → List E
  made p = own_made (view_of p).records

  -- the pass is one of this lock's, and has the one record under its number. Of that number the entries that it
  -- has seen have just those that it made
  pub record IsPassOf (maker : E → ℕ) (basis : T → G) (lock : CoreLock T E G) (p : Pass T E G) : Type 0 where
    pub table_is : p.seat.table_id ≡ lock.table.shared.table_id
    pub count_is : (view_of p).count ≡ count_of lock
    pub basis_is : (view_of p).basis ≡ Some (basis_of basis lock)
    pub alone : (r : Record E) × ((view_of p).records ≡ r ∷ []) × (r.seen ≡ [])
    pub numbered : own_number (view_of p).records ≡ number p
    pub below : number p < count_of lock
    pub own_entries : made p ≡ made_by maker (number p) (seen p)

  -- the pass has no turn out, and no ticket
  abbrev pub IsIdle : Pass T E G → Type 0
  IsIdle p = ((view_of p).stand ≡ Outside) × (p.seat.me.1 ≡ [])

  -- the turn is the one that this pass has out
  pub record IsTurnOf (p : Pass T E G) (turn : Turn T E G) : Type 0 where
    pub pass_is : turn.of.value ≡ p
    pub out : (t : ℕ) × ((view_of p).stand ≡ TurnOf t)
    pub empty : p.seat.me.1 ≡ (0, None) ∷ []

  -- the turn with another value
  abbrev pub with_value : Turn T E G → T → Turn T E G
  with_value turn x = record { value = x; of = turn.of }

  -- what the passes have between them: each number below the count once, and no other
  abbrev pub AreAll : CoreLock T E G → List (Pass T E G) → Type 0
  AreAll lock passes = (n : ℕ) → times n (map number passes) ≡ times n (numbers_from 0 (count_of lock))

  -- the entries begin with all that the pass has seen, and of its number they have just those that it made
  abbrev pub IsIn : (E → ℕ) → List E → Pass T E G → Type 0
  IsIn maker history p = IsPrefix (seen p) history × (made_by maker (number p) history ≡ made p)

  -- the passes are this lock's, and none has a turn out
  abbrev pub AreIdle : (E → ℕ) → (T → G) → CoreLock T E G → List (Pass T E G) → Type 0
  AreIdle maker basis lock passes = All (λ p. IsPassOf maker basis lock p × IsIdle p) passes

  -- the passes have seen nothing and made nothing
  abbrev pub AreUnused : List (Pass T E G) → Type 0
  AreUnused passes = All (λ p. (seen p ≡ []) × (made p ≡ [])) passes

  -- the entries that the value has more than the pass has seen are all of the pass's number
  abbrev pub Extends : (T → List E) → (E → ℕ) → Pass T E G → T → Type 0
  Extends entries maker p value = (more : List E) × (entries value ≡ seen p ++ more) × All (λ e. maker e ≡ number p) more

  -- whatever list the records of a view are true of, the pass is in it: the view has taken the pass in
  abbrev pub Tells : (E → ℕ) → View E G → Pass T E G → Type 0
  Tells maker v p = (history : List E) → All (IsRecord maker history) (taken_over v.seen v.records) → IsIn maker history p
