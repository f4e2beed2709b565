-- The calls that wait, in the order in which they began to.
use Rattle.std.specs.Prelude.{◌≢◌, ℕ, ◌<◌, Bool, ◌==◌, not, List, Option, All, AllPairs, filter, find}
use Rattle.std.specs.List.{list_any}
use Rattle.std.specs.Option.{option_map}
use Rattle.std.specs.Str.{bytes_eq}
use Rattle.session_table.specs.declared.waiters.Waiter.{Waiter}

-- the call of the slot waits
abbrev pub waits : List Waiter → ℕ → Bool
waits waiters slot = list_any (λ waiter. waiter.slot == slot) waiters

-- those that wait but for the call of the slot
abbrev pub without : List Waiter → ℕ → List Waiter
without waiters slot = filter (λ waiter. not (waiter.slot == slot)) waiters

-- the slot of the first that waits for the instance
abbrev pub first_of : List Waiter → ℕ → Option ℕ
first_of waiters instance = option_map (λ waiter. waiter.slot) (find (λ waiter. waiter.instance == instance) waiters)

-- the instance of the first that waits for an application with the UUID
abbrev pub instance_with : List Waiter → List ℕ → Option ℕ
instance_with waiters uuid = option_map (λ waiter. waiter.instance) (find (λ waiter. bytes_eq waiter.uuid uuid) waiters)

-- each waits in a slot of its own, and so at most 16 do
pub record IsLine (waiters : List Waiter) : Type 0 where
  pub apart : AllPairs (λ earlier later. earlier.slot ≢ later.slot) waiters
  pub in_range : All (λ waiter. waiter.slot < 16) waiters
