-- A desk of signalled values, and what each call makes of it. This project's own, where no source is named.
use Rattle.std.specs.Prelude.{◌≡◌, ◌≢◌, ℕ, ◌+◌, ◌<◌, All, AllPairs, Bool, false, true, not, ◌==◌, if◌then◌else◌, min, List, [], ◌∷◌, ◌++◌, drop, map, filter, find, Option, None, Some, unwrap_or}
use Rattle.std.specs.List.{list_any, range_with_len}
use Rattle.std.specs.Option.{option_map_or}
use Rattle.native_tas.specs.declared.driver_relation.DriverRelation.{DriverRelation}
use Rattle.native_tas.specs.Driver.{find_driver, has_driver}
use Rattle.native_tas.specs.DriverRelation.{driver_answer}
use Rattle.notif.specs.declared.driver_count.DriverCount.{DriverCount}
use Rattle.notif.specs.declared.noted.Noted.{Noted}

-- ---- what a desk keeps

-- whether signals count; the values to note, in the order in which they came; and how often each driver was signalled,
-- in rising order of values
pub record DeskState : Type 0 where
  pub enabled : Bool
  pub pending : List ℕ
  pub counts : List DriverCount

-- the values that are signalled
unfoldable pub signal_values : List ℕ
signal_values = range_with_len 1 63

-- the values of the drivers, in rising order
unfoldable pub driver_values : List (ℕ × DriverRelation) → List ℕ
driver_values drivers = filter (has_driver drivers) signal_values

-- drivers of these values of which none was signalled
abbrev pub unsignalled : List ℕ → List DriverCount
unsignalled values = map (λ value. record { value = value; count = 0 }) values

-- a desk for these drivers
abbrev pub new_desk : List (ℕ × DriverRelation) → DeskState
new_desk drivers = record { enabled = false; pending = []; counts = unsignalled (driver_values drivers) }

-- the desk has a count for each of these drivers, and for no other value
abbrev pub IsDeskOf : List (ℕ × DriverRelation) → DeskState → Type 0
IsDeskOf drivers desk = map (λ driver. driver.value) desk.counts ≡ driver_values drivers

-- ---- its calls

-- signals count from now on
abbrev pub after_enable : DeskState → DeskState
after_enable desk = record desk { enabled = true }

-- what is noted of a signal: for a driver OP-TEE's OPTEE_SMC_ASYNC_NOTIF_VALUE_DO_BOTTOM_HALF (optee_smc.h), which is
-- 0, and else the value itself
abbrev pub value_to_note : List DriverCount → ℕ → ℕ
value_to_note counts value = if list_any (λ driver. driver.value == value) counts then 0 else value

-- the values with this one at their end, unless it is there
abbrev pub noted : List ℕ → ℕ → List ℕ
noted pending value = if list_any (λ kept. kept == value) pending then pending else pending ++ value ∷ []

-- a driver after a signal of the value: its own is one more, at most 2^32 - 1
abbrev pub signalled : ℕ → DriverCount → DriverCount
signalled value driver = if driver.value == value then record driver { count = min (driver.count + 1) 4294967295 } else driver

-- a signal of the value, which changes nothing while signals don't count
abbrev pub after_signal : DeskState → ℕ → DeskState
after_signal desk value =
    if desk.enabled
    then record desk { pending = noted desk.pending (value_to_note desk.counts value); counts = map (signalled value) desk.counts }
    else desk

-- the first of the values, and whether there are more
abbrev pub first_noted : List ℕ → Option Noted
first_noted [] = None
first_noted (value ∷ []) = Some (record { value = value; more = false })
first_noted (value ∷ later ∷ rest) = Some (record { value = value; more = true })

-- the first value is taken
abbrev pub after_next : DeskState → DeskState
after_next desk = record desk { pending = drop 1 desk.pending }

-- the driver was signalled since it was last called
abbrev pub was_signalled : DriverCount → Bool
was_signalled driver = not (driver.count == 0)

-- the drivers that a bottom half calls, each with its count, in rising order of values
abbrev pub driver_calls : DeskState → List DriverCount
driver_calls desk = filter was_signalled desk.counts

-- what the driver of the value answers to the count
abbrev pub answer_to : List (ℕ × DriverRelation) → DriverCount → ℕ
answer_to drivers call = option_map_or (λ driver. driver_answer driver.1 call.count) (find_driver drivers call.value) 0

-- the first answer that isn't 0, else 0
abbrev pub first_answer : List ℕ → ℕ
first_answer answers = unwrap_or (find (λ answer. not (answer == 0)) answers) 0

-- what a bottom half answers
abbrev pub bottom_half_answer : List (ℕ × DriverRelation) → DeskState → ℕ
bottom_half_answer drivers desk = first_answer (map (answer_to drivers) (driver_calls desk))

-- the driver, with no signal
abbrev pub called : DriverCount → DriverCount
called driver = record driver { count = 0 }

-- a bottom half: each driver is called with its signals
abbrev pub after_bottom_half : DeskState → DeskState
after_bottom_half desk = record desk { counts = map called desk.counts }

-- nothing pends, no driver is signalled, and signals don't count
abbrev pub after_stop : DeskState → DeskState
after_stop desk = record { enabled = false; pending = []; counts = map called desk.counts }

-- ---- what holds of each

-- each value stands once, and is from 0 to 63
pub record ArePending (pending : List ℕ) : Type 0 where
  pub apart : AllPairs (λ earlier later. earlier ≢ later) pending
  pub in_range : All (λ value. value < 64) pending
