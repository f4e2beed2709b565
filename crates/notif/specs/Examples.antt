-- Examples of the definitions, worked out by hand.
use Rattle.std.specs.Prelude.{◌≡◌, ℕ, false, true, List, [], ◌∷◌, None, Some}
use Rattle.native_tas.specs.declared.driver_relation.DriverRelation.{DriverRelation}
use Rattle.native_tas.specs.declared.driver_relation.DriverRelation.TheVariants.{Echo, Fixed}
use Rattle.notif.specs.declared.driver_count.DriverCount.{DriverCount}
use Rattle.notif.specs.Desk.{bottom_half_answer, driver_calls, first_noted, signalled}
use Rattle.notif.specs.History.{DeskCall, Enable, Signal, Next, BottomHalf, Stop, desk_after, owed_calls}

-- a driver of value 1 that answers the number of its signals
abbrev pub echo : List (ℕ × DriverRelation)
echo = (1, Echo) ∷ []

-- that driver, one of value 9 and one of value 4, in the order in which they were added
abbrev pub three : List (ℕ × DriverRelation)
three = (9, Fixed 7) ∷ (4, Fixed 0) ∷ (1, Echo) ∷ []

abbrev pub times : ℕ → ℕ → DriverCount
times value count = record { value = value; count = count }

-- after enabling, two signals of 5 and one of 1
abbrev pub signals : List DeskCall
signals = Signal 1 ∷ Signal 5 ∷ Signal 5 ∷ Enable ∷ []

pub record Examples : Type 0 where
  pub fresh : desk_after three [] ≡ record { enabled = false; pending = []; counts = times 1 0 ∷ times 4 0 ∷ times 9 0 ∷ [] }
  pub too_early : desk_after echo (Enable ∷ Signal 1 ∷ Signal 5 ∷ []) ≡ record { enabled = true; pending = []; counts = times 1 0 ∷ [] }
  pub pending : desk_after echo signals ≡ record { enabled = true; pending = 5 ∷ 0 ∷ []; counts = times 1 1 ∷ [] }
  pub first : first_noted (5 ∷ 0 ∷ []) ≡ Some (record { value = 5; more = true })
  pub last : first_noted (0 ∷ []) ≡ Some (record { value = 0; more = false })
  pub nothing : first_noted [] ≡ None
  pub taken : desk_after echo (Next ∷ signals) ≡ record { enabled = true; pending = 0 ∷ []; counts = times 1 1 ∷ [] }
  pub noted_again : desk_after echo (Signal 5 ∷ Next ∷ signals) ≡ record { enabled = true; pending = 0 ∷ 5 ∷ []; counts = times 1 1 ∷ [] }
  pub counted_while_pending : desk_after echo (Signal 1 ∷ signals) ≡ record { enabled = true; pending = 5 ∷ 0 ∷ []; counts = times 1 2 ∷ [] }
  pub at_most : signalled 1 (times 1 4294967295) ≡ times 1 4294967295
  pub answer : bottom_half_answer echo (desk_after echo signals) ≡ 1
  pub called : desk_after echo (BottomHalf ∷ signals) ≡ record { enabled = true; pending = 5 ∷ 0 ∷ []; counts = times 1 0 ∷ [] }
  pub answer_again : bottom_half_answer echo (desk_after echo (BottomHalf ∷ signals)) ≡ 0
  pub rising : driver_calls (desk_after three (Signal 1 ∷ Signal 1 ∷ Signal 9 ∷ Enable ∷ [])) ≡ times 1 2 ∷ times 9 1 ∷ []
  pub first_answer : bottom_half_answer three (desk_after three (Signal 1 ∷ Signal 1 ∷ Signal 9 ∷ Enable ∷ [])) ≡ 2
  pub zero_passed_over : bottom_half_answer three (desk_after three (Signal 9 ∷ Signal 4 ∷ Enable ∷ [])) ≡ 7
  pub stopped : desk_after echo (Stop ∷ signals) ≡ record { enabled = false; pending = []; counts = times 1 0 ∷ [] }
  pub owed : owed_calls three (Signal 4 ∷ Enable ∷ Signal 9 ∷ Stop ∷ Signal 1 ∷ Enable ∷ []) ≡ times 4 1 ∷ []
