-- Where lists of own events first differ, worked out by hand.
use Rattle.std.specs.Prelude.{ℕ, false, true, [], ◌∷◌}
use Rattle.compare_model.specs.Comparing.{DifferFirstAt}
use Rattle.own_model.specs.Examples.{numbers}
use Rattle.own_model.specs.declared.own_event.BackInput.TheVariants.{Buffer, NoBuffer}
use Rattle.own_model.specs.declared.own_event.OwnEvent.{OwnEvent}
use Rattle.own_model.specs.declared.own_event.OwnEvent.TheVariants.{Back, Cancel, Close, Invoke, Out}
use Rattle.own_model.specs.declared.own_event.OwnInput.TheVariants.{Copied, Faulty, Unread}

-- two numbers are brought to a function, and the call has an area or none
abbrev invoked : ℕ → ℕ → OwnEvent
invoked func number = Invoke func (Copied (numbers number 7)) false

pub record Examples : Type 0 where
  -- other calls go out
  pub another_call : DifferFirstAt (Cancel ∷ Out 0 ∷ []) (Cancel ∷ Out 1 ∷ []) 1
  -- the function, a number that was brought, and whether it has an area
  pub another_function : DifferFirstAt (invoked 1 5 ∷ []) (invoked 2 5 ∷ []) 0
  pub another_number : DifferFirstAt (invoked 1 5 ∷ []) (invoked 1 6 ∷ []) 0
  pub an_area : DifferFirstAt (Close false ∷ []) (Close true ∷ []) 0
  -- parameters that were refused, and such as weren't read
  pub unread : DifferFirstAt (Invoke 1 Faulty false ∷ []) (Invoke 1 Unread false ∷ []) 0
  -- what a call came back with
  pub no_buffer : DifferFirstAt (Cancel ∷ Out 0 ∷ Back 0 Buffer ∷ []) (Cancel ∷ Out 0 ∷ Back 0 NoBuffer ∷ []) 2
  -- one list ends before the other
  pub shorter : DifferFirstAt (Cancel ∷ []) (Cancel ∷ Out 0 ∷ []) 1
  pub longer : DifferFirstAt (Cancel ∷ Out 0 ∷ []) [] 0
