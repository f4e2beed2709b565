-- What one step of a machine comes to.
use Rattle.std.specs.Prelude.{◌≡◌, ℕ, ◌+◌, Result, Err, IsOk, Some}
use Rattle.ta_step.specs.declared.stop.Request.{Request}
use Rattle.ta_step.specs.declared.stop.Stop.{Stop}
use Rattle.ta_step.specs.declared.stop.Stop.TheVariants as stop
use Rattle.ta_step.specs.State.{State}

-- another machine; a return or a panic, at which the machine stays as it was; or a request
pub data Outcome : Type 0 where
  Goes : (next : State) → Outcome
  Returns : (result context : ℕ) → Outcome
  Panics : (code : ℕ) → Outcome
  Asks : (request : Request) → Outcome

-- on to the next instruction
abbrev pub goes_on : State → Outcome
goes_on s = Goes (record s { place = s.place + 1 })

-- on to the instruction of this number
abbrev pub goes_to : State → ℕ → Outcome
goes_to s place = Goes (record s { place = place })

-- the machine that asks for this: it will go on with the next instruction
abbrev pub asking : Request → State → State
asking request s = record s { place = s.place + 1; asked = Some request }

-- an answer and the machine after it are those of an outcome
abbrev pub Leads : {Done : Type 0} → State → Outcome → Result Done Stop → State → Type 0
Leads old (Goes next) answer new = IsOk answer × (new ≡ next)
Leads old (Returns result context) answer new = (answer ≡ Err (stop.Ended result context)) × (new ≡ old)
Leads old (Panics code) answer new = (answer ≡ Err (stop.Panicked code)) × (new ≡ old)
Leads old (Asks request) answer new = (answer ≡ Err (stop.Asks request)) × (new ≡ asking request old)
