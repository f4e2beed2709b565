-- Steps one after another, up to the first stop or the end of those granted.
use Rattle.std.specs.Prelude.{ℕ, zero, suc, ◌+◌, List, Option, Some, None, option_and_then}
use Rattle.std.specs.Option.{option_map}
use Rattle.ta_isa.specs.declared.image.Instr.{Instr}
use Rattle.ta_step.specs.declared.stop.Request.{Request}
use Rattle.ta_step.specs.declared.stop.Stop.{Stop}
use Rattle.ta_step.specs.declared.stop.Stop.TheVariants as stop
use Rattle.ta_step.specs.State.{State}
use Rattle.ta_step.specs.Outcome.{Outcome, Goes, Returns, Panics, Asks, asking}
use Rattle.ta_step.specs.Step.{step}

-- what a grant of steps came to: why the machine stopped, how many steps it used, and what is left of it
pub record Ran : Type 0 where
  pub stop : Stop
  pub steps : ℕ
  pub state : State

-- what a machine that stopped so waits for
abbrev pub request_of : Stop → Option Request
request_of (stop.Ended result context) = None
request_of (stop.Panicked code) = None
request_of (stop.Asks request) = Some request
request_of stop.Interrupted = None

-- the same with steps before it
abbrev pub later : ℕ → Ran → Ran
later steps ran = record ran { steps = steps + ran.steps }

abbrev pub stopped : State → Stop → Option Ran
stopped s why = Some (record { stop = why; steps = 1; state = s })

-- on from the outcome of a step, by what the steps after it come to
abbrev pub continued : (State → Option Ran) → State → Outcome → Option Ran
continued rest s (Goes next) = option_map (later 1) (rest next)
continued rest s (Returns result context) = stopped s (stop.Ended result context)
continued rest s (Panics code) = stopped s (stop.Panicked code)
continued rest s (Asks request) = stopped (asking request s) (stop.Asks request)

-- what so many granted steps come to
abbrev pub runs : List Instr → ℕ → State → Option Ran
runs code zero s = Some (record { stop = stop.Interrupted; steps = 0; state = s })
runs code (suc n) s = option_and_then (continued (runs code n) s) (step code s)

-- a second grant goes on where the first was used up, and has nothing to do where it was not
abbrev pub granted_again : List Instr → ℕ → Stop → Ran → Option Ran
granted_again code n (stop.Ended result context) ran = Some ran
granted_again code n (stop.Panicked code_) ran = Some ran
granted_again code n (stop.Asks request) ran = Some ran
granted_again code n stop.Interrupted ran = option_map (later ran.steps) (runs code n ran.state)

-- two grants one after the other
abbrev pub runs_twice : List Instr → ℕ → ℕ → State → Option Ran
runs_twice code m n s = option_and_then (λ ran. granted_again code n ran.stop ran) (runs code m s)
