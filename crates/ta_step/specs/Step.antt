-- One step of a machine.
use Rattle.std.specs.Prelude.{List, Option, Some, None, slice_get}
use Rattle.std.specs.Option.{option_map}
use Rattle.ta_isa.specs.declared.image.Instr.{Instr}
use Rattle.ta_step.specs.State.{State}
use Rattle.ta_step.specs.Outcome.{Outcome, Panics}
use Rattle.ta_step.specs.Operations.{effect_of}

-- the outcome of the instruction that was found, which has one where an image may have it; behind the last one a
-- panic with 2
abbrev pub outcome_of : Option Instr → State → Option Outcome
outcome_of None s = Some (Panics 2)
outcome_of (Some i) s = option_map (λ effect. effect s) (effect_of i)

abbrev pub step : List Instr → State → Option Outcome
step code s = outcome_of (slice_get code s.place) s
