-- How a run goes on, and how it ends.
use Rattle.std.proofs.Common.{◌≡◌, ℕ, zero, suc, ◌+◌, ◌-◌, ◌<◌, List, Option, Some, None, Result, Ok, Err, refl, ap, sym, subst, ◌∙◌, arith}
use Rattle.std.specs.Prelude.{option_and_then, IsSome, IfSome, IsSomeAnd}
use Rattle.std.specs.Option.{option_map}
use Rattle.ta_isa.specs.declared.image.Instr.{Instr}
use Rattle.ta_step.specs.declared.stop.Stop.{Stop}
use Rattle.ta_step.specs.declared.stop.Stop.TheVariants as stop
use Rattle.ta_step.specs.State.{State}
use Rattle.ta_step.specs.Outcome.{Outcome, Goes, Returns, Panics, Asks, Leads}
use Rattle.ta_step.specs.Operations.{Effect, effect_of}
use Rattle.ta_step.specs.Step.{step, outcome_of}
use Rattle.ta_step.specs.Runs.{Ran, later, continued, runs}
use Rattle.ta_step.proofs.Grants.{later-later}

abbrev Led : {Done : Type 0} → State → Option Outcome → Result Done Stop → State → Type 0
Led old o answer new = IsSomeAnd o (λ outcome. Leads old outcome answer new)

led_by_effect : {Done : Type 0} (old new : State) (answer : Result Done Stop) (effect : Option Effect) → IsSome effect
    → IfSome effect (λ f. Leads old (f old) answer new) → Led old (option_map (λ f. f old) effect) answer new
led_by_effect old new answer None some h = absurd cc
led_by_effect old new answer (Some f) some h = h

-- an instruction was found, and its effect came
pub led_by_instruction : {Done : Type 0} (old new : State) (answer : Result Done Stop) (found : Option Instr) (i : Instr) → Some i ≡ found
    → IsSome (effect_of i) → IfSome (effect_of i) (λ f. Leads old (f old) answer new) → Led old (outcome_of found old) answer new
led_by_instruction old new answer found i e some h =
    let P : Option Instr → Type 0 = λ f. Led old (outcome_of f old) answer new in
    subst P e (led_by_effect old new answer (effect_of i) some h)

-- no instruction was found
pub led_past_the_code : (Done : Type 0) (old : State) (found : Option Instr) → None ≡ found
    → (let answer : Result Done Stop = Err (stop.Panicked 2) in Led old (outcome_of found old) answer old)
led_past_the_code Done old found e =
    let answer : Result Done Stop = Err (stop.Panicked 2) in
    let P : Option Instr → Type 0 = λ f. Led old (outcome_of f old) answer old in
    subst P e (refl, refl)

goes_on : {Done : Type 0} (rest : State → Option Ran) (old new : State) (o : Option Outcome) (done : Done)
    → Led old o (Ok done) new → option_and_then (continued rest old) o ≡ option_map (later 1) (rest new)
goes_on rest old new None done h = absurd h
goes_on rest old new (Some (Goes next)) done h = ap (λ (s : State). option_map (later 1) (rest s)) (sym h.1)
goes_on rest old new (Some (Returns result context)) done h = let e = h.0 in absurd cc
goes_on rest old new (Some (Panics code)) done h = let e = h.0 in absurd cc
goes_on rest old new (Some (Asks request)) done h = let e = h.0 in absurd cc

stops : (Done : Type 0) (rest : State → Option Ran) (old new : State) (o : Option Outcome) (why : Stop)
    → (let answer : Result Done Stop = Err why in Led old o answer new) → option_and_then (continued rest old) o ≡ Some (record { stop = why; steps = 1; state = new })
stops Done rest old new None why h = absurd h
stops Done rest old new (Some (Goes next)) why h = let e = h.0 in absurd cc
stops Done rest old new (Some (Returns result context)) why h = let e = h.0 in let same : stop.Ended result context ≡ why = cc in let stays = h.1 in cc
stops Done rest old new (Some (Panics code)) why h = let e = h.0 in let same : stop.Panicked code ≡ why = cc in let stays = h.1 in cc
stops Done rest old new (Some (Asks request)) why h = let e = h.0 in let same : stop.Asks request ≡ why = cc in let stays = h.1 in cc

one_less : (steps used : ℕ) → used < steps → steps - used ≡ suc (steps - (used + 1))
one_less steps used lt = omega arith

-- one step more
pub run-more : {Done : Type 0} (code : List Instr) (steps used : ℕ) (first old new : State) (done : Done) → used < steps
    → runs code steps first ≡ option_map (later used) (runs code (steps - used) old)
    → Led old (step code old) (Ok done) new
    → runs code steps first ≡ option_map (later (used + 1)) (runs code (steps - (used + 1)) new)
run-more code steps used first old new done lt before h =
    before
    ∙ ap (λ (n : ℕ). option_map (later used) (runs code n old)) (one_less steps used lt)
    ∙ ap (option_map (later used)) (goes_on (runs code (steps - (used + 1))) old new (step code old) done h)
    ∙ later-later used 1 (runs code (steps - (used + 1)) new)

-- the step that stops
pub run-stops : (Done : Type 0) (code : List Instr) (steps used : ℕ) (first old new : State) (why : Stop) → used < steps
    → runs code steps first ≡ option_map (later used) (runs code (steps - used) old)
    → (let answer : Result Done Stop = Err why in Led old (step code old) answer new)
    → runs code steps first ≡ Some (record { stop = why; steps = used + 1; state = new })
run-stops Done code steps used first old new why lt before h =
    before
    ∙ ap (λ (n : ℕ). option_map (later used) (runs code n old)) (one_less steps used lt)
    ∙ ap (option_map (later used)) (stops Done (runs code (steps - (used + 1))) old new (step code old) why h)

-- all steps are used
pub run-ends : (code : List Instr) (steps used : ℕ) (first old : State) → used ≡ steps
    → runs code steps first ≡ option_map (later used) (runs code (steps - used) old)
    → runs code steps first ≡ Some (record { stop = stop.Interrupted; steps = steps; state = old })
run-ends code steps used first old e before =
    let none : steps - used ≡ zero = omega arith in
    let all : used + 0 ≡ steps = omega arith in
    before
    ∙ ap (λ (n : ℕ). option_map (later used) (runs code n old)) none
    ∙ ap (λ (n : ℕ). Some (record { stop = stop.Interrupted; steps = n; state = old })) all
