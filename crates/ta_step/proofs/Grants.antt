-- Two grants one after the other are one grant of their sum.
use Rattle.std.proofs.Common.{◌≡◌, ℕ, zero, suc, ◌+◌, List, Option, Some, None, refl, ap, sym, ◌∙◌, zero-add, add_assoc, arith}
use Rattle.std.specs.Prelude.{option_and_then}
use Rattle.std.specs.Option.{option_map}
use Rattle.ta_isa.specs.declared.image.Instr.{Instr}
use Rattle.ta_step.specs.declared.stop.Stop.{Stop}
use Rattle.ta_step.specs.declared.stop.Stop.TheVariants as stop
use Rattle.ta_step.specs.State.{State}
use Rattle.ta_step.specs.Outcome.{Outcome, Goes, Returns, Panics, Asks}
use Rattle.ta_step.specs.Step.{step}
use Rattle.ta_step.specs.Runs.{Ran, later, continued, runs, granted_again, runs_twice}

pub later-zero : (ran : Option Ran) → option_map (later 0) ran ≡ ran
later-zero None = refl
later-zero (Some ran) = ap (λ (k : ℕ). Some (record ran { steps = k })) (zero-add ran.steps)

pub later-later : (m n : ℕ) (ran : Option Ran) → option_map (later m) (option_map (later n) ran) ≡ option_map (later (m + n)) ran
later-later m n None = refl
later-later m n (Some ran) = ap (λ (k : ℕ). Some (record ran { steps = k })) (sym (add_assoc m n ran.steps))

again-later : (code : List Instr) (n : ℕ) (why : Stop) (ran : Ran) → option_map (later 1) (granted_again code n why ran) ≡ granted_again code n why (later 1 ran)
again-later code n (stop.Ended result context) ran = refl
again-later code n (stop.Panicked panic) ran = refl
again-later code n (stop.Asks request) ran = refl
again-later code n stop.Interrupted ran = later-later 1 ran.steps (runs code n ran.state)

and_then-later : (code : List Instr) (n : ℕ) (ran : Option Ran) → option_map (later 1) (option_and_then (λ r. granted_again code n r.stop r) ran) ≡ option_and_then (λ r. granted_again code n r.stop r) (option_map (later 1) ran)
and_then-later code n None = refl
and_then-later code n (Some ran) = again-later code n ran.stop ran

continued-twice : (code : List Instr) (m n : ℕ) (s : State) (o : Option Outcome)
    → ((t : State) → runs code (m + n) t ≡ runs_twice code m n t)
    → option_and_then (continued (runs code (m + n)) s) o
    ≡ option_and_then (λ r. granted_again code n r.stop r) (option_and_then (continued (runs code m) s) o)
continued-twice code m n s None twice = refl
continued-twice code m n s (Some (Goes next)) twice = ap (option_map (later 1)) (twice next) ∙ and_then-later code n (runs code m next)
continued-twice code m n s (Some (Returns result context)) twice = refl
continued-twice code m n s (Some (Panics panic)) twice = refl
continued-twice code m n s (Some (Asks request)) twice = refl

pub runs-sum : (code : List Instr) (m n : ℕ) (s : State) → runs code (m + n) s ≡ runs_twice code m n s
runs-sum code zero n s = ap (λ (k : ℕ). runs code k s) (zero-add n) ∙ sym (later-zero (runs code n s))
runs-sum code (suc m) n s =
    let e : suc m + n ≡ suc (m + n) = omega arith in
    ap (λ (k : ℕ). runs code k s) e ∙ continued-twice code m n s (step code s) (runs-sum code m n)
