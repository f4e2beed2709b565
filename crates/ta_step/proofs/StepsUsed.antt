-- How many steps a run uses of its grant.
use Rattle.std.proofs.Common.{◌≡◌, ℕ, zero, suc, ◌+◌, ◌<◌, ◌≤◌, List, Option, Some, None, refl, subst, arith}
use Rattle.std.specs.Prelude.{option_and_then}
use Rattle.std.specs.Option.{option_map}
use Rattle.ta_isa.specs.declared.image.Instr.{Instr}
use Rattle.ta_step.specs.State.{State}
use Rattle.ta_step.specs.Outcome.{Outcome, Goes, Returns, Panics, Asks}
use Rattle.ta_step.specs.Step.{step}
use Rattle.ta_step.specs.Runs.{Ran, later, continued, runs}

-- at most those granted, and at least one of some
abbrev Uses : ℕ → Ran → Type 0
Uses n ran = (ran.steps ≤ n) × (0 < n → 0 < ran.steps)

uses : (n : ℕ) (ran last : Ran) → Uses n last → Some last ≡ Some ran → Uses n ran
uses n ran last h e =
    let is : last ≡ ran = cc in
    subst (Uses n) is h

-- one step more
more : (n steps : ℕ) → steps ≤ n → (1 + steps ≤ suc n) × (0 < suc n → 0 < 1 + steps)
more n steps le = (omega arith, λ h. omega arith)

one : (n : ℕ) → (1 ≤ suc n) × (0 < suc n → 0 < 1)
one n = more n 0 (omega arith)

later-uses : (n : ℕ) (ran : Ran) (rest : Option Ran) → ((r : Ran) → rest ≡ Some r → Uses n r) → option_map (later 1) rest ≡ Some ran → Uses (suc n) ran
later-uses n ran None k e = absurd cc
later-uses n ran (Some r) k e = uses (suc n) ran (later 1 r) (more n r.steps (k r refl).0) e

continued-uses : (n : ℕ) (s : State) (ran : Ran) (rest : State → Option Ran) (o : Option Outcome) → ((t : State) (r : Ran) → rest t ≡ Some r → Uses n r)
    → option_and_then (continued rest s) o ≡ Some ran → Uses (suc n) ran
continued-uses n s ran rest None k e = absurd cc
continued-uses n s ran rest (Some (Goes next)) k e = later-uses n ran (rest next) (k next) e
continued-uses n s ran rest (Some (Returns result context)) k e = uses (suc n) ran _ (one n) e
continued-uses n s ran rest (Some (Panics code)) k e = uses (suc n) ran _ (one n) e
continued-uses n s ran rest (Some (Asks request)) k e = uses (suc n) ran _ (one n) e

pub runs-use : (code : List Instr) (n : ℕ) (s : State) (ran : Ran) → runs code n s ≡ Some ran → (ran.steps ≤ n) × (0 < n → 0 < ran.steps)
runs-use code zero s ran e = uses zero ran _ (omega arith, λ h. h) e
runs-use code (suc n) s ran e = continued-uses n s ran (runs code n) (step code s) (runs-use code n) e
