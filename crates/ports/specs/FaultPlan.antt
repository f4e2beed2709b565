-- Which calls of a source or a sink over memory fail.
use Rattle.std.specs.Prelude.{ℕ, Bool, ◌==◌, List}
use Rattle.std.specs.List.{list_any}
use Rattle.ports.specs.Port.{risen}

-- the numbers of the calls that fail, the number of the next call, and how many have failed. At its end the number
-- of the next call stays where it is; the numbers of calls that fail are below 2^32, so no call fails there
pub record Plan : Type 0 where
  pub fails : List ℕ
  pub calls : ℕ
  pub faults : ℕ

-- a plan whose first call, which has the number 0, comes next
abbrev pub fresh : List ℕ → Plan
fresh fails = record { fails = fails; calls = 0; faults = 0 }

-- whether the next call is one of those that fail
abbrev pub is_failing : Plan → Bool
is_failing p = list_any (λ number. number == p.calls) p.fails

-- the plan after a call that does not fail
abbrev pub passed : Plan → Plan
passed p = record p { calls = risen p.calls }

-- the plan after a call that fails
abbrev pub failed : Plan → Plan
failed p = record p { calls = risen p.calls; faults = risen p.faults }
