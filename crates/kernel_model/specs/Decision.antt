-- What an entry decides, and the tests of a call that has its slot: the first that fails decides.
use Rattle.std.specs.Prelude.{ℕ, Option, None, Result, Ok, Err}
use Rattle.ns_ram.specs.Attempt.{Attempt}
use Rattle.ns_ram.specs.Reader.{Reader, done, ◌>>=◌}
use Rattle.smc_abi.specs.declared.answer.Answer.{Answer}
use Rattle.kernel_model.specs.Kernel.{Cancel, PendingCall, Progress, Tables}

-- what a slot is taken for: it works on this call, these are the tables, and those calls are cancelled, if any
pub record Taken : Type 0 where
  pub call : PendingCall
  pub tables : Tables
  pub cancels : Option Cancel

-- what an entry decides
pub data Decision : Type 0 where
  -- this answer, which takes no slot and changes nothing
  Answers : Answer → Decision
  -- the slot of this number is taken
  Takes : (slot : ℕ) (taken : Taken) → Decision

-- a slot works on what a call has come to
abbrev pub works_on : Progress → Taken
works_on progress = record { call = progress.call; tables = progress.tables; cancels = None }

-- tests of a call that has its slot, of which one that fails settles the call
abbrev pub Tested : Type 0 → Type 0
Tested A = Attempt Taken A

-- what the slot is taken for, by a test that failed or at the end
abbrev pub taken_in : Result Taken Taken → Taken
taken_in (Ok taken) = taken
taken_in (Err taken) = taken

abbrev pub taken_by : Tested Taken → Reader Taken
taken_by tested = tested >>= (λ result. done (taken_in result))

-- what is decided by a slot with what it is taken for, or by an answer
abbrev pub decision_in : Result (ℕ × Taken) Answer → Decision
decision_in (Ok (slot, taken)) = Takes slot taken
decision_in (Err answer) = Answers answer

abbrev pub decided_by : Attempt Answer (ℕ × Taken) → Reader Decision
decided_by attempt = attempt >>= (λ result. done (decision_in result))
