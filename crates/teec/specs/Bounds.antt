-- How many SMCs a call makes at most, whatever is answered.
use Rattle.std.specs.Prelude.{ℕ, ◌+◌, Option, Some, None}
use Rattle.teec.specs.declared.limits.Limits.{Limits}

abbrev pub most_cancels : Option ℕ → ℕ
most_cancels None = 0
most_cancels (Some after) = 1

-- one for each try, one for each answer to an RPC return, and the cancellation
abbrev pub most_smcs : Limits → ℕ
most_smcs limits = limits.retries + limits.rounds + most_cancels limits.cancel_after
