-- What no write over a span of a machine's bytes changes.
use Rattle.std.specs.Prelude.{ℕ}
use Rattle.base.specs.Zeros.{zeros}
use Rattle.ta_step.specs.Addresses.{store}
use Rattle.ta_step.specs.State.{State}

-- where the bytes stand, how many they are, and the machine with zeros in their place
abbrev pub rest_of : State → ℕ → ℕ → ℕ × ℕ × State
rest_of s addr len = (addr, len, store s addr (zeros len))
