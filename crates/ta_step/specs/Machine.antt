-- What a machine means, over any memory.
use Rattle.std.specs.Prelude.{ℕ, List}
use Rattle.ta_step.specs.declared.machine.Machine.{Machine}
use Rattle.ta_step.specs.State.{State}

-- the state of a machine, where `bytes` says what its memory means
abbrev pub state_of : {M : Type 0} → (M → List ℕ) → Machine M → State
state_of bytes machine = record {
  registers = machine.registers;
  place = machine.place;
  stack = machine.stack.items;
  memory = bytes machine.memory;
  params = machine.params;
  login = machine.login;
  masked = machine.masked;
  cancelled = machine.cancelled;
  asked = machine.asked;
}
