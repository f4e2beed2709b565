-- A machine as contracts see it, and where it starts. This project's own.
use Rattle.std.specs.Prelude.{ℕ, Bool, true, false, not, ◌&&◌, List, [], ◌++◌, Option, None, replicate, slice_index, slice_set}
use Rattle.ta_params.specs.declared.copied_params.CopiedParams.{CopiedParams}
use Rattle.ta_params.specs.declared.login.Login.{Login}
use Rattle.ta_step.specs.declared.stop.Request.{Request}

pub record State : Type 0 where
  -- sixteen numbers of 32 bits
  pub registers : List ℕ
  -- the number of the instruction to run next
  pub place : ℕ
  -- where each open call goes on, the last one last
  pub stack : List ℕ
  -- the instance's memory, from address 0 on
  pub memory : List ℕ
  pub params : CopiedParams
  pub login : Login
  -- whether the application has asked not to be told of a cancellation
  pub masked : Bool
  -- the cancellation flag
  pub cancelled : Bool
  -- the request that waits for its answer
  pub asked : Option Request

-- a register
abbrev pub reg : State → ℕ → ℕ
reg s number = slice_index s.registers number

-- the machine with a number in a register
abbrev pub put : State → ℕ → ℕ → State
put s number value = record s { registers = slice_set s.registers number value }

-- the flag is set, and the application is to be told
abbrev pub is_cancelled : State → Bool
is_cancelled s = s.cancelled && not s.masked

-- the machine at the start of an entry point: the given registers first and zeros behind them, no call
-- open, masked, the flag clear, and nothing asked for
abbrev pub started : List ℕ → ℕ → List ℕ → List ℕ → CopiedParams → Login → State
started entries point first memory params login = record {
  registers = first ++ replicate 13 0;
  place = slice_index entries point;
  stack = [];
  memory = memory;
  params = params;
  login = login;
  masked = true;
  cancelled = false;
  asked = None;
}
