-- A call whose machine has stopped, and which has done nothing about that yet.
use Rattle.std.specs.Prelude.{◌≡◌, ℕ, Bool, List, None, IsSomeAnd}
use Rattle.rpc_cont.specs.declared.cont.Cont.{Cont}
use Rattle.ta_step.specs.Machine.{state_of}
use Rattle.ta_step.specs.Requests.{NamesRange}
use Rattle.ta_step.specs.Runs.{request_of}
use Rattle.ta_step.specs.State.{State}
use Rattle.ta_step.specs.declared.stop.Stop.{Stop}

-- the machine has run to this stop, and its flag is so
pub record IsStoppedFor (seen : Bool) (why : Stop) (machine : State) : Type 0 where
  pub flag : machine.cancelled ≡ seen
  pub asks : machine.asked ≡ request_of why
  pub named : NamesRange why machine

-- the call's machine has, and the call neither asks for anything nor has its memory
pub record HasRunTo {M : Type 0} (bytes : M → List ℕ) (cont : Cont M) (why : Stop) : Type 0 where
  pub memory : cont.memory ≡ None
  pub request : cont.request ≡ None
  pub object : cont.object ≡ None
  pub machine : IsSomeAnd cont.machine (λ m. IsStoppedFor cont.cancelled why (state_of bytes m))
