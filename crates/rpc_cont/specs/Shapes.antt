-- What a call as data holds, by how far it has come: the four shapes that it may have.
use Rattle.std.specs.Prelude.{◌≡◌, ℕ, List, None}
use Rattle.rpc_cont.specs.Advancing.{CanRun}
use Rattle.rpc_cont.specs.Answering.{CanBeAnswered}
use Rattle.rpc_cont.specs.Beginning.{IsFresh}
use Rattle.rpc_cont.specs.declared.cont.Cont.{Cont}
use Rattle.rpc_cont.specs.declared.phase.Phase.TheVariants as phase

-- nothing of it runs. What it may still ask for is to wake another call
pub record IsAtRest {M : Type 0} (cont : Cont M) : Type 0 where
  pub machine : cont.machine ≡ None
  pub object : cont.object ≡ None

-- by its phase, it has something to run; its machine waits for the answer to what it asks for; it has come to no entry
-- point yet; or nothing of it runs
pub record IsShaped {M : Type 0} (bytes : M → List ℕ) (cont : Cont M) : Type 0 where
  pub runs : cont.phase ≡ phase.Runs → CanRun bytes cont.app cont
  pub asks : cont.phase ≡ phase.Asks → CanBeAnswered bytes cont
  pub waits : cont.phase ≡ phase.Waits → IsFresh cont
  pub ends : cont.phase ≡ phase.Ends → IsAtRest cont
