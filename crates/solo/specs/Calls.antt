-- When a call as data stands for a call of the machine of a session.
use Rattle.std.specs.Prelude.{◌≡◌, ℕ, List, is_some}
use Rattle.kernel_state.specs.Calls.{IsInPhase}
use Rattle.own_model.specs.Solo.{OwnCall}
use Rattle.rpc_cont.specs.declared.cont.Cont.{Cont}

-- the call as data is this one
pub record IsCall (cont : Cont (List ℕ)) (call : OwnCall) : Type 0 where
  pub kind : cont.kind ≡ call.kind
  pub seen : cont.cancelled ≡ call.seen
  pub steps : cont.steps ≡ call.steps
  pub area : is_some cont.area ≡ call.area
  pub buffer : is_some cont.buffer ≡ call.buffer
  pub phase : IsInPhase cont call.phase
