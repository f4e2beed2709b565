-- What a call that is resumed comes to.
use Rattle.std.specs.Prelude.{◌≡◌, List, ℕ}
use Rattle.kernel_model.specs.Kernel.{Progress, Tables}
use Rattle.kernel_state.specs.Calls.{IsCall}
use Rattle.rpc_cont.specs.declared.cont.Cont.{Cont}

-- it has come to this, with these tables
pub record HasCome (left : Tables) (cont : Cont (List ℕ)) (progress : Progress) : Type 0 where
  pub tables : left ≡ progress.tables
  pub call : IsCall cont progress.call
