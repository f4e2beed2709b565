-- The call that a resume is for.
use Rattle.std.specs.Prelude.{ℕ, List, Option, Some, None}
use Rattle.std.specs.Global.{Box}
use Rattle.kernel_model.specs.Kernel.{PendingCall}
use Rattle.kernel_state.specs.Calls.{IsCall}
use Rattle.rpc_cont.specs.declared.cont.Cont.{Cont}

-- the call that was found is the kernel's, or neither is there
abbrev pub IsCallOf : Option (Cont (List ℕ)) → Option PendingCall → Type 0
IsCallOf None None = Unit {0}
IsCallOf (Some cont) (Some call) = IsCall cont call
IsCallOf None (Some call) = ⊥
IsCallOf (Some cont) None = ⊥

-- a call as it stands in its slot
abbrev pub BoxedCont : Type 0
BoxedCont = Box (Cont (List ℕ))
