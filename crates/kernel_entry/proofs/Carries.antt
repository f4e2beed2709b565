-- A call is carried by whether it runs.
use Rattle.std.proofs.Common.{◌≡◌, ℕ, List, sym, ◌∙◌}
use Rattle.std.specs.Global.{Box}
use Rattle.kernel_model.specs.Kernel.{CallPhase, Runs, Asks, Waits, Ends, PendingCall}
use Rattle.rpc_cont.specs.declared.cont.Cont.{Cont}
use Rattle.rpc_cont.specs.declared.phase.Phase.{Phase}
use Rattle.rpc_cont.specs.declared.phase.Phase.TheVariants as phase
use Rattle.kernel_state.specs.Calls.{IsCall, IsInPhase}
use Rattle.kernel_state.specs.Work.{IsCarriedAs}
use Rattle.kernel_state.specs.declared.carried.Carried.TheVariants.{Running}

other_phase : (a b : Phase) (cont : Cont (List ℕ)) → cont.phase ≡ a → cont.phase ≡ b → a ≡ b
other_phase a b cont one other = sym one ∙ other

runs_alone : (of : CallPhase) (cont : Box (Cont (List ℕ))) (call : PendingCall) → cont.value.phase ≡ phase.Runs → IsInPhase cont.value of →
    IsCall cont.value call → IsCarriedAs (Running cont) call of
runs_alone (Runs job) cont call runs is so = so
runs_alone (Asks job wanted payload) cont call runs is so = let never = other_phase phase.Runs phase.Asks cont.value runs is.0 in absurd cc
runs_alone (Waits params) cont call runs is so = let never = other_phase phase.Runs phase.Waits cont.value runs is.phase in absurd cc
runs_alone (Ends result params told wakes) cont call runs is so = let never = other_phase phase.Runs phase.Ends cont.value runs is.phase in absurd cc

pub carried_running : (cont : Box (Cont (List ℕ))) (call : PendingCall) → cont.value.phase ≡ phase.Runs → IsCall cont.value call →
    IsCarriedAs (Running cont) call call.phase
carried_running cont call runs is = runs_alone call.phase cont call runs is.phase is
