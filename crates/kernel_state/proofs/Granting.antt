-- That a call can be granted steps is a fact: there is one way at most in which it holds.
use Rattle.std.proofs.Common.{◌≡◌, ℕ, ◌+◌, ◌<◌, ◌^◌, List, subst}
use Rattle.std.proofs.Math.Logic.{∥∥₁_elim}
use Rattle.std.specs.Global.{Box}
use Rattle.std.proofs.Props.{props}
use Rattle.rpc_cont.specs.Advancing.{CanAdvance}
use Rattle.rpc_cont.specs.declared.cont.Cont.{Cont}
use Rattle.kernel_state.specs.Calls.{bytes_of}
use Rattle.kernel_state.proofs.CallFacts.{can_advance_prop}
use Rattle.kernel_state.specs.Carried.{CanBeGranted}
use Rattle.kernel_state.specs.declared.carried.Carried.{Carried}
use Rattle.kernel_state.specs.declared.carried.Carried.TheVariants.{Nothing, Resting, Running}

can_be_granted_prop : (steps : ℕ) (call : Carried) → IsProp (CanBeGranted steps call)
can_be_granted_prop steps Nothing = Prim.hlevel props
can_be_granted_prop steps (Resting cont) = Prim.hlevel props
can_be_granted_prop steps (Running cont) = Prim.hlevel (props, can_advance_prop)

granted : (steps : ℕ) (call : Carried) → ∥ CanBeGranted steps call ∥₁ → CanBeGranted steps call
granted steps call fact = ∥∥₁_elim fact (can_be_granted_prop steps call) (λ is. is)

-- a call that runs can be taken on
pub granted_call_runs : (steps : ℕ) (call : Carried) (cont : Box (Cont (List ℕ))) → call ≡ Running cont →
    ∥ CanBeGranted steps call ∥₁ → CanAdvance bytes_of cont.value
granted_call_runs steps call cont is fact = (granted steps (Running cont) (subst (λ call. ∥ CanBeGranted steps call ∥₁) is fact)).0

-- by so many steps
pub granted_steps_fit : (steps : ℕ) (call : Carried) (cont : Box (Cont (List ℕ))) → call ≡ Running cont →
    ∥ CanBeGranted steps call ∥₁ → cont.value.steps + steps < 2 ^ 128
granted_steps_fit steps call cont is fact = (granted steps (Running cont) (subst (λ call. ∥ CanBeGranted steps call ∥₁) is fact)).1
