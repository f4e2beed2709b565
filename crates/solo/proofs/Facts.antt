-- What is asked of a call as data is a fact: there is one way at most in which it holds.
use Rattle.std.proofs.Common.{◌≡◌, ℕ, List}
use Rattle.std.proofs.Props.{props}
use Rattle.begin_call.specs.Begins.{CanBegin, IsValidApp}
use Rattle.kernel_model.specs.Application.{Application, BuiltIn, OfImage}
use Rattle.kernel_model.specs.Kernel.{CallPhase, Runs, Asks, Waits, Ends}
use Rattle.kernel_state.specs.Calls.{IsInPhase, bytes_of}
use Rattle.rpc_cont.specs.Advancing.{CanAdvance}
use Rattle.rpc_cont.specs.Answering.{CanBeAnswered}
use Rattle.rpc_cont.specs.declared.cont.Cont.{Cont}
use Rattle.rpc_cont.specs.declared.phase.Phase.TheVariants as phase
use Rattle.kernel_state.proofs.CallFacts.{valid_prop}

-- ---- an application

pub valid_app_prop : (own : Application) → IsProp (IsValidApp own)
valid_app_prop (OfImage found) = valid_prop found.image
valid_app_prop (BuiltIn uuid relation) = Prim.hlevel props

-- ---- by its phase

pub runs_by : (cont : Cont (List ℕ)) (at : CallPhase) → IsInPhase cont at → cont.phase ≡ phase.Runs → CanAdvance bytes_of cont
runs_by cont (Runs job) is here = is.1
runs_by cont (Asks job wanted payload) is here = let there = is.0 in absurd cc
runs_by cont (Waits params) is here = let there = is.phase in absurd cc
runs_by cont (Ends result params told wakes) is here = let there = is.phase in absurd cc

pub asks_by : (cont : Cont (List ℕ)) (at : CallPhase) → IsInPhase cont at → cont.phase ≡ phase.Asks → CanBeAnswered bytes_of cont
asks_by cont (Runs job) is here = let there = is.1.phase in absurd cc
asks_by cont (Asks job wanted payload) is here = is.2
asks_by cont (Waits params) is here = let there = is.phase in absurd cc
asks_by cont (Ends result params told wakes) is here = let there = is.phase in absurd cc

pub begins_by : (cont : Cont (List ℕ)) (at : CallPhase) → IsInPhase cont at → cont.phase ≡ phase.Waits → CanBegin cont
begins_by cont (Runs job) is here = let there = is.1.phase in absurd cc
begins_by cont (Asks job wanted payload) is here = let there = is.0 in absurd cc
begins_by cont (Waits params) is here = record { fresh = is.fresh; result = is.result }
begins_by cont (Ends result params told wakes) is here = let there = is.phase in absurd cc
