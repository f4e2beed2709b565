-- What a grant leaves has the shape of its phase.
use Rattle.std.proofs.Common.{◌≡◌, ◌∙◌, ℕ, List, Option, Some, None, refl, sym, subst}
use Rattle.std.specs.Prelude.{IsSomeAnd}
use Rattle.job_model.specs.Steps.{Ends, Panics, Asks, Grant, Left, Stopped}
use Rattle.rpc_cont.specs.Advancing.{CanRun, IsAdvance, phase_after}
use Rattle.rpc_cont.specs.Answering.{CanBeAnswered}
use Rattle.rpc_cont.specs.Running.{IsOver}
use Rattle.rpc_cont.specs.Shapes.{IsShaped}
use Rattle.rpc_cont.specs.declared.app.ContApp.{ContApp}
use Rattle.rpc_cont.specs.declared.cont.Cont.{Cont}
use Rattle.rpc_cont.specs.declared.phase.Phase.{Phase}
use Rattle.rpc_cont.specs.declared.phase.Phase.TheVariants as phase
use Rattle.rpc_cont.specs.declared.stop.ContStop.{ContStop}
use Rattle.rpc_cont.specs.declared.stop.ContStop.TheVariants as stop

-- ---- by its phase

left-after : {M : Type 0} (bytes : M → List ℕ) (whose : Option ContApp) (cont : Cont M) (before steps : ℕ) (grant : Grant) (answer : ContStop)
    → IsAdvance bytes whose cont before steps grant answer → answer ≡ stop.Interrupted → CanRun bytes whose cont
left-after bytes whose cont before steps (Left job) answer (is, same, can, count) e = can
left-after bytes whose cont before steps (Stopped n (Ends end)) answer ((is, left, over), count) e = absurd cc
left-after bytes whose cont before steps (Stopped n (Panics code)) answer ((is, dead, over), count) e = absurd cc
left-after bytes whose cont before steps (Stopped n (Asks wanted payload left)) answer ((is, asked), count) e = absurd cc

over-after : {M : Type 0} (bytes : M → List ℕ) (whose : Option ContApp) (cont : Cont M) (before steps : ℕ) (grant : Grant) (answer : ContStop)
    → IsAdvance bytes whose cont before steps grant answer → phase_after answer ≡ phase.Ends → IsOver cont
over-after bytes whose cont before steps (Left job) answer (is, same, can, count) e =
    let none : phase.Runs ≡ phase.Ends = subst (λ (a : ContStop). phase_after a ≡ phase.Ends) is e in
    absurd cc
over-after bytes whose cont before steps (Stopped n (Ends end)) answer ((is, left, over), count) e = over
over-after bytes whose cont before steps (Stopped n (Panics code)) answer ((is, dead, over), count) e = over
over-after bytes whose cont before steps (Stopped n (Asks wanted payload left)) answer ((is, asked), count) e =
    let none : phase.Asks ≡ phase.Ends = subst (λ (a : ContStop). phase_after a ≡ phase.Ends) is e in
    absurd cc

runs-after : (answer : ContStop) → phase_after answer ≡ phase.Runs → answer ≡ stop.Interrupted
runs-after stop.Interrupted e = refl
runs-after stop.Asks e = absurd cc
runs-after (stop.Ended result) e = absurd cc
runs-after (stop.Panicked code) e = absurd cc

asks-after : (answer : ContStop) → phase_after answer ≡ phase.Asks → answer ≡ stop.Asks
asks-after stop.Interrupted e = absurd cc
asks-after stop.Asks e = refl
asks-after (stop.Ended result) e = absurd cc
asks-after (stop.Panicked code) e = absurd cc

never-waits : (answer : ContStop) → phase_after answer ≡ phase.Waits → ⊥
never-waits stop.Interrupted e = absurd cc
never-waits stop.Asks e = absurd cc
never-waits (stop.Ended result) e = absurd cc
never-waits (stop.Panicked code) e = absurd cc

-- ---- the call

pub shaped-after : {M : Type 0} (bytes : M → List ℕ) (whose : Option ContApp) (cont : Cont M) (before steps : ℕ) (o : Option Grant) (answer : ContStop)
    (next : Phase) → next ≡ phase_after answer → IsSomeAnd o (λ grant. IsAdvance bytes whose cont before steps grant answer)
    → (let after = record cont { app = whose; phase = next } in (answer ≡ stop.Asks → CanBeAnswered bytes after) → IsShaped bytes after)
shaped-after bytes whose cont before steps None answer next is_next is can = absurd is
shaped-after bytes whose cont before steps (Some grant) answer next is_next is can = record {
  runs =
      λ e.
      let left = left-after bytes whose cont before steps grant answer is (runs-after answer (sym is_next ∙ e)) in
      record { memory = left.memory; request = left.request; object = left.object; runs = left.runs };
  asks = λ e. can (asks-after answer (sym is_next ∙ e));
  waits = λ e. absurd (never-waits answer (sym is_next ∙ e));
  ends =
      λ e.
      let over = over-after bytes whose cont before steps grant answer is (sym is_next ∙ e) in
      record { machine = over.machine; object = over.object };
}
