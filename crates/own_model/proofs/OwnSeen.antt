-- A call that sees that it was cancelled: its phase and the machine's, which catches up with it.
use Rattle.std.proofs.Common.{◌≡◌, ℕ, ◌-◌, ◌≤◌, Option, Some, refl}
use Rattle.std.proofs.Common.{ap, sym, ◌∙◌, arith}
use Rattle.std.specs.Option.{option_map}
use Rattle.job_model.specs.Flag.{HasSeenCancel}
use Rattle.job_model.specs.Job.{Job, with_cancel_seen}
use Rattle.job_model.specs.Steps.{after}
use Rattle.job_model.proofs.SeenCancel.{cancel_stays_seen}
use Rattle.kernel_model.specs.Kernel.{Asks, CallPhase, Ends, Runs, Waits}
use Rattle.kernel_model.specs.Resume.{phase_seen}
use Rattle.own_model.specs.Solo.{phase_at}
use Rattle.own_model.specs.Tied.{IsFurther, PhasesAlike, WasTold}

-- ---- phases

none_left : (n : ℕ) → n - n ≡ 0
none_left n = omega arith

no_less : (n : ℕ) → n ≤ n
no_less n = omega arith

-- a job is as far as itself
pub as_far : (n : ℕ) (job : Job) → IsFurther n n job job
as_far n job = record { more = no_less n; after = ap (λ k. after k job) (none_left n) }

same_job : (first second : Job) → CallPhase.Runs first ≡ Runs second → first ≡ second
same_job first second e = cc

pub flagged_job : (job : Job) → phase_seen (Runs job) ≡ Runs job → HasSeenCancel job
flagged_job job e = same_job (with_cancel_seen job) job e

-- a phase that the machine's has the flag of, has it
pub flagged_too : (kept : Option ℕ) (now done_by_then : ℕ) (phase own_phase : CallPhase)
    → PhasesAlike kept now done_by_then phase own_phase
    → phase_seen own_phase ≡ own_phase → phase_seen phase ≡ phase
flagged_too kept now done_by_then (Runs job) (Runs from) alike flagged =
    ap (λ (j : Job). Runs j) (cancel_stays_seen.steps from job (now - done_by_then)
    (flagged_job from flagged) alike.after)
flagged_too kept now done_by_then (Asks job wanted payload) (Asks from asked bytes) alike flagged =
    ap phase_seen alike.1 ∙ flagged ∙ sym alike.1
flagged_too kept now done_by_then (Waits params) own_phase alike flagged = refl
flagged_too kept now done_by_then (Ends result params told wakes) own_phase alike flagged = refl
flagged_too kept now done_by_then (Runs job) (Asks from asked bytes) alike flagged = absurd alike
flagged_too kept now done_by_then (Runs job) (Waits params) alike flagged = absurd alike
flagged_too kept now done_by_then (Runs job) (Ends result params told wakes) alike flagged = absurd alike
flagged_too kept now done_by_then (Asks job wanted payload) (Runs from) alike flagged = absurd alike
flagged_too kept now done_by_then (Asks job wanted payload) (Waits params) alike flagged = absurd alike
flagged_too kept now done_by_then (Asks job wanted payload) (Ends result params told wakes) alike flagged = absurd alike

pub seen_twice : (phase : CallPhase) → phase_seen (phase_seen phase) ≡ phase_seen phase
seen_twice (Runs job) = ap (λ (j : Job). Runs j) (cancel_stays_seen.again job)
seen_twice (Asks job wanted payload) = ap (λ (j : Job). Asks j wanted payload) (cancel_stays_seen.again job)
seen_twice (Waits params) = refl
seen_twice (Ends result params told wakes) = refl

-- the machine's phase, caught up with the call's
pub record CaughtUp (kept : Option ℕ) (now done_by_then : ℕ) (phase own_phase : CallPhase) : Type 0 where
  pub up : CallPhase
  pub is_at : phase_at (now - done_by_then) own_phase ≡ Some up
  pub alike : PhasesAlike kept now now (phase_seen phase) (phase_seen up)
  pub told : WasTold own_phase → WasTold (phase_seen up)

pub caught_up : (kept : Option ℕ) (now done_by_then : ℕ) (phase own_phase : CallPhase)
    → PhasesAlike kept now done_by_then phase own_phase
    → CaughtUp kept now done_by_then phase own_phase
caught_up kept now done_by_then (Runs job) (Runs from) alike = record {
  up = Runs job;
  is_at = ap (λ (o : Option Job). option_map (λ (j : Job). Runs j) o) alike.after;
  alike = as_far now (with_cancel_seen job);
  told = λ told. absurd told;
}
caught_up kept now done_by_then (Asks job wanted payload) (Asks from asked bytes) alike =
    record {
      up = Asks from asked bytes;
      is_at = refl;
      alike = (refl, ap phase_seen alike.1);
      told = λ told. absurd told;
    }
caught_up kept now done_by_then (Waits params) (Waits copied) alike =
    record { up = Waits copied; is_at = refl; alike = (refl, alike.1); told = λ told. absurd told }
caught_up kept now done_by_then (Ends result params told wakes) (Ends answer remains shown woken) alike =
    record { up = Ends answer remains shown woken; is_at = refl; alike = alike; told = λ was. was }
caught_up kept now done_by_then (Runs job) (Asks from asked bytes) alike = absurd alike
caught_up kept now done_by_then (Runs job) (Waits params) alike = absurd alike
caught_up kept now done_by_then (Runs job) (Ends result params told wakes) alike = absurd alike
caught_up kept now done_by_then (Asks job wanted payload) (Runs from) alike = absurd alike
caught_up kept now done_by_then (Asks job wanted payload) (Waits params) alike = absurd alike
caught_up kept now done_by_then (Asks job wanted payload) (Ends result params told wakes) alike = absurd alike
caught_up kept now done_by_then (Waits params) (Runs from) alike = absurd alike
caught_up kept now done_by_then (Waits params) (Asks from asked bytes) alike = absurd alike
caught_up kept now done_by_then (Waits params) (Ends answer remains shown woken) alike = absurd alike
caught_up kept now done_by_then (Ends result params told wakes) (Runs from) alike = absurd alike
caught_up kept now done_by_then (Ends result params told wakes) (Asks from asked bytes) alike = absurd alike
caught_up kept now done_by_then (Ends result params told wakes) (Waits copied) alike = absurd alike
