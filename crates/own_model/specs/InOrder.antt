-- What holds of the machine of a session at all times, whatever happens to it. This project's own.
use Rattle.std.specs.Prelude.{◌≡◌, ℕ, ◌<◌, Option, Some, None, All}
use Rattle.std.specs.Option.{option_and_then}
use Rattle.base.specs.NumberMap.{NumberMap, get}
use Rattle.job_model.specs.declared.call_kind.CallKind.{CallKind}
use Rattle.job_model.specs.declared.call_kind.CallKind.TheVariants.{Open, Settled}
use Rattle.kernel_model.specs.Kernel.{CallPhase, Runs, Asks, Waits, Ends, Instance}
use Rattle.own_model.specs.Solo.{OwnCall, Solo}

-- its application runs, or has asked for something
abbrev pub IsAtWork : CallPhase → Type 0
IsAtWork (Runs job) = Unit {0}
IsAtWork (Asks job wanted payload) = Unit {0}
IsAtWork (Waits params) = ⊥
IsAtWork (Ends result params told wakes) = ⊥

abbrev pub IsWaiting : CallPhase → Type 0
IsWaiting (Runs job) = ⊥
IsWaiting (Asks job wanted payload) = ⊥
IsWaiting (Waits params) = Unit {0}
IsWaiting (Ends result params told wakes) = ⊥

-- a call that was settled as it came in has ended and wakes nobody, and an open never waits
abbrev pub Fits : CallKind → CallPhase → Type 0
Fits Settled (Ends result params told None) = Unit {0}
Fits Settled _ = ⊥
Fits Open (Waits params) = ⊥
Fits _ _ = Unit {0}

-- the call of this number is there, in such a phase
pub record IsIn (P : CallPhase → Type 0) (calls : NumberMap OwnCall) (number : ℕ) : Type 0 where
  pub own : OwnCall
  pub there : get calls number ≡ Some own
  pub is_in : P own.phase

-- who holds the instance, if anybody does
abbrev pub holder_of : Option Instance → Option ℕ
holder_of instance = option_and_then (λ (kept : Instance). kept.holder) instance

-- its own invariant
pub record IsInOrder (solo : Solo) : Type 0 where
  pub fits : (number : ℕ) (own : OwnCall) → get solo.calls number ≡ Some own → Fits own.kind own.phase
  -- who holds the instance is at work, and who is in the line waits
  pub holder : (number : ℕ) → holder_of solo.instance ≡ Some number → IsIn IsAtWork solo.calls number
  pub waiting : All (λ number. IsIn IsWaiting solo.calls number) solo.waiting
  -- only numbers that were given are those of calls
  pub numbered : (number : ℕ) (own : OwnCall) → get solo.calls number ≡ Some own → number < solo.entered
