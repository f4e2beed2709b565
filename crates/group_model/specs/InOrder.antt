-- What holds of the machine of a group at all times, whatever happens to it. This project's own.
use Rattle.std.specs.Prelude.{◌≡◌, ℕ, ◌<◌, false, Some, None, All}
use Rattle.base.specs.NumberMap.{NumberMap, get}
use Rattle.job_model.specs.declared.call_kind.CallKind.{CallKind}
use Rattle.job_model.specs.declared.call_kind.CallKind.TheVariants.{Settled}
use Rattle.kernel_model.specs.Kernel.{CallPhase, Ends, Instance}
use Rattle.own_model.specs.InOrder.{IsAtWork, IsWaiting}
use Rattle.group_model.specs.Group.{Group, GroupCall, GroupSession, GroupWaiter}

-- a call that was settled as it came in has ended and wakes nobody
abbrev pub Fits : CallKind → CallPhase → Type 0
Fits Settled (Ends result params told None) = Unit {0}
Fits Settled _ = ⊥
Fits _ _ = Unit {0}

-- the call of this number is there, on the instance of that number and in such a phase
pub record IsIn (P : CallPhase → Type 0) (calls : NumberMap GroupCall) (number instance : ℕ) : Type 0 where
  pub own : GroupCall
  pub there : get calls number ≡ Some own
  pub on_instance : own.instance ≡ instance
  pub is_in : P own.phase

-- its own invariant
pub record IsInOrder (g : Group) : Type 0 where
  pub fits : (number : ℕ) (own : GroupCall) → get g.calls number ≡ Some own → Fits own.kind own.phase
  -- who holds the instance is at work on it, and who is in the line waits for the instance that the line says
  pub holder : (number holder : ℕ) (instance : Instance) → g.instance ≡ Some (number, instance) →
      instance.holder ≡ Some holder → IsIn IsAtWork g.calls holder number
  pub waiting : All (λ (waiter : GroupWaiter). IsIn IsWaiting g.calls waiter.call waiter.instance) g.waiting
  -- only numbers that were given are those of calls
  pub numbered : (number : ℕ) (own : GroupCall) → get g.calls number ≡ Some own → number < g.entered
  -- the application keeps no word with a session that isn't opened: an open that has waited begins with 0, as one does
  -- that begins at once
  pub fresh : (number : ℕ) (session : GroupSession) → get g.sessions number ≡ Some session → session.opened ≡ false →
      session.context ≡ 0
