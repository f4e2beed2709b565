-- What an entry and an exit make of a core at work.
use Rattle.std.specs.Prelude.{◌≡◌, ◌≢◌, ℕ, List, Option, Some, Result, Ok, Err, IsSomeAnd, slice_get}
use Rattle.std.specs.Option.{option_and_then}
use Rattle.core_at_work.specs.Insides.{IsInside}
use Rattle.core_at_work.specs.Panics.{panic_of}
use Rattle.core_at_work.specs.declared.core_at_work.CoreAtWork.{CoreAtWork}
use Rattle.core_at_work.specs.declared.went_out.WentOut.{WentOut}
use Rattle.kernel_entry.specs.Visiting.{coming_of}
use Rattle.kernel_entry.specs.declared.visitor.Visitor.{Visitor}
use Rattle.kernel_state.specs.Entering.{HasEntered, IsAsBefore, IsTooMuch}
use Rattle.kernel_state.specs.Leaving.{CanLeave, HasLeft}
use Rattle.kernel_state.specs.Meaning.{kernel_of}
use Rattle.kernel_state.specs.Work.{IsRanOf}
use Rattle.kernel_state.specs.declared.enter_refusal.EnterRefusal.{EnterRefusal}
use Rattle.kernel_state.specs.declared.enter_refusal.EnterRefusal.TheVariants.{Full, Memory}
use Rattle.kernel_state.specs.declared.work.Ran.{Ran}
use Rattle.kernel_state.specs.declared.work.Work.{Work}

-- what a processor goes out with, where it is inside
abbrev pub outgoing_of : CoreAtWork → ℕ → Option Ran
outgoing_of at_work cpu = option_and_then (λ kept. kept) (slice_get at_work.outgoing.items cpu)

-- each processor goes out with what it had
abbrev pub SameOutgoing : CoreAtWork → CoreAtWork → Type 0
SameOutgoing old new = (cpu : ℕ) → outgoing_of new cpu ≡ outgoing_of old cpu

-- and so does each but this one
abbrev pub SameOutgoingBut : CoreAtWork → CoreAtWork → ℕ → Type 0
SameOutgoingBut old new cpu = (other : ℕ) → other ≢ cpu → outgoing_of new other ≡ outgoing_of old other

-- ---- an entry

-- a visitor has come in: it is inside, and its work is kept with its granted steps done
pub record HasComeIn (old new : CoreAtWork) (visitor : Visitor) (lane : List ℕ) : Type 0 where
  pub work : Work
  pub entered : HasEntered old.core new.core (coming_of visitor) lane work
  pub ran : Ran
  pub has_run : IsRanOf work ran
  pub kept : outgoing_of new visitor.cpu ≡ Some ran
  pub inside : IsInside new.core visitor.cpu
  pub others : SameOutgoingBut old new visitor.cpu

-- by the answer of an entry: it has come in, or else the core is as it was, and what its processors go out with
abbrev pub ComesIn : CoreAtWork → CoreAtWork → Visitor → List ℕ → Result (Unit {0}) EnterRefusal → Type 0
ComesIn old new visitor lane (Ok done) = HasComeIn old new visitor lane
ComesIn old new visitor lane (Err (Full copied more)) =
    IsAsBefore old.core new.core × IsTooMuch old.core (coming_of visitor) lane copied more × SameOutgoing old new
ComesIn old new visitor lane (Err Memory) = IsAsBefore old.core new.core × SameOutgoing old new

-- ---- an exit

-- a processor has gone out with what was kept of it, and the panic is told in which its granted steps have ended
pub record GoesOut (old new : CoreAtWork) (cpu : ℕ) (lane now : List ℕ) (out : WentOut) : Type 0 where
  pub ran : Ran
  pub was : outgoing_of old cpu ≡ Some ran
  pub its_own : ran.cpu ≡ cpu
  pub can : CanLeave old.core ran
  pub has_left : HasLeft old.core new.core ran lane now out.regs
  pub panic : IsSomeAnd (kernel_of old.core) (λ kernel. out.panic ≡ panic_of kernel cpu)
  pub others : SameOutgoingBut old new cpu
