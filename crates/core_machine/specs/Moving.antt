-- What an entry and an exit make of a machine that stands at a play: it then stands at the play after them.
use Rattle.std.specs.Prelude.{◌≡◌, ℕ, [], ◌∷◌, ◌++◌, Result, Ok, Err, Some, IsSomeAnd}
use Rattle.core_machine.specs.Standing.{IsAt}
use Rattle.core_machine.specs.declared.machine.Machine.{Machine}
use Rattle.event_journal.specs.Journal.{copied_bytes}
use Rattle.core_at_work.specs.Visiting.{coming_of}
use Rattle.core_at_work.specs.Visitor.{Visitor}
use Rattle.kernel_model.specs.Application.{Booted}
use Rattle.kernel_state.specs.Entering.{visit_of}
use Rattle.kernel_state.specs.declared.enter_refusal.EnterRefusal.{EnterRefusal}
use Rattle.kernel_state.specs.declared.enter_refusal.EnterRefusal.TheVariants.{Full, Memory}
use Rattle.play_model.specs.Line.{Ret}
use Rattle.play_model.specs.Play.{Play, enters, leaves}
use Rattle.smc_abi.specs.declared.regs.Regs.{Regs}

-- the play's entry of this visitor is refused, with so many bytes read so far, and so many more that it would read
pub record IsRefused (boot : Booted) (play : Play) (visitor : Visitor) (copied more : ℕ) : Type 0 where
  pub so_far : copied ≡ copied_bytes play.history
  pub ends : enters boot play (visit_of (coming_of visitor)) ≡ Some (record play { refused = Some more })

-- by the answer of an entry: the machine stands at the play after it; or still at this one, where the entry is refused
-- in the play too, or memory was wanting
abbrev pub EntersAt : Booted → Play → Visitor → Machine → Result (Unit {0}) EnterRefusal → Type 0
EntersAt boot play visitor machine (Ok done) =
    IsSomeAnd (enters boot play (visit_of (coming_of visitor))) (λ next. IsAt boot next machine)
EntersAt boot play visitor machine (Err (Full copied more)) =
    IsRefused boot play visitor copied more × IsAt boot play machine
EntersAt boot play visitor machine (Err Memory) = IsAt boot play machine

-- the machine stands at the play after the exit, which prints these registers
abbrev pub LeavesAt : Booted → Play → ℕ → Machine → Regs → Type 0
LeavesAt boot play cpu machine told =
    IsSomeAnd (leaves boot cpu play) (λ next. IsAt boot next machine × (next.lines ≡ play.lines ++ Ret cpu told.a ∷ []))
