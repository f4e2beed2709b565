-- What stood in the box is what the call was planned as.
use Rattle.std.proofs.Common.{◌≡◌, ◌<◌, Some, length, subst, sym}
use Rattle.kernel_model.specs.Decision.{Takes}
use Rattle.kernel_model.specs.Kernel.{Kernel}
use Rattle.kernel_state.specs.Setup.{booted_of_setup}
use Rattle.kernel_state.specs.Tables.{tables_of}
use Rattle.kernel_state.specs.Work.{IsCarriedAs}
use Rattle.new_calls.specs.Applying.{CanApply}
use Rattle.new_calls.specs.Deciding.{call_with, taken_of}
use Rattle.thread_slots.specs.Slots.{lowest_free}
use Rattle.kernel_entry.specs.Applying.{CanTake}
use Rattle.kernel_entry.specs.Visiting.{StandsAfter}
use Rattle.kernel_entry.specs.declared.deciding.PlannedCall.{PlannedCall}
use Rattle.kernel_entry.proofs.beginning.enter_new.Goals as goal

pub enter_with-requires-clause-slot : goal.enter_with-requires-clause-slot
enter_with-requires-clause-slot c =
    subst (λ (call : PlannedCall). lowest_free c.args.parts.now.slots ≡ Some call.entered.slot) (sym c.into_inner-plan.ensures) c.requires.slot

pub enter_with-requires-clause-beside : goal.enter_with-requires-clause-beside
enter_with-requires-clause-beside c =
    subst (λ (call : PlannedCall). call.entered.slot < length c.args.parts.now.cancellations.items) (sym c.into_inner-plan.ensures) c.requires.beside

pub enter_with-requires-clause-plan : goal.enter_with-requires-clause-plan
enter_with-requires-clause-plan c =
    subst (λ (call : PlannedCall). CanTake c.args.parts.now.tables call.entered call.plan) (sym c.into_inner-plan.ensures) c.requires.plan

pub returns-clause-stands : goal.returns-clause-stands
returns-clause-stands c =
    subst (λ (call : PlannedCall).
    CanApply (call_with (booted_of_setup c.args.parts.now.setup) (tables_of c.args.parts.now.tables) call.entered) call.plan → (kernel : Kernel) →
    StandsAfter c.args.parts.now c.enter_with.new.parts c.args.visitor kernel
    (Takes call.entered.slot (taken_of (call_with (booted_of_setup c.args.parts.now.setup) (tables_of c.args.parts.now.tables) call.entered) call.plan)))
    c.into_inner-plan.ensures c.enter_with.ensures.stands

pub returns-clause-carries : goal.returns-clause-carries
returns-clause-carries c =
    subst (λ (call : PlannedCall).
    CanApply (call_with (booted_of_setup c.args.parts.now.setup) (tables_of c.args.parts.now.tables) call.entered) call.plan →
    IsCarriedAs c.enter_with.result (taken_of (call_with (booted_of_setup c.args.parts.now.setup) (tables_of c.args.parts.now.tables) call.entered) call.plan).call
    (taken_of (call_with (booted_of_setup c.args.parts.now.setup) (tables_of c.args.parts.now.tables) call.entered) call.plan).call.phase)
    c.into_inner-plan.ensures c.enter_with.ensures.carries
