-- A machine and the plays at which it stands.
use Rattle.std.proofs.Common.{◌≡◌, ℕ, Bool, true, false, List, length, Option, Some, None, refl, ap, sym, subst}
use Rattle.std.proofs.Common.{◌∙◌}
use Rattle.std.proofs.lemmas.Option.{slice_get-map}
use Rattle.std.specs.Prelude.{IsSome, IsSomeAnd, not, slice_get, slice_set}
use Rattle.std.specs.Option.{option_map}
use Rattle.core_at_work.specs.Insides.{insides}
use Rattle.core_at_work.proofs.InsidesMoved.{insides_entered, insides_left}
use Rattle.core_at_work.proofs.Kept.{all_outside}
use Rattle.core_machine.specs.Laws.{MachinesStand, TurnsAreTaken}
use Rattle.core_machine.specs.Standing.{IsAt, play_of}
use Rattle.core_machine.specs.Turns.{ComeInTurn, MayCome}
use Rattle.core_machine.specs.declared.machine.Machine.{Machine}
use Rattle.core_machine.specs.declared.smc.Smc.TheVariants.{Comes, Leaves}
use Rattle.core_machine.proofs.AtPlay.{CoreAt}
use Rattle.event_journal.specs.declared.event.Event.TheVariants.{Entry, Exit}
use Rattle.kernel_model.specs.Application.{Booted}
use Rattle.kernel_model.specs.History.{after_event, is_outside}
use Rattle.kernel_model.specs.Kernel.{Inside, Kernel, Outside, Processor, Visit}
use Rattle.kernel_model.proofs.Parts.{option_map_some}
use Rattle.kernel_state.specs.Meaning.{booted_of, kernel_of}
use Rattle.kernel_state.proofs.CoreEvents.{some_kernel}
use Rattle.own_model.proofs.FixedAnswers as fixed
use Rattle.play_model.specs.Play.{Play, leaves}
use Rattle.play_model.proofs.Entries.{Entered, CameIn, WasRefused, entered, left}

abbrev is_in : Processor → Bool
is_in processor = not (is_outside processor)

pub core_at : (boot : Booted) (play : Play) (machine : Machine) → IsAt boot play machine → CoreAt boot play machine.at_work.core
core_at boot play machine at =
    record { booted = at.booted; history = at.history; kernel = at.kernel; limit = at.limit }

pub stands : (machine : Machine) (kernel : Kernel) → kernel_of machine.at_work.core ≡ Some kernel →
    IsAt (booted_of machine.at_work.core) (play_of machine kernel) machine
stands machine kernel e =
    record { booted = refl; history = refl; kernel = e; limit = refl; lanes = refl; goes_on = refl }

-- what holds of the play's kernel holds of the machine's
pub kernel_has : (boot : Booted) (play : Play) (machine : Machine) (P : Kernel → Type 0) → IsAt boot play machine →
    P play.kernel →
    IsSomeAnd (kernel_of machine.at_work.core) P
kernel_has boot play machine P at holds = subst (λ (o : Option Kernel). IsSomeAnd o P) (sym at.kernel) holds

-- the processor of this state is inside, or not
state_told : (kernel : Kernel) (cpu : ℕ) (state : Processor) → slice_get kernel.processors cpu ≡ Some state →
    slice_get (insides kernel) cpu ≡ Some (is_in state)
state_told kernel cpu state e = slice_get-map is_in kernel.processors cpu ∙ ap (option_map is_in) e

pub machines_stand : MachinesStand
machines_stand = record {
  stands = stands;
  has_kernel = λ machine. let kernel = some_kernel machine.at_work.core in subst (λ (o : Option Kernel). IsSome o)
      (sym kernel.1) refl;
  lanes = λ boot play machine at.
      ap (λ (lanes : List (List ℕ)). length lanes) (sym at.lanes) ∙ machine.each_sees
      ∙ ap (λ (b : Booted). b.cpus) at.booted;
  can_come = λ boot play machine visitor at outside some few.
      kernel_has boot play machine (λ (kernel : Kernel). MayCome (insides kernel) (Comes visitor)) at
      (state_told play.kernel visitor.cpu Outside outside, some, few);
  can_leave = λ boot play machine cpu regs steps errand at inside.
      kernel_has boot play machine (λ (kernel : Kernel). MayCome (insides kernel) (Leaves cpu)) at
      (state_told play.kernel cpu (Inside regs steps errand) inside);
  all_can = λ boot play machine smcs at in_turn.
      kernel_has boot play machine (λ (kernel : Kernel). ComeInTurn (insides kernel) smcs) at in_turn;
}

-- ---- turns

entry_turn : (boot : Booted) (play next : Play) (visit : Visit) → Entered boot visit play next → next.refused ≡ None →
    insides next.kernel ≡ slice_set (insides play.kernel) visit.cpu true
entry_turn boot play next visit (WasRefused reads much same) going =
    let none : None ≡ Some _ = sym going ∙ ap (λ (p : Play). p.refused) (sym same) in absurd cc
entry_turn boot play next visit (CameIn reads few came) going =
    let event = Entry visit.cpu (record { a = visit.regs }) visit.steps reads in
    let made = option_map_some (λ (k : Kernel). record play { kernel = k; history = _ })
    (after_event boot play.kernel event) next came in
    ap (λ (p : Play). insides p.kernel) (sym made.2)
    ∙ insides_entered boot play.kernel made.0 visit reads
    (fixed.entered boot play.kernel made.0 visit.cpu visit.steps (record { a = visit.regs }) reads made.1)

exit_turn : (boot : Booted) (play next : Play) (cpu : ℕ) → leaves boot cpu play ≡ Some next →
    insides next.kernel ≡ slice_set (insides play.kernel) cpu false
exit_turn boot play next cpu e =
    let out = left boot cpu play next e in
    let event = Exit cpu (record { a = out.exited.regs }) in
    let made = option_map_some (λ (k : Kernel). record play { kernel = k; history = _ })
    (after_event boot play.kernel event) out.gone out.came in
    let gone = fixed.left boot play.kernel made.0 cpu (record { a = out.exited.regs }) made.1 in
    ap (λ (p : Play). insides p.kernel) (sym out.is) ∙ ap (λ (p : Play). insides p.kernel) (sym made.2)
    ∙ ap insides (sym gone.2) ∙ insides_left play.kernel cpu gone.0 gone.1

pub turns_are_taken : TurnsAreTaken
turns_are_taken = record {
  first = λ boot. all_outside boot.cpus;
  entry = λ boot play next visit e going. entry_turn boot play next visit (entered boot visit play next e) going;
  exit = exit_turn;
}
