-- An exit that is done again.
use Rattle.std.proofs.Common.{◌≡◌, ℕ, Bool, true, false, List, [], ◌∷◌, ◌++◌, Option, Some, None, refl, ap, sym, ◌∙◌}
use Rattle.std.proofs.lemmas.Option.{option_and_then_some}
use Rattle.std.proofs.lemmas.Slice.Eq.{bytes_eq-Decides}
use Rattle.std.specs.Prelude.{bytes_eq, if◌then◌else◌, not, slice_get}
use Rattle.std.specs.Option.{option_and_then, option_map_or}
use Rattle.core_at_work.specs.Insides.{IsInside}
use Rattle.core_at_work.proofs.Stand.{has_kernel}
use Rattle.event_journal.specs.declared.event.Event.TheVariants.{Exit}
use Rattle.journal_replay.specs.Replaying.{CanBeNext, HasDone, done_by}
use Rattle.journal_replay.specs.declared.replay.Replay.{Replay}
use Rattle.journal_replay.proofs.Next.{kernel_now, next_kernel}
use Rattle.kernel_model.specs.Exit.{Exited, exit, exit_of}
use Rattle.kernel_model.specs.History.{exit_to, is_outside}
use Rattle.kernel_model.specs.Kernel.{Inside, Kernel, Outside, Processor}
use Rattle.kernel_state.proofs.CoreEvents.{some_kernel}
use Rattle.kernel_state.specs.Leaving.{HasLeft}
use Rattle.kernel_state.specs.Meaning.{is_inside}
use Rattle.kernel_state.specs.declared.kernel_core.Core.{Core}
use Rattle.kernel_state.specs.declared.work.Ran.{Ran}
use Rattle.smc_abi.specs.declared.regs.Regs.{Regs}

insider : (kernel : Kernel) (cpu : ℕ) (exited : Exited) (processor : Processor) → exit_of kernel cpu processor ≡ Some exited
    → not (is_outside processor) ≡ true
insider kernel cpu exited Outside e = absurd cc
insider kernel cpu exited (Inside regs steps errand) e = refl

told_by : (exited : Exited) (regs : Regs) (next : Kernel) (equal : Bool) → bytes_eq exited.regs regs.a ≡ equal
    → (if equal then Some exited.kernel else None) ≡ Some next → exited.regs ≡ regs.a
told_by exited regs next true is gives = (bytes_eq-Decides exited.regs regs.a).0 is
told_by exited regs next false is gives = absurd cc

module _ (old : Replay) (cpu : ℕ) (regs : Regs) where
  -- ---- where it can be next

  module _ (can : CanBeNext old (Exit cpu regs)) where
    pub is_in : IsInside old.at_work.core cpu
    is_in =
        let on = next_kernel old (Exit cpu regs) can in
        has_kernel old.at_work.core (λ (kernel : Kernel). is_inside cpu kernel ≡ true)
        (option_and_then_some (exit_to regs.a) (exit (kernel_now old) cpu) on.0 on.1
        (λ (exited : Exited) is onward. option_and_then_some (exit_of (kernel_now old) cpu) (slice_get (kernel_now old).processors cpu) exited is
        (λ (processor : Processor) there out.
        ap (λ (o : Option Processor). option_map_or (λ (p : Processor). not (is_outside p)) o false) there
        ∙ insider (kernel_now old) cpu exited processor out)))

    -- it goes out with the journal's registers
    pub same_regs : (new : Core) (ran : Ran) (lane now : List ℕ) (told : Regs) → HasLeft old.at_work.core new ran lane now told
        → ran.cpu ≡ cpu → told.a ≡ regs.a
    same_regs new ran lane now told has same =
        let on = next_kernel old (Exit cpu regs) can in
        let there : exit (kernel_now old) cpu ≡ Some has.exited =
        ap (λ (n : ℕ). exit (kernel_now old) n) (sym same)
        ∙ sym (ap (λ (o : Option Kernel). option_and_then (λ k. exit k ran.cpu) o) (some_kernel old.at_work.core).1) ∙ has.is_exit in
        let gives : exit_to regs.a has.exited ≡ Some on.0 =
        sym (ap (λ (o : Option Exited). option_and_then (exit_to regs.a) o) there) ∙ on.1 in
        has.answer ∙ told_by has.exited regs on.0 (bytes_eq has.exited.regs regs.a) refl gives

  -- ---- once it has gone out

  pub left : (new : Replay) (ran : Ran) (lane now : List ℕ) (told : Regs) → HasLeft old.at_work.core new.at_work.core ran lane now told → ran.cpu ≡ cpu
      → told.a ≡ regs.a → HasDone old new (Exit cpu regs)
  left new ran lane now told has same words = record {
    boot = has.boot;
    events = has.events ∙ ap (λ (n : ℕ). done_by old ++ Exit n told ∷ []) same
        ∙ ap (λ (a : List ℕ). let r : Regs = record { a = a } in done_by old ++ Exit cpu r ∷ []) words;
  }
