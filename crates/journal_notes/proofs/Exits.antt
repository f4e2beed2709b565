-- An exit that is done again is noted, and is the journal's where its registers are.
use Rattle.std.proofs.Common.{◌≡◌, ℕ, Bool, List, [], ◌∷◌, ◌++◌, ap, subst, ◌∙◌}
use Rattle.std.specs.Prelude.{◌↔◌, IsTrue, Ok}
use Rattle.event_journal.specs.declared.event.Event.{Event}
use Rattle.event_journal.specs.declared.event.Event.TheVariants.{Exit}
use Rattle.journal_notes.specs.Meaning.{IsExitNoted, IsNoted, Meaning}
use Rattle.journal_replay.proofs.Left.{left, same_regs}
use Rattle.journal_replay.proofs.Next.{does_so}
use Rattle.journal_replay.specs.Replaying.{Does, done_by}
use Rattle.journal_replay.specs.declared.replay.Replay.{Replay}
use Rattle.kernel_state.specs.Meaning.{events_of}
use Rattle.smc_abi.specs.declared.regs.Regs.{Regs}

-- the event that it is
pub exit_done : {N L : Type 0} (meaning : Meaning N L) (old new : Replay) (cpu : ℕ) (lane now : List ℕ) (before after : N)
    (it : IsExitNoted meaning old.at_work.core new.at_work.core before after cpu lane now)
    → events_of new.at_work.core ≡ done_by old ++ Exit cpu it.told ∷ []
exit_done meaning old new cpu lane now before after it = it.has_left.events ∙ ap (λ (n : ℕ). done_by old ++ Exit n it.told ∷ []) it.its_own

module _ {N L : Type 0} (meaning : Meaning N L) (old new : Replay) (cpu : ℕ) (regs : Regs) (lane now : List ℕ) (before after : N)
    (it : IsExitNoted meaning old.at_work.core new.at_work.core before after cpu lane now) where
  -- by whether it has gone out with the journal's registers
  pub exit_does : (answer : Bool) → (IsTrue answer ↔ (it.told.a ≡ regs.a)) → Does old new (Exit cpu regs) (Ok answer)
  exit_does answer told = does_so old new (Exit cpu regs) answer
      (λ same. left old cpu regs new it.ran lane now it.told it.has_left it.its_own (told.0 same))
      (λ can. told.1 (same_regs old cpu regs can new.at_work.core it.ran lane now it.told it.has_left it.its_own))

  pub exit_noted : it.told.a ≡ regs.a → IsNoted meaning old.at_work.core new.at_work.core before after (Exit cpu regs)
  exit_noted words =
      subst (λ (event : Event). IsNoted meaning old.at_work.core new.at_work.core before after event)
      (ap (λ (a : List ℕ). let r : Regs = record { a = a } in Exit cpu r) words) it.noted
