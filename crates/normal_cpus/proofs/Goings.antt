-- An exit under a turn.
use Rattle.std.proofs.Common.{◌≡◌, ℕ, false, List, [], ◌∷◌, ◌++◌, length, ap, sym, subst, ◌∙◌, append_assoc}
use Rattle.std.specs.List.{AllByRecursion}
use Rattle.core_lock.specs.Passes.{made, number, seen}
use Rattle.event_journal.specs.declared.event.Event.{Event}
use Rattle.event_journal.specs.declared.event.Event.TheVariants.{Entry, Exit}
use Rattle.kernel_model.specs.Application.{Booted}
use Rattle.kernel_model.specs.History.{IsLegal, exit_after}
use Rattle.kernel_model.specs.Laws.{IsOfOther}
use Rattle.kernel_state.specs.Laws.{GoesOnByOthers}
use Rattle.kernel_state.specs.Leaving.{CanLeave, CanLeaveAfter, HasLeft}
use Rattle.kernel_state.specs.Meaning.{events_of}
use Rattle.kernel_state.specs.declared.kernel_core.Core.{Core}
use Rattle.kernel_state.specs.declared.work.Ran.{Ran}
use Rattle.kernel_state.proofs.CoreEvents.{core_is_legal}
use Rattle.kernel_state.proofs.Others.{work_stays_onward}
use Rattle.normal_cpus.specs.Laws.{WorksGoOut}
use Rattle.normal_cpus.specs.Leaving.{CanGoOut, GoesOut}
use Rattle.normal_cpus.specs.Seeing.{IsOpenAt}
use Rattle.normal_cpus.specs.Sharing.{CpuPass, is_inside}
use Rattle.normal_cpus.specs.declared.cpu_answer.CpuAnswer.{CpuAnswer}
use Rattle.normal_cpus.proofs.OwnEvents.{ends_by}
use Rattle.normal_cpus.proofs.Turns.{IsFound, IsGivenBack, has_made, others_since}

-- ---- before it

-- what a pass could go out with, it can go out with at its next turn
pub can_leave : (boot : Booted) (pass : CpuPass) (core : Core) (ran : Ran) → IsFound boot pass core → CanGoOut boot pass ran →
    CanLeave core ran
can_leave boot pass core ran found can =
    let goes : GoesOnByOthers boot (seen pass) (events_of core) ran.cpu = record {
      legal = subst (λ (b : Booted). IsLegal b (events_of core)) found.booted (core_is_legal core);
      between = found.begins.0;
      others = subst (λ (n : ℕ). AllByRecursion (IsOfOther n) found.begins.0) (sym can.cpu) (others_since boot pass core found);
      is = sym found.begins.1;
    } in
    subst (λ (b : Booted). CanLeaveAfter b (events_of core) ran) (sym found.booted)
    (work_stays_onward.ran boot (seen pass) (events_of core) ran goes can.fits)

others_append : (cpu : ℕ) (events more : List Event) → AllByRecursion (IsOfOther cpu) events → AllByRecursion (IsOfOther cpu) more →
    AllByRecursion (IsOfOther cpu) (events ++ more)
others_append cpu [] more all rest = rest
others_append cpu (first ∷ events) more all rest = (all.0, others_append cpu events more all.1 rest)

-- its entry is open still
open_still : (boot : Booted) (pass : CpuPass) (core : Core) (place : ℕ) → IsFound boot pass core → IsOpenAt (number pass) place (seen pass) →
    IsOpenAt (number pass) place (events_of core)
open_still boot pass core place found was = record {
  before = was.before;
  event = was.event;
  behind = was.behind ++ found.begins.0;
  is = sym found.begins.1 ∙ ap (λ (events : List Event). events ++ found.begins.0) was.is
      ∙ append_assoc was.before (was.event ∷ was.behind) found.begins.0;
  stands = was.stands;
  entry = was.entry;
  others = others_append (number pass) was.behind found.begins.0 was.others (others_since boot pass core found);
}

-- ---- behind it

pub goes_out : (boot : Booted) (old new : CpuPass) (before after : Core) (ran : Ran) (lane now : List ℕ) (answer : CpuAnswer) →
    IsFound boot old before → IsGivenBack old new before after → CanGoOut boot old ran → HasLeft before after ran lane now answer.regs →
    answer.entry_at ≡ ran.entry_at → answer.exit_at ≡ length (events_of before) → GoesOut boot old new ran lane now answer
goes_out boot old new before after ran lane now answer found given can has entry_at exit_at = record {
  before = events_of before;
  makes = has_made boot old new before after (Exit (number old) answer.regs) found given has.boot has.terms
      (has.events ∙ ap (λ (n : ℕ). events_of before ++ Exit n answer.regs ∷ []) can.cpu);
  exit_at = exit_at;
  entry_at = entry_at;
  open_entry = subst (λ (place : ℕ). IsOpenAt (number old) place (events_of before)) (sym entry_at)
      (open_still boot old before ran.entry_at found can.open_entry);
  exited = has.exited;
  is_exit = ap (λ (n : ℕ). exit_after boot (events_of before) n) (sym can.cpu)
      ∙ ap (λ (b : Booted). exit_after b (events_of before) ran.cpu) (sym found.booted) ∙ has.is_exit;
  answer_is = has.answer;
  writes = has.writes;
}

pub outside_after : (boot : Booted) (old new : CpuPass) (ran : Ran) (lane now : List ℕ) (answer : CpuAnswer) →
    GoesOut boot old new ran lane now answer → is_inside new ≡ false
outside_after boot old new ran lane now answer has =
    ends_by (made old) (made new) (Exit (number old) answer.regs) has.makes.made_one

-- ---- the work of an entry

pub works_go_out : WorksGoOut
works_go_out boot old new coming lane work ran has run mine = record {
  cpu = run.cpu ∙ has.cpu ∙ sym mine;
  open_entry = record {
    before = has.before;
    event = Entry coming.cpu coming.regs coming.steps has.reads;
    behind = [];
    is = has.makes.ends;
    stands = run.entry_at ∙ has.entry_at;
    entry = sym mine;
    others = tt;
  };
  fits = work_stays_onward.has_run boot (seen new) work ran has.fits run;
}
