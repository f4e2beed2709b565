-- How a work has ended stays where others come and go.
use Rattle.std.proofs.Common.{◌≡◌, List, length, Some, None, Result, Ok, Err, refl, ap, sym, subst, ◌∙◌}
use Rattle.std.specs.List.{AllByRecursion}
use Rattle.core_lock.specs.Counts.{made_by}
use Rattle.core_lock.specs.Passes.{number, seen}
use Rattle.event_journal.specs.declared.event.Event.{Event}
use Rattle.kernel_model.specs.Laws.{IsOfOther}
use Rattle.kernel_model.specs.Turns.{cpu_of}
use Rattle.kernel_state.specs.declared.enter_refusal.EnterRefusal.{EnterRefusal}
use Rattle.kernel_state.specs.declared.enter_refusal.EnterRefusal.TheVariants.{Full, Memory}
use Rattle.normal_cpus.specs.Sharing.{boot_of}
use Rattle.normal_cpus.proofs.OwnEvents.{others_behind}
use Rattle.ordered_play.proofs.Longer.{parts_stay}
use Rattle.ordered_play.specs.Blocks.{block_of}
use Rattle.ordered_play.specs.Laws.{later}
use Rattle.ordered_play.specs.Merge.{role_of, share_of}
use Rattle.ordered_play.specs.Part.{Role}
use Rattle.ordered_play.specs.Seat.{Seat}
use Rattle.threads_play.specs.Ending.{EndsAs}
use Rattle.threads_play.specs.declared.ending.CpuEnd.{CpuEnd}
use Rattle.threads_play.specs.Ended.{HasEnded, HasEndedAt, place_by}
use Rattle.threads_play.specs.Laws.{EndsStay}

stays_by : (of : Role) (behind : List Event) (end : CpuEnd) (outcome : Result (Unit {0}) EnterRefusal)
    → AllByRecursion (IsOfOther of.share.cpu) behind → (outcome ≡ Err Memory → ⊥) → EndsAs of end outcome
    → HasEndedAt (later of behind) end (place_by of.share.history outcome)
stays_by of behind end (Ok done) others some has =
    let still = parts_stay.refusals of behind has.part None tt others in
    record {
      part = still.0;
      refused = still.1;
      done = ap (λ (s : Seat). s.acts) (sym still.2) ∙ has.all;
      sees = has.sees ∙ ap (λ (s : Seat). s.lane) still.2;
      block = has.block ∙ ap (block_of of.share.cpu) still.2;
    }
stays_by of behind end (Err (Full copied more)) others some has =
    let still = parts_stay.refusals of behind has.part (Some (length of.share.history)) has.refused others in
    record {
      part = still.0;
      refused = still.1;
      done = tt;
      sees = has.sees ∙ ap (λ (s : Seat). s.lane) still.2;
      block = has.block ∙ ap (block_of of.share.cpu) still.2;
    }
stays_by of behind end (Err Memory) others some has = absurd (some refl)

pub ends_stay : EndsStay
ends_stay shared history items lane end own is_in some has =
    let cpu = number end.pass in
    let behind = is_in.0.0 in
    let others = others_behind cpu (seen end.pass) behind (ap (made_by cpu_of cpu) is_in.0.1 ∙ is_in.1 ∙ own.0.own_entries) in
    subst (λ (h : List Event). HasEnded (role_of (share_of (boot_of shared) h cpu) items lane) end) is_in.0.1
    (stays_by (role_of (share_of (boot_of shared) (seen end.pass) cpu) items lane) behind end end.outcome others some has)
