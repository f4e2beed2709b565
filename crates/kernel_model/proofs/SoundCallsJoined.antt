-- Calls, sessions and instances fit together after each event of a legal history.
use Rattle.std.proofs.Common.{◌≡◌, ℕ, List, Option, Some, None, refl, ap, sym, ◌∙◌}
use Rattle.std.specs.Prelude.{slice_get, slice_set}
use Rattle.std.specs.Option.{option_and_then}
use Rattle.event_journal.specs.declared.event.Event.{Event}
use Rattle.kernel_model.specs.Application.{Booted}
use Rattle.kernel_model.specs.Argument.{client_in, thread_in}
use Rattle.kernel_model.specs.Decision.{Takes}
use Rattle.kernel_model.specs.Entry.{after_decision}
use Rattle.kernel_model.specs.Exit.{slot_left, tables_left}
use Rattle.kernel_model.specs.History.{kernel_after}
use Rattle.kernel_model.specs.Kernel.{Active, Free, Kernel, PendingCall, Progress, Suspended, ThreadSlot, first_kernel}
use Rattle.kernel_model.specs.Leaving.{leaving_of}
use Rattle.kernel_model.specs.Located.{cookie_of}
use Rattle.kernel_model.specs.NewCall.{new_call_of}
use Rattle.kernel_model.specs.Resume.{resumed_call}
use Rattle.kernel_model.specs.Sound.{Always, Calls, unmarked_at, unmarked_in, unmarked}
use Rattle.kernel_model.specs.SoundCalls.{AreJoined, job_in}
use Rattle.kernel_model.proofs.SoundEndedJoined.{exit_fits}
use Rattle.kernel_model.proofs.SoundEvents.{EventCases, holds_along, resumed_taken}
use Rattle.kernel_model.proofs.SoundExits.{left_all, unbuffered}
use Rattle.kernel_model.proofs.SoundJoined.{goes_on_joined, never_none, rests_joined, some_same}
use Rattle.kernel_model.proofs.SoundPinned.{before_pinned}
use Rattle.kernel_model.proofs.SoundNewCalls.{cases_onward}
use Rattle.kernel_model.proofs.SoundNewJoined.{Before, NewFits, new_fits, no_job}
use Rattle.kernel_model.proofs.SoundNumbers.{numbered}
use Rattle.kernel_model.proofs.SoundOrder.{in_order}
use Rattle.kernel_model.proofs.SoundResumedJoined.{OnwardFits, in_phase, resumed_fits, resumed_on, same_phase}
use Rattle.kernel_model.proofs.SoundSlots.{Changes, free_there, leaves_slot, none_at_first, takes_slot}
use Rattle.kernel_model.proofs.SoundWaiters.{waiting}

abbrev AfterJoined : Kernel → Type 0
AfterJoined next = AreJoined (unmarked_at next.slots) next.tables

-- the calls, where the slot is left with this one
abbrev suspended_at : Kernel → ℕ → PendingCall → Calls
suspended_at kernel slot call = unmarked_at (slice_set kernel.slots slot (Suspended call.client call))

nothing_is : {P : Type 0} (call : PendingCall) → None ≡ Some call → P
nothing_is call e = absurd cc

joined_cases : (boot : Booted) (kernel : Kernel) (cpu : ℕ) → Before (unmarked_at kernel.slots) kernel.tables → EventCases boot kernel cpu AfterJoined
joined_cases boot kernel cpu sound = record {
  answered = λ visit answer inside. sound.joined;
  comes = λ visit slot found bytes inside free lies fits.
      let c = new_call_of boot kernel.tables visit.regs slot found bytes in
      let there = free_there kernel.slots slot free in
      cases_onward c (NewFits (unmarked_at kernel.slots) c) (λ taken. AfterJoined (after_decision kernel visit (Takes slot taken)))
      (λ taken new. new _ (takes_slot kernel.slots taken.cancels slot visit.cpu Free taken.call there))
      (new_fits (unmarked_at kernel.slots) c (before_pinned (cookie_of found) kernel.tables slot (unmarked_at kernel.slots) sound) (ap (λ (o : Option ThreadSlot). option_and_then unmarked_in o) there));
  resumes = λ visit call given inside there offered.
      let slot = thread_in visit.regs in
      let taken = resumed_taken boot kernel visit call given in
      resumed_fits (unmarked_at kernel.slots) (resumed_call boot kernel.tables slot call given) sound.joined (unmarked call)
      (ap (λ (o : Option ThreadSlot). option_and_then unmarked_in o) there) (resumed_on given call) _
      (takes_slot kernel.slots taken.cancels slot visit.cpu (Suspended (client_in visit.regs) call) taken.call there);
  told = λ visit answer its fixed. sound.joined;
  goes = λ visit slot worker call progress its inside there e.
      let fits = exit_fits (unmarked_at kernel.slots) kernel.tables slot call sound.joined (ap (λ (o : Option ThreadSlot). option_and_then unmarked_in o) there)
      visit.steps progress e in
      left slot worker call progress there fits;
}
  where
    left : (slot worker : ℕ) (call : PendingCall) (progress : Progress) → slice_get kernel.slots slot ≡ Some (Active worker call)
        → OnwardFits (unmarked_at kernel.slots) slot progress
        → AreJoined (unmarked_at (slice_set kernel.slots slot (slot_left progress.call (leaving_of slot progress.call))))
        (tables_left progress.tables slot (slot_left progress.call (leaving_of slot progress.call)))
    left slot worker call progress there fits =
        left_all slot progress.call (λ held. AreJoined (unmarked_at (slice_set kernel.slots slot held)) (tables_left progress.tables slot held))
        joined
        (goes_on_joined (suspended_at kernel slot progress.call) _ progress.tables slot (unmarked progress.call) (unmarked (unbuffered progress.call))
        (from_mid (Suspended progress.call.client (unbuffered progress.call))) joined changes.here
        (in_phase (unmarked progress.call) (unmarked (unbuffered progress.call)) refl refl refl refl refl (same_phase progress.call.phase)))
        (λ result params told is.
        rests_joined (suspended_at kernel slot progress.call) _ progress.tables _ slot None (from_mid Free) joined
        (λ other job held works. no_job job (sym (ap job_in is) ∙ ap (λ (c : PendingCall). job_in c.phase) (some_same (unmarked progress.call) other (sym changes.here ∙ held)) ∙ works))
        refl (λ other none. nothing_is other none) (λ other job none works. nothing_is other none) (λ other none lasts. nothing_is other none)
        (λ other instance none on kept. nothing_is other none) (λ other another differ held. (joined.each other another held).session)
        (λ other none. nothing_is other none))
      where
        changes : Changes (unmarked_at kernel.slots) (suspended_at kernel slot progress.call) slot (Some (unmarked progress.call))
        changes = leaves_slot kernel.slots slot (Active worker call) (Suspended progress.call.client progress.call) there

        joined : AreJoined (suspended_at kernel slot progress.call) progress.tables
        joined = fits (suspended_at kernel slot progress.call) changes

        from_mid : (held : ThreadSlot) → Changes (suspended_at kernel slot progress.call) (unmarked_at (slice_set kernel.slots slot held)) slot (unmarked_in held)
        from_mid held =
            let now = leaves_slot kernel.slots slot (Active worker call) held there in
            record { here = now.here; others = λ other apart. now.others other apart ∙ sym (changes.others other apart) }

first_joined : (boot : Booted) → AfterJoined (first_kernel boot)
first_joined boot = record {
  each = λ slot call is. never_none _ call (none_at_first boot.threads slot) is;
  holders = λ number slot instance kept holder. absurd cc;
  opens = λ one other call another is is_other opening opening_other same. never_none _ call (none_at_first boot.threads one) is;
  applications = λ one other call another is is_other on on_other same. never_none _ call (none_at_first boot.threads one) is;
}

pub all_joined : (boot : Booted) (history : List Event) (kernel : Kernel) → kernel_after boot history ≡ Some kernel → AfterJoined kernel
all_joined boot history kernel e =
    holds_along boot AfterJoined (first_joined boot) (λ before k cpu there joined.
    joined_cases boot k cpu (record {
      joined = joined;
      numbers = numbered boot before k there;
      waiters = waiting boot before k there;
      rising = (in_order boot before k there).instances;
    })) history kernel e

pub kernels_joined : Always (λ boot kernel. AreJoined (unmarked_at kernel.slots) kernel.tables)
kernels_joined boot history kernel booted e = all_joined boot history kernel e
