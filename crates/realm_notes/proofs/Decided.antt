-- What is noted of an entry, by what the processor has come in for, and of an exit.
use Rattle.std.proofs.Common.{◌≡◌, ℕ, List, Option, Some, ap, ◌∙◌}
use Rattle.std.specs.Prelude.{slice_get}
use Rattle.std.specs.Option.{option_map_or}
use Rattle.base.specs.NumberMap.{get}
use Rattle.event_journal.specs.declared.event.Event.TheVariants.{Entry, Exit}
use Rattle.realm_model.specs.Reading.{Notes, Watched, call_noted, entry_noted, event_noted, exit_noted, fixed_noted, limit_noted, out_noted, resume_noted, slot_noted}
use Rattle.realm_model.specs.Realm.{Realm, client_of}
use Rattle.realm_notes.specs.Arriving.{Watch}
use Rattle.kernel_model.specs.Exit.{progress_in_slot}
use Rattle.kernel_model.specs.Kernel.{Active, Fixed, Free, InSlot, Inside, Kernel, PendingCall, Processor, Progress, Suspended, ThreadSlot, Visit}
use Rattle.kernel_model.specs.Application.{Booted}
use Rattle.ns_ram.specs.declared.read.Read.{Read}
use Rattle.own_model.specs.Own.{Entering}
use Rattle.smc_abi.specs.declared.answer.Answer.{Answer}
use Rattle.smc_abi.specs.declared.regs.Regs.{Regs}

-- ---- entries

module _ (w : Watch) (next : Kernel) (cpu steps : ℕ) (regs : Regs) (reads : List Read) where
  abbrev pub visit : Visit
  visit = record { cpu = cpu; regs = regs.a; steps = steps }

  abbrev pub watched : Watched
  watched =
      let entering : Entering = record { kernel = w.kernel; next = next; visit = visit; reads = reads } in
      record { boot = w.boot; realm = w.realm; entering = entering }

  abbrev pub noted_now : Notes
  noted_now = event_noted w.boot w.realm w.kernel next w.noted (Entry cpu regs steps reads)

  pub noted_answered : (answer : Answer) → slice_get next.processors cpu ≡ Some (Inside regs.a steps (Fixed answer)) → noted_now ≡ fixed_noted watched.entering w.noted answer (client_of w.realm)
  noted_answered answer inside = ap (λ (p : Option Processor). entry_noted watched w.noted p) inside

  noted_in_slot : (slot : ℕ) → slice_get next.processors cpu ≡ Some (Inside regs.a steps (InSlot slot))
      → noted_now ≡ slot_noted watched slot w.noted (slice_get w.kernel.slots slot) (slice_get next.slots slot)
  noted_in_slot slot inside = ap (λ (p : Option Processor). entry_noted watched w.noted p) inside

  pub noted_new : (slot : ℕ) (call : PendingCall) → slice_get next.processors cpu ≡ Some (Inside regs.a steps (InSlot slot))
      → slice_get w.kernel.slots slot ≡ Some Free → slice_get next.slots slot ≡ Some (Active cpu call)
      → noted_now ≡ call_noted w.realm next.tables w.noted slot call
  noted_new slot call inside was is =
      noted_in_slot slot inside
      ∙ ap (λ (o : Option ThreadSlot). slot_noted watched slot w.noted o (slice_get next.slots slot)) was
      ∙ ap (λ (o : Option ThreadSlot). slot_noted watched slot w.noted (Some Free) o) is

  pub noted_back : (slot client : ℕ) (before call : PendingCall)
      → slice_get next.processors cpu ≡ Some (Inside regs.a steps (InSlot slot))
      → slice_get w.kernel.slots slot ≡ Some (Suspended client before) → slice_get next.slots slot ≡ Some (Active cpu call)
      → noted_now ≡ option_map_or (resume_noted watched slot before call w.noted) (get w.noted.numbering.in_slots slot) w.noted
  noted_back slot client before call inside was is =
      noted_in_slot slot inside
      ∙ ap (λ (o : Option ThreadSlot). slot_noted watched slot w.noted o (slice_get next.slots slot)) was
      ∙ ap (λ (o : Option ThreadSlot). slot_noted watched slot w.noted (Some (Suspended client before)) o) is

-- ---- exits

module _ (boot : Booted) (realm : Realm) (kernel next : Kernel) (cpu steps : ℕ) (came : List ℕ) (regs : Regs) (notes : Notes) where
  pub noted_out_answered : (answer : Answer) → slice_get kernel.processors cpu ≡ Some (Inside came steps (Fixed answer))
      → event_noted boot realm kernel next notes (Exit cpu regs) ≡ limit_noted notes cpu
  noted_out_answered answer inside = ap (λ (p : Option Processor). out_noted realm kernel notes cpu p) inside

  pub noted_out : (slot : ℕ) (progress : Progress)
      → slice_get kernel.processors cpu ≡ Some (Inside came steps (InSlot slot))
      → progress_in_slot kernel steps slot ≡ Some progress
      → event_noted boot realm kernel next notes (Exit cpu regs)
      ≡ option_map_or (exit_noted realm notes slot progress.call) (get notes.numbering.in_slots slot) notes
  noted_out slot progress inside comes =
      ap (λ (p : Option Processor). out_noted realm kernel notes cpu p) inside
      ∙ ap (λ (o : Option Progress).
      option_map_or (λ (p : Progress). option_map_or (exit_noted realm notes slot p.call) (get notes.numbering.in_slots slot) notes) o notes)
      comes
