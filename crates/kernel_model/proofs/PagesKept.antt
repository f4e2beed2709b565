-- Registered buffers have pages of RAM, after each event of a legal history.
use Rattle.std.proofs.Common.{◌≡◌, ℕ, List, Some, subst, sym}
use Rattle.std.proofs.lemmas.List.Elements.{All-nil}
use Rattle.base.proofs.MapLemmas.{All-insert, All-remove}
use Rattle.event_journal.specs.declared.event.Event.{Event}
use Rattle.kernel_model.specs.Application.{Booted}
use Rattle.kernel_model.specs.Argument.{thread_in}
use Rattle.kernel_model.specs.Decision.{Taken, Takes}
use Rattle.kernel_model.specs.Entry.{after_decision}
use Rattle.kernel_model.specs.Exit.{tables_left}
use Rattle.kernel_model.specs.History.{kernel_after}
use Rattle.kernel_model.specs.Kernel.{Kernel, ThreadSlot}
use Rattle.kernel_model.specs.NewCall.{NewCall, new_call_of}
use Rattle.kernel_model.specs.Resume.{resumed_call}
use Rattle.kernel_model.proofs.Copied.{HasGoodPages, HaveGoodPages}
use Rattle.kernel_model.proofs.SoundEvents.{EventCases, holds_after}
use Rattle.kernel_model.proofs.SoundExits.{left_all}
use Rattle.kernel_model.proofs.SoundNewCalls.{NewCases, cases_onward}
use Rattle.kernel_model.proofs.SoundPlaces.{exit_registered, resumed_registered}
use Rattle.shm_registry.specs.Registered.{Registered}

-- the buffers of what a slot is taken for
abbrev KeepPages : Taken → Type 0
KeepPages taken = HaveGoodPages taken.tables.registered.buffers

abbrev HasPages : Kernel → Type 0
HasPages kernel = HaveGoodPages kernel.tables.registered.buffers

new_pages : (c : NewCall) → HaveGoodPages c.tables.registered.buffers → NewCases c KeepPages
new_pages c pages = record {
  settles = λ code. pages;
  settles_open = λ app login code. pages;
  settles_invoke = λ named code is. pages;
  cancels = λ named is. pages;
  registers = λ param listed new room good. All-insert HasGoodPages c.tables.registered.buffers param.s _ pages good;
  unregisters = λ param unpinned. All-remove HasGoodPages c.tables.registered.buffers param.s pages;
  opens_kept = λ wanted app copies copied kept shown shared free. pages;
  opens_awaited = λ wanted app copies copied number shown shared awaited. pages;
  opens_next = λ wanted app copies copied shown shared awaited. pages;
  open_waits = λ wanted app copies copied kept shown shared held. pages;
  invokes = λ named copies copied is alive free. pages;
  invoke_waits = λ named copies copied is alive held. pages;
  closes = λ named is free. pages;
  close_waits = λ named is held. pages;
}

event_pages : (boot : Booted) (kernel : Kernel) (cpu : ℕ) → HasPages kernel → EventCases boot kernel cpu HasPages
event_pages boot kernel cpu pages = record {
  answered = λ visit answer inside. pages;
  comes = λ visit slot found bytes inside free lies fits.
      let c = new_call_of boot kernel.tables visit.regs slot found bytes in
      cases_onward c KeepPages (λ taken. HasPages (after_decision kernel visit (Takes slot taken)))
      (λ taken kept. kept) (new_pages c pages);
  resumes = λ visit call given inside there offered.
      let r = resumed_call boot kernel.tables (thread_in visit.regs) call given in
      subst (λ (known : Registered). HaveGoodPages known.buffers) (sym (resumed_registered r)) pages;
  told = λ visit answer its fixed. pages;
  goes = λ visit slot worker call progress its inside there e.
      let same : HaveGoodPages progress.tables.registered.buffers =
      subst (λ (known : Registered). HaveGoodPages known.buffers)
      (sym (exit_registered kernel.tables call visit.steps progress e)) pages in
      left_all slot progress.call
      (λ (held : ThreadSlot). HaveGoodPages (tables_left progress.tables slot held).registered.buffers) same same
      (λ result params told is. same);
}

pub pages_kept : (boot : Booted) (history : List Event) (kernel : Kernel) → kernel_after boot history ≡ Some kernel
    → HaveGoodPages kernel.tables.registered.buffers
pages_kept boot history kernel e =
    holds_after boot (λ events k. HasPages k) (record {
      first = All-nil HasGoodPages;
      onward = λ events k cpu pages. event_pages boot k cpu pages;
    }) history kernel e
