-- Only slots with calls pin buffers, after each event of a legal history.
use Rattle.std.proofs.Common.{◌≡◌, ℕ, Bool, true, false, not, cond, ◌++◌, List, [], ◌∷◌, Option, Some, None, refl, ap, subst, sym, ◌∙◌}
use Rattle.std.specs.Prelude.{All, IsSome, ◌==◌, fold, slice_set}
use Rattle.std.specs.List.{list_any}
use Rattle.std.proofs.lemmas.Bool.Decides.{Decides-eqb}
use Rattle.std.proofs.lemmas.List.Elements.{All-cons, All-head, All-nil, All-push, All-tail, All-weaker}
use Rattle.shm_registry.specs.Registered.{Registered, is_pin, with_pin, without_slot}
use Rattle.shm_registry.specs.declared.pin.Pin.{Pin}
use Rattle.kernel_model.specs.Application.{Booted}
use Rattle.kernel_model.specs.Argument.{client_in, thread_in}
use Rattle.kernel_model.specs.Decision.{Taken, Takes}
use Rattle.kernel_model.specs.Entry.{after_decision}
use Rattle.kernel_model.specs.Exit.{tables_left}
use Rattle.kernel_model.specs.Kernel.{Active, Free, Kernel, PendingCall, Suspended, first_kernel}
use Rattle.kernel_model.specs.Located.{cookie_of, pins_with}
use Rattle.kernel_model.specs.NewCall.{NewCall, new_call_of}
use Rattle.kernel_model.specs.Resume.{resumed_call}
use Rattle.kernel_model.specs.Sound.{Always, Calls, unmarked_at, unmarked}
use Rattle.kernel_model.specs.SoundPins.{ArePinned}
use Rattle.kernel_model.proofs.Parts.{if-both}
use Rattle.kernel_model.proofs.SoundEvents.{EventCases, holds_after, resumed_taken}
use Rattle.kernel_model.proofs.SoundExits.{left_all, unbuffered}
use Rattle.kernel_model.proofs.SoundNewCalls.{NewCases, cases_onward}
use Rattle.kernel_model.proofs.SoundPlaces.{exit_registered, resumed_registered}
use Rattle.kernel_model.proofs.SoundSlots.{Changes, by_number, free_there, leaves_slot, takes_slot}

-- the pin's slot has a call
abbrev HasCall : Calls → Pin → Type 0
HasCall calls pin = IsSome (calls pin.slot)

abbrev PinsOf : Calls → List Pin → Type 0
PinsOf calls pins = All (HasCall calls) pins

-- where the slot that changes has a call
pins_later : (before after : Calls) (slot : ℕ) (call : PendingCall) (pins : List Pin) → Changes before after slot (Some call) → PinsOf before pins → PinsOf after pins
pins_later before after slot call pins changes all =
    All-weaker (HasCall before) (HasCall after) (λ pin has. by_number slot pin.slot
    (λ same. subst (λ (o : Option PendingCall). IsSome o) (sym changes.here ∙ ap after same) refl)
    (λ apart. subst (λ (o : Option PendingCall). IsSome o) (sym (changes.others pin.slot apart)) has)) pins all

-- where it has none, without its pins
pins_without : (before after : Calls) (slot : ℕ) (pins : List Pin) → Changes before after slot None → PinsOf before pins → PinsOf after (without_slot pins slot)
pins_without before after slot [] changes all = All-nil (HasCall after)
pins_without before after slot (pin ∷ pins) changes all =
    by_test (pin.slot == slot) refl (pins_without before after slot pins changes (All-tail (HasCall before) pin pins all))
  where
    by_test : (b : Bool) → (pin.slot == slot) ≡ b → PinsOf after (without_slot pins slot)
        → PinsOf after (cond (not b) (pin ∷ without_slot pins slot) (without_slot pins slot))
    by_test true is rest = rest
    by_test false is rest =
        let apart : slot ≡ pin.slot → ⊥ = λ same. let yes = (Decides-eqb pin.slot slot).1 (sym same) in absurd cc in
        All-cons (HasCall after) pin (without_slot pins slot)
        (subst (λ (o : Option PendingCall). IsSome o) (sym (changes.others pin.slot apart)) (All-head (HasCall before) pin pins all)) rest

-- with pins of a slot that has a call
cookies_too : (calls : Calls) (slot : ℕ) (cookies : List ℕ) (pins : List Pin) → IsSome (calls slot) → PinsOf calls pins
    → PinsOf calls (fold (λ (ps : List Pin) cookie. with_pin ps cookie slot) pins cookies)
cookies_too calls slot [] pins has all = all
cookies_too calls slot (cookie ∷ cookies) pins has all =
    cookies_too calls slot cookies (with_pin pins cookie slot) has
    (if-both (PinsOf calls) (list_any (is_pin cookie slot) pins) pins (pins ++ record { cookie = cookie; slot = slot } ∷ []) all
    (All-push (HasCall calls) pins (record { cookie = cookie; slot = slot }) all has))

-- the cookie that names an argument may be pinned too, once the slot has its call
named_too : (calls : Calls) (slot : ℕ) (named : Option ℕ) (pins : List Pin) → IsSome (calls slot) → PinsOf calls pins → PinsOf calls (pins_with named pins slot)
named_too calls slot None pins has all = all
named_too calls slot (Some cookie) pins has all = cookies_too calls slot (cookie ∷ []) pins has all

-- ---- new calls

abbrev NewPins : Calls → NewCall → Taken → Type 0
NewPins before c taken = (after : Calls) → Changes before after c.slot (Some (unmarked taken.call)) → PinsOf after taken.tables.registered.pins

module _ (before : Calls) (c : NewCall) (named : Option ℕ) (pins : List Pin) (pinned : c.tables.registered.pins ≡ pins_with named pins c.slot)
    (all : PinsOf before pins) where
  same : (after : Calls) (call : PendingCall) → Changes before after c.slot (Some call) → PinsOf after c.tables.registered.pins
  same after call changes =
      subst (PinsOf after) (sym pinned)
      (named_too after c.slot named pins (subst (λ (o : Option PendingCall). IsSome o) (sym changes.here) refl)
      (pins_later before after c.slot call pins changes all))

  more : (after : Calls) (call : PendingCall) (cookies : List ℕ) → Changes before after c.slot (Some call)
      → PinsOf after (fold (λ (ps : List Pin) cookie. with_pin ps cookie c.slot) c.tables.registered.pins cookies)
  more after call cookies changes =
      cookies_too after c.slot cookies c.tables.registered.pins (subst (λ (o : Option PendingCall). IsSome o) (sym changes.here) refl) (same after call changes)

  new_pins : NewCases c (NewPins before c)
  new_pins = record {
    settles = λ code after changes. same after _ changes;
    settles_open = λ app login code after changes. same after _ changes;
    settles_invoke = λ named code is after changes. same after _ changes;
    cancels = λ named is after changes. same after _ changes;
    registers = λ param pages new room good after changes. same after _ changes;
    unregisters = λ param unpinned after changes. same after _ changes;
    opens_kept = λ wanted app copies copied kept shown shared free after changes. more after _ copies.cookies changes;
    opens_awaited = λ wanted app copies copied number shown shared awaited after changes. more after _ copies.cookies changes;
    opens_next = λ wanted app copies copied shown shared awaited after changes. more after _ copies.cookies changes;
    open_waits = λ wanted app copies copied kept shown shared held after changes. more after _ copies.cookies changes;
    invokes = λ named copies copied is alive free after changes. more after _ copies.cookies changes;
    invoke_waits = λ named copies copied is alive held after changes. more after _ copies.cookies changes;
    closes = λ named is free after changes. same after _ changes;
    close_waits = λ named is held after changes. same after _ changes;
  }

-- ---- events

abbrev AfterPins : Kernel → Type 0
AfterPins next = PinsOf (unmarked_at next.slots) next.tables.registered.pins

pin_cases : (boot : Booted) (kernel : Kernel) (cpu : ℕ) → AfterPins kernel → EventCases boot kernel cpu AfterPins
pin_cases boot kernel cpu all = record {
  answered = λ visit answer inside. all;
  comes = λ visit slot found bytes inside free lies fits.
      let c = new_call_of boot kernel.tables visit.regs slot found bytes in
      cases_onward c (NewPins (unmarked_at kernel.slots) c) (λ taken. AfterPins (after_decision kernel visit (Takes slot taken)))
      (λ taken new. new _ (takes_slot kernel.slots taken.cancels slot visit.cpu Free taken.call (free_there kernel.slots slot free)))
      (new_pins (unmarked_at kernel.slots) c (cookie_of found) kernel.tables.registered.pins refl all);
  resumes = λ visit call given inside there offered.
      let slot = thread_in visit.regs in
      let r = resumed_call boot kernel.tables slot call given in
      let taken = resumed_taken boot kernel visit call given in
      let stays : PinsOf (unmarked_at kernel.slots) taken.tables.registered.pins =
      subst (λ (known : Registered). PinsOf (unmarked_at kernel.slots) known.pins) (sym (resumed_registered r)) all in
      pins_later (unmarked_at kernel.slots) _ slot (unmarked taken.call) taken.tables.registered.pins
      (takes_slot kernel.slots taken.cancels slot visit.cpu (Suspended (client_in visit.regs) call) taken.call there) stays;
  told = λ visit answer its fixed. all;
  goes = λ visit slot worker call progress its inside there e.
      let stays : PinsOf (unmarked_at kernel.slots) progress.tables.registered.pins =
      subst (λ (known : Registered). PinsOf (unmarked_at kernel.slots) known.pins) (sym (exit_registered kernel.tables call visit.steps progress e)) all in
      left_all slot progress.call (λ held. PinsOf (unmarked_at (slice_set kernel.slots slot held)) (tables_left progress.tables slot held).registered.pins)
      (pins_later (unmarked_at kernel.slots) _ slot (unmarked progress.call) progress.tables.registered.pins
      (leaves_slot kernel.slots slot (Active worker call) (Suspended progress.call.client progress.call) there) stays)
      (pins_later (unmarked_at kernel.slots) _ slot (unmarked (unbuffered progress.call)) progress.tables.registered.pins
      (leaves_slot kernel.slots slot (Active worker call) (Suspended progress.call.client (unbuffered progress.call)) there) stays)
      (λ result params told is. pins_without (unmarked_at kernel.slots) _ slot progress.tables.registered.pins
      (leaves_slot kernel.slots slot (Active worker call) Free there) stays);
}

pub kernels_pinned : Always (λ boot kernel. ArePinned (unmarked_at kernel.slots) kernel.tables)
kernels_pinned boot history kernel booted e =
    holds_after boot (λ events k. AfterPins k) (record {
      first = All-nil (HasCall (unmarked_at (first_kernel boot).slots));
      onward = λ events k cpu all. pin_cases boot k cpu all;
    }) history kernel e
