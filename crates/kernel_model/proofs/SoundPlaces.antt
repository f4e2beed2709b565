-- Where calls write lies in RAM, after each event of a legal history; and registered buffers have pages of RAM.
use Rattle.std.proofs.Common.{◌≡◌, ℕ, true, List, Option, Some, None, refl, ap, subst, sym, ◌∙◌, arith}
use Rattle.std.specs.Prelude.{slice_get, slice_set, ◌%◌}
use Rattle.std.specs.List.{AllByRecursion}
use Rattle.std.specs.Option.{option_and_then}
use Rattle.std.proofs.lemmas.List.Elements.{All-nil}
use Rattle.base.proofs.MapLemmas.{All-insert, All-remove}
use Rattle.event_journal.specs.declared.event.Event.{Event}
use Rattle.msg_args.specs.Layout.{argument_len}
use Rattle.ns_ram.specs.Lane.{IsInRam}
use Rattle.param_copy.specs.Places.{IsWritable}
use Rattle.param_copy.specs.declared.copied.Place.{Place}
use Rattle.rpc_msgs.specs.declared.rpc_buffer.RpcBuffer.{RpcBuffer}
use Rattle.shm_registry.specs.Registered.{Registered}
use Rattle.kernel_model.specs.Application.{Booted}
use Rattle.kernel_model.specs.Argument.{client_in, thread_in}
use Rattle.kernel_model.specs.Decision.{Taken, Takes}
use Rattle.kernel_model.specs.Entry.{after_decision}
use Rattle.kernel_model.specs.Exit.{progress_of, tables_left}
use Rattle.kernel_model.specs.Given.{Buffer, Given, NoBuffer, Nothing, Reply, call_given}
use Rattle.kernel_model.specs.History.{kernel_after}
use Rattle.kernel_model.specs.Kernel.{Active, Free, Kernel, PendingCall, Progress, Suspended, Tables, ThreadSlot, without_visitor}
use Rattle.kernel_model.specs.NewCall.{NewCall, new_call_of}
use Rattle.kernel_model.specs.Resume.{Resumed, onward_of, phase_seen, resumed_call, sees}
use Rattle.kernel_model.specs.Sound.{Always, Calls, unmarked_at, unmarked_in, unmarked}
use Rattle.kernel_model.specs.SoundPlaces.{HasItsPlaces, HaveTheirPlaces}
use Rattle.kernel_model.proofs.Copied.{HasGoodPages, HaveGoodPages, area_inside, argument_inside}
use Rattle.kernel_model.proofs.Parts.{if-both}
use Rattle.kernel_model.proofs.SoundEvents.{EventCases, holds_after, resumed_taken}
use Rattle.kernel_model.proofs.SoundExits.{exits_all, left_all, unbuffered}
use Rattle.kernel_model.proofs.SoundNewCalls.{NewCases, cases_onward}
use Rattle.kernel_model.proofs.SoundOffers.{IsOffered}
use Rattle.kernel_model.proofs.SoundResumes.{resumes_all}
use Rattle.kernel_model.proofs.SoundSlots.{Changes, by_number, free_there, leaves_slot, none_at_first, takes_slot}

-- ---- one call

abbrev PlacedAt : Option PendingCall → Type 0
PlacedAt None = Unit {0}
PlacedAt (Some call) = HasItsPlaces call

abbrev AllPlaced : Calls → Type 0
AllPlaced calls = (slot : ℕ) → PlacedAt (calls slot)

-- a call with the same places
again : (call next : PendingCall) → next.arg ≡ call.arg → next.area ≡ call.area → next.places ≡ call.places → next.buffer ≡ call.buffer
    → HasItsPlaces call → HasItsPlaces next
again call next arg area places buffer placed = record {
  argument = subst (λ (a : ℕ). IsInRam a 32) (sym arg) placed.argument;
  places = subst (λ (a : ℕ). AllByRecursion (IsWritable a) next.places) (sym arg)
      (subst (λ (all : List Place). AllByRecursion (IsWritable call.arg) all) (sym places) placed.places);
  area = λ at is. placed.area at (sym area ∙ is);
  buffer = λ at is. placed.buffer at (sym buffer ∙ is);
  multiple = λ at is. placed.multiple at (sym buffer ∙ is);
}

-- the area of a call lies in RAM
abbrev HasItsArea : PendingCall → Type 0
HasItsArea call = (area : ℕ) → call.area ≡ Some area → IsInRam area 160

-- one that has no buffer yet
fresh : (call : PendingCall) → call.buffer ≡ None → IsInRam call.arg 32 → HasItsArea call → AllByRecursion (IsWritable call.arg) call.places
    → HasItsPlaces call
fresh call none argument area places = record {
  argument = argument;
  area = area;
  places = places;
  buffer = λ at is. absurd (none_some at (sym none ∙ is));
  multiple = λ at is. absurd (none_some at (sym none ∙ is));
}
  where
    none_some : (at : RpcBuffer) → None ≡ Some at → ⊥
    none_some at e = cc

-- ---- new calls

abbrev NewPlaces : Taken → Type 0
NewPlaces taken = HasItsPlaces taken.call × HaveGoodPages taken.tables.registered.buffers

module _ (c : NewCall) (pages : HaveGoodPages c.tables.registered.buffers) (within : IsInRam c.arg (argument_len c.head.count))
    (area : (area : ℕ) → c.area ≡ Some area → IsInRam area 160) where
  head_inside : IsInRam c.arg 32
  head_inside =
      let low = within.0 in
      let high = within.1 in
      (low, omega arith)

  new_places : NewCases c NewPlaces
  new_places = record {
    settles = λ code. (fresh _ refl head_inside area tt, pages);
    settles_open = λ app login code. (fresh _ refl head_inside area tt, pages);
    settles_invoke = λ named code is. (fresh _ refl head_inside area tt, pages);
    cancels = λ named is. (fresh _ refl head_inside area tt, pages);
    registers = λ param listed new room good.
        (fresh _ refl head_inside area tt, All-insert HasGoodPages c.tables.registered.buffers param.s _ pages good);
    unregisters = λ param unpinned. (fresh _ refl head_inside area tt, All-remove HasGoodPages c.tables.registered.buffers param.s pages);
    opens_kept = λ wanted app copies copied kept shown shared free. (fresh _ refl head_inside area (copied.places pages within), pages);
    opens_awaited = λ wanted app copies copied number shown shared awaited. (fresh _ refl head_inside area (copied.places pages within), pages);
    opens_next = λ wanted app copies copied shown shared awaited. (fresh _ refl head_inside area (copied.places pages within), pages);
    open_waits = λ wanted app copies copied kept shown shared held. (fresh _ refl head_inside area (copied.places pages within), pages);
    invokes = λ named copies copied is alive free. (fresh _ refl head_inside area (copied.places pages within), pages);
    invoke_waits = λ named copies copied is alive held. (fresh _ refl head_inside area (copied.places pages within), pages);
    closes = λ named is free. (fresh _ refl head_inside area tt, pages);
    close_waits = λ named is held. (fresh _ refl head_inside area tt, pages);
  }

-- ---- resumes and exits

resumed_places : (r : Resumed) → HasItsPlaces r.call → HasItsPlaces (onward_of r).call
resumed_places r placed = resumes_all r (λ progress. HasItsPlaces progress.call) (record {
  runs = λ job is. again r.call _ refl refl refl refl placed;
  asks_still = λ job wanted payload is. again r.call _ refl refl refl refl placed;
  answered = λ job wanted payload answer advance is e. again r.call _ refl refl refl refl placed;
  ends = λ result params told wakes left is. again r.call _ refl refl refl refl placed;
  fails = λ params code is. again r.call _ refl refl refl refl placed;
  sleeps = λ params is. again r.call _ refl refl refl refl placed;
  opens = λ params session app instance ready alive opening is. again r.call _ refl refl refl refl placed;
  opens_new = λ params session app awake none opening is pages. again r.call _ refl refl refl refl placed;
  invokes = λ params session instance func ready alive is. again r.call _ refl refl refl refl placed;
  closes = λ params session instance ready is. again r.call _ refl refl refl refl placed;
})

pub resumed_registered : (r : Resumed) → (onward_of r).tables.registered ≡ r.tables.registered
resumed_registered r = resumes_all r (λ progress. progress.tables.registered ≡ r.tables.registered) (record {
  runs = λ job is. refl;
  asks_still = λ job wanted payload is. refl;
  answered = λ job wanted payload answer advance is e. refl;
  ends = λ result params told wakes left is. refl;
  fails = λ params code is. refl;
  sleeps = λ params is. refl;
  opens = λ params session app instance ready alive opening is. refl;
  opens_new = λ params session app awake none opening is pages. refl;
  invokes = λ params session instance func ready alive is. refl;
  closes = λ params session instance ready is. refl;
})

exit_places : (tables : Tables) (call : PendingCall) (granted : ℕ) (progress : Progress) → HasItsPlaces call
    → progress_of tables call granted ≡ Some progress → HasItsPlaces progress.call
exit_places tables call granted progress placed e = exits_all tables call granted (λ (p : Progress). HasItsPlaces p.call) progress (record {
  left = λ job later is grant. again call _ refl refl refl refl placed;
  ends = λ job used end is grant. again call _ refl refl refl refl placed;
  panics = λ job used code is grant. again call _ refl refl refl refl placed;
  asks = λ job later used wanted payload is grant. again call _ refl refl refl refl placed;
  asked = λ job wanted payload is. placed;
  waits = λ params is. placed;
  told = λ result params wakes is. placed;
  tells = λ result params wakes is. again call _ refl refl refl refl placed;
}) e

pub exit_registered : (tables : Tables) (call : PendingCall) (granted : ℕ) (progress : Progress) → progress_of tables call granted ≡ Some progress
    → progress.tables.registered ≡ tables.registered
exit_registered tables call granted progress e = exits_all tables call granted (λ (p : Progress). p.tables.registered ≡ tables.registered) progress (record {
  left = λ job later is grant. refl;
  ends = λ job used end is grant. refl;
  panics = λ job used code is grant. refl;
  asks = λ job later used wanted payload is grant. refl;
  asked = λ job wanted payload is. refl;
  waits = λ params is. refl;
  told = λ result params wakes is. refl;
  tells = λ result params wakes is. refl;
}) e

sees_places : (call : PendingCall) → HasItsPlaces call → HasItsPlaces (sees call)
sees_places call placed =
    if-both HasItsPlaces call.marked (record call { seen = true; phase = phase_seen call.phase }) call (again call _ refl refl refl refl placed) placed

given_places : (given : Given) (call : PendingCall) → IsOffered given → HasItsPlaces call → HasItsPlaces (call_given given call)
given_places Nothing call offered placed = placed
given_places (Buffer buffer) call offered placed = record {
  argument = placed.argument;
  area = placed.area;
  places = placed.places;
  buffer = λ at is. subst (λ (b : RpcBuffer). IsInRam b.addr 4096) (same at is) offered.0;
  multiple = λ at is. subst (λ (b : RpcBuffer). b.addr % 8 ≡ 0) (same at is) offered.1;
}
  where
    same : (at : RpcBuffer) → Some buffer ≡ Some at → buffer ≡ at
    same at e = cc
given_places NoBuffer call offered placed = placed
given_places (Reply reply) call offered placed = placed

unbuffered_places : (call : PendingCall) → HasItsPlaces call → HasItsPlaces (unbuffered call)
unbuffered_places call placed = fresh (unbuffered call) refl placed.argument placed.area placed.places

-- ---- events

record ArePlacedIn (kernel : Kernel) : Type 0 where
  calls : AllPlaced (unmarked_at kernel.slots)
  pages : HaveGoodPages kernel.tables.registered.buffers

placed_change : (before after : Calls) (slot : ℕ) (held : Option PendingCall) → Changes before after slot held → AllPlaced before → PlacedAt held
    → AllPlaced after
placed_change before after slot held changes all placed at =
    by_number slot at
    (λ same. subst PlacedAt (sym changes.here ∙ ap after same) placed)
    (λ apart. subst PlacedAt (sym (changes.others at apart)) (all at))

-- the call that a slot holds
held_places : (kernel : Kernel) (slot : ℕ) (held : ThreadSlot) (call : PendingCall) → ArePlacedIn kernel
    → option_and_then unmarked_in (Some held) ≡ Some (unmarked call) → option_and_then unmarked_in (slice_get kernel.slots slot) ≡ option_and_then unmarked_in (Some held)
    → HasItsPlaces call
held_places kernel slot held call all is there = again (unmarked call) call refl refl refl refl (subst PlacedAt (there ∙ is) (all.calls slot))

place_cases : (boot : Booted) (kernel : Kernel) (cpu : ℕ) → ArePlacedIn kernel → EventCases boot kernel cpu ArePlacedIn
place_cases boot kernel cpu all = record {
  answered = λ visit answer inside. record { calls = all.calls; pages = all.pages };
  comes = λ visit slot found bytes inside free lies fits.
      let c = new_call_of boot kernel.tables visit.regs slot found bytes in
      cases_onward c NewPlaces (λ taken. ArePlacedIn (after_decision kernel visit (Takes slot taken)))
      (λ taken new. record {
        calls = placed_change (unmarked_at kernel.slots) _ slot (Some (unmarked taken.call))
            (takes_slot kernel.slots taken.cancels slot visit.cpu Free taken.call (free_there kernel.slots slot free)) all.calls
            (again taken.call (unmarked taken.call) refl refl refl refl new.0);
        pages = new.1;
      })
      (new_places c all.pages (argument_inside found c.head fits) (λ area is. area_inside found c.head area fits is));
  resumes = λ visit call given inside there offered.
      let slot = thread_in visit.regs in
      let r = resumed_call boot kernel.tables slot call given in
      let taken = resumed_taken boot kernel visit call given in
      let before = held_places kernel slot (Suspended (client_in visit.regs) call) call all refl (ap (λ (o : Option ThreadSlot). option_and_then unmarked_in o) there) in
      let now = resumed_places r (given_places given (sees call) offered (sees_places call before)) in
      record {
        calls = placed_change (unmarked_at kernel.slots) _ slot (Some (unmarked taken.call))
            (takes_slot kernel.slots taken.cancels slot visit.cpu (Suspended (client_in visit.regs) call) taken.call there) all.calls
            (again taken.call (unmarked taken.call) refl refl refl refl now);
        pages = subst (λ (known : Registered). HaveGoodPages known.buffers) (sym (resumed_registered r)) all.pages;
      };
  told = λ visit answer its fixed. record { calls = all.calls; pages = all.pages };
  goes = λ visit slot worker call progress its inside there e.
      let before = held_places kernel slot (Active worker call) call all refl (ap (λ (o : Option ThreadSlot). option_and_then unmarked_in o) there) in
      let now = exit_places kernel.tables call visit.steps progress before e in
      let same : HaveGoodPages progress.tables.registered.buffers =
      subst (λ (known : Registered). HaveGoodPages known.buffers) (sym (exit_registered kernel.tables call visit.steps progress e)) all.pages in
      left_all slot progress.call
      (λ held. ArePlacedIn (without_visitor (record kernel { slots = slice_set kernel.slots slot held; tables = tables_left progress.tables slot held }) visit))
      (record {
        calls = placed_change (unmarked_at kernel.slots) _ slot _
            (leaves_slot kernel.slots slot (Active worker call) (Suspended progress.call.client progress.call) there) all.calls
            (again progress.call (unmarked progress.call) refl refl refl refl now);
        pages = same;
      })
      (record {
        calls = placed_change (unmarked_at kernel.slots) _ slot _
            (leaves_slot kernel.slots slot (Active worker call) (Suspended progress.call.client (unbuffered progress.call)) there) all.calls
            (again (unbuffered progress.call) (unmarked (unbuffered progress.call)) refl refl refl refl (unbuffered_places progress.call now));
        pages = same;
      })
      (λ result params told is. record {
        calls = placed_change (unmarked_at kernel.slots) _ slot _ (leaves_slot kernel.slots slot (Active worker call) Free there) all.calls tt;
        pages = same;
      });
}

placed_after : (boot : Booted) (history : List Event) (kernel : Kernel) → kernel_after boot history ≡ Some kernel → ArePlacedIn kernel
placed_after boot history kernel e =
    holds_after boot (λ events k. ArePlacedIn k) (record {
      first = record {
        calls = λ slot. subst PlacedAt (sym (none_at_first boot.threads slot)) tt;
        pages = All-nil HasGoodPages;
      };
      onward = λ events k cpu all. place_cases boot k cpu all;
    }) history kernel e

pub calls_placed : Always (λ boot kernel. HaveTheirPlaces (unmarked_at kernel.slots))
calls_placed boot history kernel booted e slot call is = subst PlacedAt is ((placed_after boot history kernel e).calls slot)
