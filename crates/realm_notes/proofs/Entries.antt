-- An entry that is done again is noted of a realm.
use Rattle.std.proofs.Common.{◌≡◌, ℕ, List, [], ◌∷◌, ◌++◌, Option, Some, None, refl, ap, sym, subst, ◌∙◌}
use Rattle.std.proofs.Math.Logic.{∥∥₁_elim, ∥∥₁_map, ∥∥₁_prop}
use Rattle.std.proofs.lemmas.List.{append_cancel_left}
use Rattle.std.proofs.lemmas.Option.{some_pair_parts}
use Rattle.std.specs.Prelude.{IfOk, IsSomeAnd, Result, Ok, Err, slice_get}
use Rattle.base.specs.declared.no_memory.NoMemory.{NoMemory}
use Rattle.event_journal.specs.declared.event.Event.{Event}
use Rattle.event_journal.specs.declared.event.Event.TheVariants.{Entry}
use Rattle.realm_notes.specs.Arriving.{IsArrival, IsArrivalBy, IsArrivalIn, Watch, watch}
use Rattle.realm_notes.specs.Noted.{AreNoted}
use Rattle.realm_notes.specs.Realms.{realm_of}
use Rattle.realm_notes.specs.Replaying.{HasArrived, HasArrivedIn, IsEntryNoted, IsNoted, entry_noted_by}
use Rattle.realm_notes.specs.declared.arriving.Arrival.{Arrival}
use Rattle.realm_notes.specs.declared.notes.Notes.{Notes}
use Rattle.realm_notes.proofs.Further.{goes_on}
use Rattle.realm_notes.proofs.GoneOut.{noted_prop}
use Rattle.kernel_entry.specs.Visiting.{coming_of}
use Rattle.kernel_entry.specs.declared.visitor.Visitor.{Visitor}
use Rattle.kernel_model.proofs.FixedAnswer.{inside_for, processors_after}
use Rattle.kernel_model.proofs.Parts.{set_found, set_then_read}
use Rattle.kernel_model.specs.Argument.{reg}
use Rattle.kernel_model.specs.Decision.{Answers, Decision, Taken, Takes}
use Rattle.kernel_model.specs.Entry.{after_decision, decision_of, entry}
use Rattle.kernel_model.specs.History.{after_event}
use Rattle.kernel_model.specs.Kernel.{Active, Fixed, Free, InSlot, Inside, Kernel, Outside, PendingCall, Processor, Suspended, Tables, ThreadSlot, Visit, cancelled_slots}
use Rattle.kernel_state.proofs.CoreEvents.{came_in, journals_legal, some_kernel}
use Rattle.kernel_state.specs.Entering.{HasEntered, visit_of}
use Rattle.kernel_state.specs.Laws.{CoreEntry}
use Rattle.kernel_state.specs.Meaning.{booted_of, events_of, kernel_of}
use Rattle.kernel_state.specs.Replay.{Replays}
use Rattle.kernel_state.specs.StandsFor.{StandsFor}
use Rattle.kernel_state.specs.Work.{IsCarriedAs, IsCarriedFor, IsWorkIn, IsWorkOf}
use Rattle.kernel_state.specs.declared.kernel_core.Core.{Core}
use Rattle.kernel_state.specs.declared.work.Work.{Work}
use Rattle.ns_ram.proofs.ReaderLaws.{over_lane-reading, over_lane-then}
use Rattle.ns_ram.specs.Reader.{Reader, done, over_lane}
use Rattle.ns_ram.specs.Reads.{HoldsReads}
use Rattle.ns_ram.specs.declared.read.Read.{Read}
use Rattle.realm_model.specs.Reading as realm
use Rattle.realm_model.specs.Realm.{Realm}
use Rattle.smc_abi.specs.Call.{call_of}

-- ---- what it reads and what it comes to

module _ (old : Core) (visitor : Visitor) (lane : List ℕ) (reads : List Read) (kernel next : Kernel)
    (was : kernel_of old ≡ Some kernel)
    (gives : after_event (booted_of old) kernel (Entry visitor.cpu visitor.regs visitor.steps reads) ≡ Some next)
    (held : HoldsReads lane reads) where
  abbrev pub visit : Visit
  visit = visit_of (coming_of visitor)

  abbrev pub reader : Reader Kernel
  reader = entry (booted_of old) kernel visit

  pub by_journal : over_lane reader lane [] ≡ Some (next, reads)
  by_journal =
      (over_lane-reading reader lane reads next).1 ((came_in (booted_of old) kernel next visitor.cpu visitor.steps visitor.regs reads gives).entered, held)

  pub inside_so : (decision : Decision) → after_decision kernel visit decision ≡ next
      → slice_get next.processors visitor.cpu ≡ Some (inside_for visit decision)
  inside_so decision so =
      ap (λ (k : Kernel). slice_get k.processors visitor.cpu) (sym so)
      ∙ ap (λ (ps : List Processor). slice_get ps visitor.cpu) (processors_after kernel visit decision)
      ∙ set_found kernel.processors visitor.cpu (inside_for visit decision) Outside
      (came_in (booted_of old) kernel next visitor.cpu visitor.steps visitor.regs reads gives).outside

  module _ (new : Core) (work : Work) (has : HasEntered old new (coming_of visitor) lane work) where
    abbrev core_entry : CoreEntry
    core_entry = record {
      old = old;
      new = new;
      coming = coming_of visitor;
      lane = lane;
      work = work;
      has_entered = has;
      kernel = kernel;
      next = (some_kernel new).0;
      before = was;
      after = (some_kernel new).1;
    }

    by_core : over_lane reader lane [] ≡ Some ((some_kernel new).0, has.reads)
    by_core = (over_lane-reading reader lane has.reads (some_kernel new).0).1 (journals_legal.entered core_entry, has.from_lane)

    -- one lane gives one kernel
    pub same_next : (some_kernel new).0 ≡ next
    same_next = (some_pair_parts (some_kernel new).0 next has.reads reads (sym by_core ∙ by_journal)).0

    module _ (of : Realm) (noted : realm.Notes) (came : Arrival) where
      abbrev w : Watch
      w = watch (booted_of old) of noted kernel

      in_slot : (slot : ℕ) (taken : Taken) → after_decision kernel visit (Takes slot taken) ≡ next
          → IsArrivalIn w visitor.regs.a reads slot taken.call taken.tables came
          → slice_get next.processors visitor.cpu ≡ Some (Inside visitor.regs.a visitor.steps (InSlot slot))
          → (o : Option ThreadSlot) → slice_get next.slots slot ≡ o → IsCarriedFor work.cpu work.call o
          → HasArrivedIn w next visitor reads came work slot
      in_slot slot taken so by inside (Some (Active worker call)) at carried =
          let same : Active visitor.cpu taken.call ≡ Active worker call =
          set_then_read (cancelled_slots kernel.slots taken.cancels) slot (Active visitor.cpu taken.call) (Active worker call)
          (ap (λ (k : Kernel). slice_get k.slots slot) so ∙ at) in
          let its : taken.call ≡ call = cc in
          record {
            inside = inside;
            call = taken.call;
            active = at ∙ ap (λ (held : ThreadSlot). Some held) (sym same);
            carries = subst (λ (c : PendingCall). IsCarriedAs work.call c c.phase) (sym its) carried.1;
            is = subst (λ (tables : Tables). IsArrivalIn w visitor.regs.a reads slot taken.call tables came)
                (ap (λ (k : Kernel). k.tables) so) by;
          }
      in_slot slot taken so by inside None at carried = absurd carried
      in_slot slot taken so by inside (Some Free) at carried = absurd carried
      in_slot slot taken so by inside (Some (Suspended client call)) at carried = absurd carried

      arrived_by : (decision : Decision) → after_decision kernel visit decision ≡ next
          → IsArrivalBy w visitor.regs.a reads came decision → StandsFor new.parts next → IsWorkOf next work
          → HasArrived new.parts w next visitor reads came work
      arrived_by (Answers answer) so by stands fits = record {
        stands = stands;
        errand = Fixed answer;
        inside = inside_so (Answers answer) so;
        arrived = ap (λ (k : Kernel). k.tables) so;
      }
      arrived_by (Takes slot taken) so by stands fits =
          let inside = inside_so (Takes slot taken) so in
          let worked = subst (IsWorkIn next work) (ap (slice_get next.processors) has.cpu ∙ inside) fits in
          record {
            stands = stands;
            errand = InSlot slot;
            inside = inside;
            arrived = in_slot slot taken so by inside (slice_get next.slots slot) refl worked.1;
          }

      module _ (is : IsArrival w visitor.regs.a lane came) where
        by_arrival : over_lane reader lane [] ≡ Some (after_decision kernel visit is.decision, is.reads)
        by_arrival =
            over_lane-then (decision_of (booted_of old) kernel visit.regs (call_of (reg visit.regs 0)))
            (λ decision. done (after_decision kernel visit decision)) lane [] is.reads is.reads is.decision
            (after_decision kernel visit is.decision) is.decides refl

        same_as_decided : (after_decision kernel visit is.decision ≡ next) × (is.reads ≡ reads)
        same_as_decided =
            some_pair_parts (after_decision kernel visit is.decision) next is.reads reads (sym by_arrival ∙ by_journal)

        pub has_arrived : ∥ HasArrived new.parts w next visitor reads came work ∥₁
        has_arrived = ∥∥₁_elim new.replay ∥∥₁_prop (λ (so : Replays new.parts).
            ∥∥₁_map has.fits (λ (fits : IsSomeAnd (kernel_of new) (λ k. IsWorkOf k work)).
            let comes : kernel_of new ≡ Some next = (some_kernel new).1 ∙ ap (λ (k : Kernel). Some k) same_next in
            let same : Some so.kernel ≡ Some next = sym so.comes_to ∙ comes in
            let is_next : so.kernel ≡ next = cc in
            arrived_by is.decision same_as_decided.0
            (subst (λ (rs : List Read). IsArrivalBy w visitor.regs.a rs came is.decision) same_as_decided.1 is.is)
            (subst (StandsFor new.parts) is_next so.stands)
            (subst (λ (o : Option Kernel). IsSomeAnd o (λ k. IsWorkOf k work)) comes fits)))

-- ---- and that it is noted

module _ (old new : Core) (visitor : Visitor) (lane : List ℕ) (reads : List Read) (work : Work) (came : Arrival) (before after : Notes)
    (has : HasEntered old new (coming_of visitor) lane work)
    (done : events_of new ≡ events_of old ++ Entry visitor.cpu visitor.regs visitor.steps reads ∷ []) where
  abbrev event : Event
  event = Entry visitor.cpu visitor.regs visitor.steps reads

  has_read : has.reads ≡ reads
  has_read =
      let both : Entry visitor.cpu visitor.regs visitor.steps has.reads ∷ [] ≡ event ∷ [] =
      append_cancel_left (events_of old) (Entry visitor.cpu visitor.regs visitor.steps has.reads ∷ []) (event ∷ []) (sym has.events ∙ done) in
      cc

  abbrev of : Realm
  of = realm_of before.realm

  abbrev watched : realm.Notes → Kernel → Watch
  watched notes k = watch (booted_of old) of notes k

  -- what it was for the realm, as its notes were
  abbrev Arrives : Type 0
  Arrives = (k : Kernel) (notes : realm.Notes) → StandsFor old.parts k → AreNoted before notes
      → IsArrival (watched notes k) visitor.regs.a lane came

  entry_noted : Arrives
      → ((k next : Kernel) (notes : realm.Notes) (rs : List Read) → HasArrived new.parts (watched notes k) next visitor rs came work
      → AreNoted before notes → AreNoted after (entry_noted_by (watched notes k) next visitor rs))
      → IsNoted old new before after event
  entry_noted arrives comes kernel next notes at then are =
      ∥∥₁_elim old.replay (noted_prop after (realm.event_noted (booted_of old) of kernel next notes event)) (λ (so : Replays old.parts).
      let both : Some so.kernel ≡ Some kernel = sym so.comes_to ∙ at in
      let same : so.kernel ≡ kernel = cc in
      let is = arrives kernel notes (subst (StandsFor old.parts) same so.stands) are in
      ∥∥₁_elim (has_arrived old visitor lane reads kernel next at (goes_on old new event has.boot done kernel next at then)
      (subst (HoldsReads lane) has_read has.from_lane) new work has of notes came is)
      (noted_prop after (realm.event_noted (booted_of old) of kernel next notes event))
      (λ (arrived : HasArrived new.parts (watched notes kernel) next visitor reads came work). comes kernel next notes reads arrived are))

  -- or memory was wanting
  pub entry_noted_then : (result : Result (Unit {0}) NoMemory) → Arrives
      → ((k next : Kernel) (notes : realm.Notes) (rs : List Read) → HasArrived new.parts (watched notes k) next visitor rs came work
      → IsEntryNoted (watched notes k) before after next visitor rs result)
      → IfOk result (λ _. IsNoted old new before after event)
  entry_noted_then (Ok unit) arrives comes = entry_noted arrives comes
  entry_noted_then (Err error) arrives comes = tt
