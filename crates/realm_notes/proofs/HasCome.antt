-- What is noted of an entry, by what has come in.
use Rattle.std.proofs.Common.{◌≡◌, ℕ, Bool, true, false, List, Option, Some, None, refl, ap, sym, subst, ◌∙◌}
use Rattle.std.proofs.lemmas.Option.{slice_get-map}
use Rattle.std.specs.Prelude.{if◌then◌else◌, slice_get}
use Rattle.std.specs.Option.{option_map, option_map_or}
use Rattle.base.specs.NumberMap.{get}
use Rattle.kernel_entry.specs.Visiting.{coming_of}
use Rattle.kernel_entry.specs.declared.visitor.Visitor.{Visitor}
use Rattle.kernel_model.specs.Kernel.{CallPhase, Runs, Asks, Waits, Ends, Kernel, PendingCall}
use Rattle.kernel_model.specs.Kernel as model
use Rattle.kernel_state.specs.Entering.{visit_of}
use Rattle.kernel_state.specs.Processors.{errand_of, processor_of}
use Rattle.kernel_state.specs.StandsFor.{StandsFor}
use Rattle.kernel_state.specs.Tables.{tables_of}
use Rattle.kernel_state.specs.Work.{IsCarriedAs}
use Rattle.kernel_state.specs.declared.carried.Carried.{Carried}
use Rattle.kernel_state.specs.declared.carried.Carried.TheVariants.{Nothing, Resting, Running}
use Rattle.kernel_state.specs.declared.parts.Parts.{Parts}
use Rattle.kernel_state.specs.declared.processor.Errand.{Errand}
use Rattle.kernel_state.specs.declared.processor.Errand.TheVariants as errand
use Rattle.kernel_state.specs.declared.processor.Processor.{Processor}
use Rattle.kernel_state.specs.declared.processor.Processor.TheVariants.{Outside, Inside}
use Rattle.kernel_state.specs.declared.work.Work.{Work}
use Rattle.ns_ram.specs.declared.read.Read.{Read}
use Rattle.own_model.specs.Own.{Entering}
use Rattle.realm_model.specs.Reading.{Notes, fixed_noted, resume_noted}
use Rattle.realm_model.specs.Realm.{client_of}
use Rattle.realm_notes.proofs.Arrived.{noted_entered, noted_nothing, noted_uncounted, resumed_so}
use Rattle.realm_notes.proofs.Decided.{noted_answered, noted_back, noted_new, visit, watched}
use Rattle.realm_notes.specs.Arriving.{Watch}
use Rattle.realm_notes.specs.Noted.{has_entered, session_of, with_away, with_resumed}
use Rattle.realm_notes.specs.Realms.{counts, is_away_for}
use Rattle.realm_notes.specs.Replaying.{HasArrived, HasArrivedFor, HasArrivedIn, entry_noted_by, errand_at}
use Rattle.realm_notes.specs.declared.arriving.Arrival.{Arrival}
use Rattle.realm_notes.specs.declared.arriving.Arrival.TheVariants as arrival
use Rattle.realm_notes.specs.declared.arriving.NewEvent.{NewEvent}
use Rattle.realm_notes.specs.declared.arriving.Resumed.{Resumed}
use Rattle.smc_abi.specs.declared.answer.Answer.{Answer}

-- ---- what a processor came for

inside_so : (found : Option Processor) (errand : Errand) (regs : List ℕ) (steps : ℕ) (now : model.Errand)
    → errand_at found ≡ Some errand → option_map processor_of found ≡ Some (model.Inside regs steps now)
    → errand_of errand ≡ now
inside_so None errand regs steps now at is = absurd cc
inside_so (Some Outside) errand regs steps now at is = absurd cc
inside_so (Some (Inside came granted for)) errand regs steps now at is =
    let same : for ≡ errand = cc in
    let its : errand_of for ≡ now = cc in
    ap errand_of (sym same) ∙ its

-- the parts know what it came for
pub errand_so : (parts : Parts) (k : Kernel) (cpu : ℕ) (errand : Errand) (regs : List ℕ) (steps : ℕ) (now : model.Errand)
    → StandsFor parts k → errand_at (slice_get parts.processors.items cpu) ≡ Some errand
    → slice_get k.processors cpu ≡ Some (model.Inside regs steps now) → errand_of errand ≡ now
errand_so parts k cpu errand regs steps now stands at is =
    inside_so (slice_get parts.processors.items cpu) errand regs steps now at
    (sym (slice_get-map processor_of parts.processors.items cpu)
    ∙ ap (λ (ps : List model.Processor). slice_get ps cpu) stands.processors ∙ is)

-- ---- an answer that was fixed

module _ (e : Entering) (notes : Notes) (answer : Answer) where
  pub turned_away : (client : Option ℕ) → is_away_for e.kernel e.visit.regs answer client ≡ true
      → with_away notes e.visit.cpu ≡ fixed_noted e notes answer client
  turned_away None is = absurd cc
  turned_away (Some session) is = sym (ap (λ (b : Bool). if b then with_away notes e.visit.cpu else notes) is)

  pub not_turned_away : (client : Option ℕ) → is_away_for e.kernel e.visit.regs answer client ≡ false
      → notes ≡ fixed_noted e notes answer client
  not_turned_away None is = refl
  not_turned_away (Some session) is = sym (ap (λ (b : Bool). if b then with_away notes e.visit.cpu else notes) is)

-- ---- a call

-- the session of the call that a processor carries is the kernel's
session_so : (carried : Carried) (call : PendingCall) (phase : CallPhase) → IsCarriedAs carried call phase → session_of carried ≡ call.session
session_so (Running cont) call (Runs job) is = is.session
session_so (Resting cont) call (Asks job wanted payload) is = is.session
session_so (Resting cont) call (Waits params) is = is.session
session_so (Resting cont) call (Ends result params told wakes) is = is.session
session_so Nothing call (Runs job) is = absurd is
session_so Nothing call (Asks job wanted payload) is = absurd is
session_so Nothing call (Waits params) is = absurd is
session_so Nothing call (Ends result params told wakes) is = absurd is
session_so (Resting cont) call (Runs job) is = absurd is
session_so (Running cont) call (Asks job wanted payload) is = absurd is
session_so (Running cont) call (Waits params) is = absurd is
session_so (Running cont) call (Ends result params told wakes) is = absurd is

module _ (w : Watch) (next : Kernel) (visitor : Visitor) (reads : List Read) (work : Work) (slot : ℕ) where
  abbrev entry_noted : Notes
  entry_noted = entry_noted_by w next visitor reads

  -- a new one, of the realm
  pub new_entered : (came : NewEvent) → HasArrivedIn w next visitor reads (arrival.New came) work slot
      → counts w.realm work.call ≡ true → has_entered w.noted slot (session_of work.call) came ≡ entry_noted
  new_entered came has so =
      ap (λ (n : ℕ). has_entered w.noted slot n came) (session_so work.call has.call has.call.phase has.carries)
      ∙ sym (noted_new w next visitor.cpu visitor.steps visitor.regs reads slot has.call has.inside has.is.free has.active
      ∙ noted_entered w slot next.tables has.call work.call has.carries came has.is so)

  -- of another
  pub new_of_other : (came : NewEvent) → HasArrivedIn w next visitor reads (arrival.New came) work slot
      → counts w.realm work.call ≡ false → w.noted ≡ entry_noted
  new_of_other came has so =
      sym (noted_new w next visitor.cpu visitor.steps visitor.regs reads slot has.call has.inside has.is.free has.active
      ∙ noted_uncounted w slot next.tables has.call work.call has.carries came has.is so)

  -- of none
  pub new_of_none : HasArrivedIn w next visitor reads arrival.Nothing work slot → w.noted ≡ entry_noted
  new_of_none has =
      sym (noted_new w next visitor.cpu visitor.steps visitor.regs reads slot has.call has.inside has.is.free has.active
      ∙ noted_nothing w slot next.tables has.call has.is)

  module _ (came : Resumed) (has : HasArrivedIn w next visitor reads (arrival.Back came) work slot) where
    comes_back : (number : Option ℕ) → get w.noted.numbering.in_slots slot ≡ number
        → entry_noted ≡ option_map_or (resume_noted (watched w next visitor.cpu visitor.steps visitor.regs reads) slot
        has.is.back.before has.call w.noted) number w.noted
    comes_back number got =
        noted_back w next visitor.cpu visitor.steps visitor.regs reads slot has.is.back.client has.is.back.before has.call
        has.inside has.is.back.held has.active
        ∙ ap (λ (o : Option ℕ). option_map_or (resume_noted (watched w next visitor.cpu visitor.steps visitor.regs reads) slot
        has.is.back.before has.call w.noted) o w.noted) got

    -- the realm's call of this number comes back
    pub back_of_own : (number : ℕ) → get w.noted.numbering.in_slots slot ≡ Some number
        → with_resumed w.noted number came ≡ entry_noted
    back_of_own number got =
        sym (comes_back (Some number) got
        ∙ resumed_so w next (visit w next visitor.cpu visitor.steps visitor.regs reads) reads w.noted number slot has.call came has.is)

    -- one of another
    pub back_of_other : get w.noted.numbering.in_slots slot ≡ None → w.noted ≡ entry_noted
    back_of_other got = sym (comes_back None got)

-- ---- both

module _ (parts : Parts) (w : Watch) (next : Kernel) (visitor : Visitor) (reads : List Read) (came : Arrival) (work : Work)
    (has : HasArrived parts w next visitor reads came work) where
  -- one whose answer was fixed
  pub answered_so : (answer : Answer) → errand_at (slice_get parts.processors.items visitor.cpu) ≡ Some (errand.Fixed answer)
      → fixed_noted (record { kernel = w.kernel; next = next; visit = visit_of (coming_of visitor); reads = reads }) w.noted answer
      (client_of w.realm) ≡ entry_noted_by w next visitor reads
  answered_so answer at =
      let same = errand_so parts next visitor.cpu (errand.Fixed answer) visitor.regs.a visitor.steps has.errand has.stands at
      has.inside in
      sym (noted_answered w next visitor.cpu visitor.steps visitor.regs reads answer
      (has.inside ∙ ap (λ (e : model.Errand). Some (model.Inside visitor.regs.a visitor.steps e)) (sym same)))

  pub same_tables : (answer : Answer) → errand_at (slice_get parts.processors.items visitor.cpu) ≡ Some (errand.Fixed answer)
      → tables_of parts.tables ≡ w.kernel.tables
  same_tables answer at =
      let same = errand_so parts next visitor.cpu (errand.Fixed answer) visitor.regs.a visitor.steps has.errand has.stands at
      has.inside in
      has.stands.tables
      ∙ sym (subst (HasArrivedFor w next visitor reads came work) (sym same) has.arrived)

  -- one that has come in for the call of a slot
  pub arrived_in : (slot : ℕ) → errand_at (slice_get parts.processors.items visitor.cpu) ≡ Some (errand.InSlot slot)
      → HasArrivedIn w next visitor reads came work slot
  arrived_in slot at =
      let same = errand_so parts next visitor.cpu (errand.InSlot slot) visitor.regs.a visitor.steps has.errand has.stands at
      has.inside in
      subst (HasArrivedFor w next visitor reads came work) (sym same) has.arrived
