-- What was decided makes it this.
use Rattle.std.proofs.Common.{◌≡◌, ℕ, List, subst, sym}
use Rattle.std.specs.Global.{Box}
use Rattle.std.specs.Prelude.{IfOk, Result, Ok, Err}
use Rattle.base.specs.declared.no_memory.NoMemory.{NoMemory}
use Rattle.kernel_entry.specs.Deciding.{CanBegin, CanContinue}
use Rattle.kernel_entry.specs.Entering.{IsPrepared}
use Rattle.kernel_entry.specs.declared.deciding.EntryDecision.TheVariants.{Begins}
use Rattle.kernel_entry.specs.declared.deciding.PlannedCall.{PlannedCall}
use Rattle.kernel_entry.specs.declared.preparing.Prepared.{Prepared}
use Rattle.kernel_state.specs.Meaning.{booted_of}
use Rattle.kernel_state.specs.declared.kernel_core.Core.{Core}
use Rattle.realm_model.specs.Reading.{Notes as NotedOf}
use Rattle.realm_model.specs.Realm.{Realm}
use Rattle.realm_notes.proofs.Arrivals.{arrives, back_by, begun_by}
use Rattle.realm_notes.specs.Arriving.{IsArrival, arrival_as, watch}
use Rattle.realm_notes.specs.Calls.{planned_call}
use Rattle.realm_notes.specs.Meaning.{IsArrivalOn}
use Rattle.realm_notes.specs.Noted.{AreNoted}
use Rattle.realm_notes.specs.Realms.{realm_of}
use Rattle.realm_notes.specs.declared.arriving.Arrival.{Arrival}
use Rattle.realm_notes.specs.declared.arriving.Arrival.TheVariants as arrival
use Rattle.realm_notes.specs.declared.notes.Notes.{Notes}
use Rattle.realm_notes.proofs.arriving.arrival_on.Goals as goal

pub returns-in-Answers : goal.returns-in-Answers
returns-in-Answers c lane is kernel noted stands are =
    arrives c.args.core.now.parts (realm_of c.args.notes.now.realm) noted kernel c.args.regs.now.a lane c.args.prepared.now arrival.Nothing
    is stands (rw c.in-Answers.is tt)

-- a new call, whatever was noted before it
module _ (code : Notes) (core : Core) (regs lane : List ℕ) (prepared : Prepared) (boxed : Box PlannedCall)
    (is : IsPrepared core.parts regs lane prepared) (at : prepared.decision ≡ Begins boxed) where
  abbrev planned : PlannedCall
  planned = boxed.value

  abbrev of : Realm
  of = realm_of code.realm

  abbrev arrival_then : NotedOf → Arrival
  arrival_then noted = arrival_as of noted planned.entered.head.session (planned_call planned)

  begun_so : CanBegin core.parts planned.entered planned.plan → (result : Result Arrival NoMemory)
      → ((noted : NotedOf) → AreNoted code noted → IfOk result (λ came. came ≡ arrival_then noted))
      → IfOk result (IsArrivalOn code core regs lane)
  begun_so begins (Err error) made = tt
  begun_so begins (Ok came) made = λ kernel noted stands are.
      subst (IsArrival (watch (booted_of core) of noted kernel) regs lane) (sym (made noted are))
      (arrives core.parts of noted kernel regs lane prepared (arrival_then noted) is stands
      (rw at (begun_by core.parts (watch (booted_of core) of noted kernel) regs prepared.reads planned begins stands)))

pub returns-in-Begins : goal.returns-in-Begins
returns-in-Begins c lane is =
    let boxed = c.in-Begins.planned in
    begun_so c.args.notes.now c.args.core.now c.args.regs.now.a lane c.args.prepared.now boxed is c.in-Begins.is
    (rw c.in-Begins.is at is.found) c.new_arrival.result
    (subst (λ (call : PlannedCall). (noted : NotedOf) → AreNoted c.args.notes.now noted → IfOk c.new_arrival.result (λ came.
    came ≡ arrival_as (realm_of c.args.notes.now.realm) noted call.entered.head.session (planned_call call))) c.deref.ensures c.new_arrival.ensures)

pub resumed_in-requires : goal.resumed_in-requires
resumed_in-requires c =
    let found : CanContinue c.args.core.now.parts c.args.regs.now.a c.in-GoesOn.decided = rw c.in-GoesOn.is at c.requires.is.found in
    found.suspended

pub returns-in_ok-resumed-in-GoesOn : goal.returns-in_ok-resumed-in-GoesOn
returns-in_ok-resumed-in-GoesOn c lane is kernel noted stands are =
    let parts = c.args.core.now.parts in
    let realm = realm_of c.args.notes.now.realm in
    let regs = c.args.regs.now.a in
    let prepared = c.args.prepared.now in
    rw c.in_ok-resumed-in-GoesOn.ensures
    (arrives parts realm noted kernel regs lane prepared (arrival.Back c.in_ok-came-in-GoesOn.came) is stands
    (rw c.in-GoesOn.is
    (back_by parts realm noted kernel regs lane prepared.reads c.in-GoesOn.decided c.in_ok-came-in-GoesOn.came stands
    (rw c.in-GoesOn.is at is.given kernel stands) c.in_ok-came-in-GoesOn.ensures.back c.in_ok-came-in-GoesOn.ensures.room)))
