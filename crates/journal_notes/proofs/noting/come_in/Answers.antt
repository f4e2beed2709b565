-- A visitor that can come in is prepared, and let in.
use Rattle.std.proofs.Common.{◌≤◌, ◌^◌, List, [], ◌∷◌, ◌++◌, subst, sym}
use Rattle.std.specs.Prelude.{Ok, false}
use Rattle.journal_replay.proofs.Kept.{with_room}
use Rattle.journal_replay.specs.CoreAtWork.{CoreAtWork}
use Rattle.event_journal.specs.Journal.{copied_bytes}
use Rattle.journal_notes.proofs.ReadOn.{kept_before}
use Rattle.journal_notes.specs.Meaning.{IsNoted}
use Rattle.journal_replay.proofs.Entered.{can_enter, can_still_enter, done_so, entry_of}
use Rattle.journal_replay.proofs.Next.{does_still}
use Rattle.journal_replay.specs.Replaying.{CanBeNext, HasPrepared}
use Rattle.kernel_state.specs.Entering.{IsAsBefore}
use Rattle.kernel_state.specs.Meaning.{events_of}
use Rattle.ns_ram.specs.declared.read.Read.{Read}
use Rattle.journal_notes.proofs.noting.come_in.Goals as goal

pub returns-then-not-lay_for-clause-does : goal.returns-then-not-lay_for-clause-does
returns-then-not-lay_for-clause-does g c can =
    let may = c.lay_for.ensures.can.1 (can_enter c.args.replay.now c.args.visitor c.args.reads.now can) in
    absurd cc

pub prepare-requires-clause-laid : goal.prepare-requires-clause-laid
prepare-requires-clause-laid g c = c.lay_for.ensures.laid c.if-not-lay_for.false

pub prepare-requires-clause-few : goal.prepare-requires-clause-few
prepare-requires-clause-few g c =
    subst (λ (at_work : CoreAtWork). copied_bytes (events_of at_work.core ++ entry_of c.args.visitor c.args.reads.now ∷ []) ≤ 2 ^ 28)
    (sym c.lay_for.ensures.stays) c.requires.few

pub admit-requires-clause-can : goal.admit-requires-clause-can
admit-requires-clause-can g c =
    can_still_enter c.args.replay.now c.lay_for.new.self c.prepare.new.self c.args.visitor
    c.lay_for.ensures.stays c.prepare.ensures.room (c.lay_for.ensures.can.0 c.if-not-lay_for.false)

pub admit-requires-clause-prepared : goal.admit-requires-clause-prepared
admit-requires-clause-prepared g c =
    let laid = c.lay_for.new.self in
    let has : HasPrepared c.prepare.new.self c.args.visitor c.args.reads.now c.in-Some.prepared = rw c.in-Some.is at c.in_ok-ready.ensures.prepares in
    record { lane = c.prepare.new.self.lane; is = has.is }

pub admit-requires-clause-kept : goal.admit-requires-clause-kept
admit-requires-clause-kept g c =
    kept_before g.N.EventNotes.meaning c.args.replay.now c.args.notes.now (entry_of c.args.visitor c.args.reads.now) c.requires.on c.requires.few

pub returns-in_ok-admit-in-Some-clause-does : goal.returns-in_ok-admit-in-Some-clause-does
returns-in_ok-admit-in-Some-clause-does g c =
    done_so c.args.replay.now c.lay_for.new.self c.prepare.new.self c.admit.new.replay c.args.visitor c.args.reads.now c.in-Some.prepared
    c.lay_for.ensures.stays c.prepare.ensures.room (rw c.in-Some.is at c.in_ok-ready.ensures.prepares) c.in_ok-admit-in-Some.ensures.done

pub returns-in_ok-admit-in-Some-clause-noted : goal.returns-in_ok-admit-in-Some-clause-noted
returns-in_ok-admit-in-Some-clause-noted g c ok =
    let laid = c.lay_for.new.self in
    let mid = c.prepare.new.self in
    let has : HasPrepared mid c.args.visitor c.args.reads.now c.in-Some.prepared = rw c.in-Some.is at c.in_ok-ready.ensures.prepares in
    record {
      mid = mid.at_work.core;
      room = subst (λ (at_work : CoreAtWork). IsAsBefore at_work.core mid.at_work.core) c.lay_for.ensures.stays
          (with_room laid.at_work.core mid.at_work.core c.prepare.ensures.room);
      noted = subst (λ (reads : List Read).
          IsNoted g.N.EventNotes.meaning mid.at_work.core c.admit.new.replay.at_work.core c.args.notes.now c.admit.new.notes (entry_of c.args.visitor reads))
          has.reads_so c.in_ok-admit-in-Some.ensures.noted;
    }

pub returns-in-None-clause-does : goal.returns-in-None-clause-does
returns-in-None-clause-does g c =
    let event = entry_of c.args.visitor c.args.reads.now in
    let cannot : CanBeNext c.lay_for.new.self event → ⊥ = rw c.in-None.is at c.in_ok-ready.ensures.prepares in
    does_still c.args.replay.now c.lay_for.new.self c.prepare.new.self event (Ok false) c.lay_for.ensures.stays cannot
