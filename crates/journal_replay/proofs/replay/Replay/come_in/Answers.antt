-- A visitor that can come in is prepared, and let in.
use Rattle.std.proofs.Common.{◌≤◌, ◌^◌, [], ◌∷◌, ◌++◌, subst, sym}
use Rattle.std.specs.Prelude.{Ok, false}
use Rattle.core_at_work.specs.declared.core_at_work.CoreAtWork.{CoreAtWork}
use Rattle.event_journal.specs.Journal.{copied_bytes}
use Rattle.journal_replay.proofs.Entered.{can_enter, can_still_enter, done_so, entry_of}
use Rattle.journal_replay.proofs.Next.{does_still}
use Rattle.journal_replay.specs.Replaying.{CanBeNext, HasPrepared}
use Rattle.kernel_state.specs.Meaning.{events_of}
use Rattle.journal_replay.proofs.replay.Replay.come_in.Goals as goal

pub returns-then-not-lay_for : goal.returns-then-not-lay_for
returns-then-not-lay_for c can =
    let may = c.lay_for.ensures.can.1 (can_enter c.args.self.now c.args.visitor c.args.reads.now can) in
    absurd cc

pub prepare-requires-clause-laid : goal.prepare-requires-clause-laid
prepare-requires-clause-laid c = c.lay_for.ensures.laid c.if-not-lay_for.false

pub prepare-requires-clause-few : goal.prepare-requires-clause-few
prepare-requires-clause-few c =
    subst (λ (at_work : CoreAtWork). copied_bytes (events_of at_work.core ++ entry_of c.args.visitor c.args.reads.now ∷ []) ≤ 2 ^ 28)
    (sym c.lay_for.ensures.stays) c.requires

pub admit-requires-clause-can : goal.admit-requires-clause-can
admit-requires-clause-can c =
    can_still_enter c.args.self.now c.lay_for.new.self c.prepare.new.self c.args.visitor
    c.lay_for.ensures.stays c.prepare.ensures.room (c.lay_for.ensures.can.0 c.if-not-lay_for.false)

pub admit-requires-clause-prepared : goal.admit-requires-clause-prepared
admit-requires-clause-prepared c =
    let laid = c.lay_for.new.self in
    let has : HasPrepared c.prepare.new.self c.args.visitor c.args.reads.now c.in-Some.prepared = rw c.in-Some.is at c.in_ok-ready.ensures.prepares in
    record { lane = c.prepare.new.self.lane; is = has.is }

pub returns-in-Some : goal.returns-in-Some
returns-in-Some c =
    done_so c.args.self.now c.lay_for.new.self c.prepare.new.self c.admit.new.self c.args.visitor c.args.reads.now c.in-Some.prepared
    c.lay_for.ensures.stays c.prepare.ensures.room (rw c.in-Some.is at c.in_ok-ready.ensures.prepares) c.admit.ensures.done

pub returns-in-None : goal.returns-in-None
returns-in-None c =
    let event = entry_of c.args.visitor c.args.reads.now in
    let cannot : CanBeNext c.lay_for.new.self event → ⊥ = rw c.in-None.is at c.in_ok-ready.ensures.prepares in
    does_still c.args.self.now c.lay_for.new.self c.prepare.new.self event (Ok false) c.lay_for.ensures.stays cannot
