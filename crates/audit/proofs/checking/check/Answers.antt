-- The events up to each one were done.
use Rattle.std.proofs.Common.{◌≤◌, ◌^◌, Bool, List, sym, subst}
use Rattle.std.specs.Prelude.{Result}
use Rattle.audit_model.specs.Verdicts.{CanBegin, IsIllegalAt}
use Rattle.audit.proofs.Checked.{all_can_begin, done_next, few_with_next, illegal_next, not_next, was_done}
use Rattle.base.specs.declared.no_memory.NoMemory.{NoMemory}
use Rattle.event_journal.specs.Journal.{copied_bytes}
use Rattle.event_journal.specs.declared.event.Event.{Event}
use Rattle.journal_replay.specs.Replaying.{Does}
use Rattle.kernel_model.specs.Application.{booted}
use Rattle.native_tas.specs.Table.{entries}
use Rattle.audit.proofs.checking.check.Goals as goal

pub loop-at-init : goal.loop-at-init
loop-at-init g c = record { booted = c.in_ok-replay.ensures.booted; done = c.in_ok-replay.ensures.fresh }

pub redo-requires : goal.redo-requires
redo-requires g c =
    few_with_next (booted c.args.boot.now (entries c.args.natives.now)) c.as_slice-events.result.now c.loop-at.at c.loop-at.replay c.loop-at.invariant
    c.index-events-at.result c.loop-at-test.true c.index-events-at.is
    (subst (λ (es : List Event). copied_bytes es ≤ 2 ^ 28) (sym c.as_slice-events.ensures) c.requires.few)

pub returns-then-not-can_be : goal.returns-then-not-can_be
returns-then-not-can_be g c =
    let boot = booted c.args.boot.now (entries c.args.natives.now) in
    subst (λ (es : List Event). IsIllegalAt boot es c.loop-at.at) c.as_slice-events.ensures
    (illegal_next boot c.as_slice-events.result.now c.loop-at.at c.loop-at.replay c.loop-at.invariant c.index-events-at.result c.loop-at-test.true
    c.index-events-at.is
    (not_next c.loop-at.replay c.redo.new.self c.index-events-at.result c.in_ok-can_be.can_be c.if-not-can_be.true
    (subst (λ (r : Result Bool NoMemory). Does c.loop-at.replay c.redo.new.self c.index-events-at.result r) c.in_ok-can_be.was c.redo.ensures)))

pub loop-at-preserved : goal.loop-at-preserved
loop-at-preserved g c =
    done_next (booted c.args.boot.now (entries c.args.natives.now)) c.as_slice-events.result.now c.loop-at.at c.loop-at.replay c.loop-at.invariant
    c.index-events-at.result c.loop-at-test.true c.index-events-at.is c.redo.new.self
    (was_done c.loop-at.replay c.redo.new.self c.index-events-at.result c.in_ok-can_be.can_be c.if-not-can_be.false
    (subst (λ (r : Result Bool NoMemory). Does c.loop-at.replay c.redo.new.self c.index-events-at.result r) c.in_ok-can_be.was c.redo.ensures))

pub returns : goal.returns
returns g c =
    let boot = booted c.args.boot.now (entries c.args.natives.now) in
    subst (CanBegin boot) c.as_slice-events.ensures
    (all_can_begin boot c.as_slice-events.result.now c.loop-at.at c.loop-at.replay c.loop-at.invariant c.loop-at-test.false)
