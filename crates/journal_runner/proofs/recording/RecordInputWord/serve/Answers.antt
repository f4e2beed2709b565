-- What is written is the journal of the trace, of its boot, its fills and its items.
use Rattle.std.proofs.Common.{subst, sym}
use Rattle.native_tas.specs.Table.{entries}
use Rattle.trace_player.proofs.Playable.{same-trace}
use Rattle.trace_player.specs.Starting.{trace_of, uuids_of}
use Rattle.trace_text.specs.Sound.{IsSound}
use Rattle.word_parts.proofs.Serving.{few-items, many-items}
use Rattle.journal_runner.proofs.Recordings.{answered_booted, answered_many, answered_unbooted}
use Rattle.journal_runner.proofs.recording.RecordInputWord.serve.Goals as goal

pub record_booted-requires : goal.record_booted-requires
record_booted-requires g c =
    subst (IsSound (uuids_of (entries c.args.natives.now)))
    (sym (same-trace c.args.trace c.in-Some.boot _ _ c.in-Some.is c.as_slice-in-Some.ensures c.as_slice-in-Some-2.ensures)) c.requires.1.sound

pub returns-then-has_too_many-clause-answered : goal.returns-then-has_too_many-clause-answered
returns-then-has_too_many-clause-answered g c = λ input read.
    answered_many (entries c.args.natives.now) input c.args.trace (g.K.Sink.held c.args.out.now) read.spelled read.boots
    (many-items c.args.trace.items c.as_slice.result.now c.has_too_many.result c.as_slice.ensures c.has_too_many.ensures
    c.if-has_too_many.true)

pub returns-in-Some-clause-answered : goal.returns-in-Some-clause-answered
returns-in-Some-clause-answered g c = λ input read.
    answered_booted (entries c.args.natives.now) input c.args.trace
    (trace_of c.in-Some.boot c.as_slice-in-Some.result.now c.as_slice-in-Some-2.result.now) _ _ _
    (same-trace c.args.trace c.in-Some.boot _ _ c.in-Some.is c.as_slice-in-Some.ensures c.as_slice-in-Some-2.ensures) read.spelled read.boots
    (few-items c.args.trace.items c.as_slice.result.now c.has_too_many.result c.as_slice.ensures c.has_too_many.ensures
    c.if-has_too_many.false)
    c.record_booted.ensures.done c.record_booted.ensures.spelled

pub returns-clause-answered : goal.returns-clause-answered
returns-clause-answered g c = λ input read.
    answered_unbooted (entries c.args.natives.now) input c.args.trace (g.K.Sink.held c.args.out.now) read.spelled read.boots
    (few-items c.args.trace.items c.as_slice.result.now c.has_too_many.result c.as_slice.ensures c.has_too_many.ensures
    c.if-has_too_many.false)
    c.in-None.is
