-- What is read is the trace that the input spells.
use Rattle.std.proofs.Common.{ℕ, List, Option, subst, rules}
use Rattle.native_tas.specs.Table.{entries}
use Rattle.alone_runner.specs.Content.{IsSoundContent}
use Rattle.trace_player.specs.Starting.{uuids_of}
use Rattle.trace_text.specs.Sound.{IsSound}
use Rattle.word_parts.specs.Faults.{TellsFaults}
use Rattle.trace_runner.specs.Threads.{IsServedByThreads}
use Rattle.trace_runner.proofs.OnThreads.{threads-served, threads-unserved}
use Rattle.trace_runner.proofs.threads.run_on_threads.Goals as goal

pub answer_trace-requires : goal.answer_trace-requires
answer_trace-requires g c =
    let uuids = uuids_of (entries c.args.natives.now) in
    let sound : IsSound uuids c.in-Ok-Trace.trace =
    subst (IsSoundContent uuids) c.in-Ok-Trace.field-0-is c.in-Ok-Trace.ensures.read.2.sound in
    search rules

pub returns-in-Ok-Trace-clause-told : goal.returns-in-Ok-Trace-clause-told
returns-in-Ok-Trace-clause-told g c =
    let natives = entries c.args.natives.now in
    let read = c.in-Ok-Trace.ensures.read in
    let result = c.answer_trace.result in
    let new = g.K.Sink.held c.answer_trace.new.out in
    threads-served natives _ _ read.0 _ c.in-Ok-Trace.trace result _ new read.1 read.2 c.in-Ok-Trace.field-0-is
    (subst (λ (old : Option (List ℕ)). IsServedByThreads natives c.in-Ok-Trace.trace result old new)
    c.in-Ok-Trace.ensures.unwritten.0 c.answer_trace.ensures.served)

pub returns-in-Ok-Trace-clause-faults : goal.returns-in-Ok-Trace-clause-faults
returns-in-Ok-Trace-clause-faults g c =
    subst (λ (old : ℕ). TellsFaults c.answer_trace.result old (g.K.Sink.faults c.answer_trace.new.out))
    c.in-Ok-Trace.ensures.unwritten.1 c.answer_trace.ensures.faults

pub returns-in-Err-clause-told : goal.returns-in-Err-clause-told
returns-in-Err-clause-told g c =
    threads-unserved (entries c.args.natives.now) _ _ c.in-Err.status _ _ c.in-Err.ensures.unserved
