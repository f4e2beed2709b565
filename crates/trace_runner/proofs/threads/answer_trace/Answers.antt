-- What is written of a trace is its blocks, or nothing where it has no boot.
use Rattle.std.proofs.Common.{List, ℕ, refl, subst}
use Rattle.native_tas.specs.Table.{entries}
use Rattle.ports.specs.PortLaws.{Appends-nil}
use Rattle.trace_player.specs.Starting.{trace_of, uuids_of}
use Rattle.trace_runner.specs.Threads.{status_where}
use Rattle.word_parts.proofs.Serving.{few-items}
use Rattle.word_parts.specs.Answer.{Writes}
use Rattle.word_parts.specs.declared.status.Status.{Status}
use Rattle.trace_runner.proofs.OnThreads.{served-none, served-some}
use Rattle.trace_player.proofs.Playable.{same-trace}
use Rattle.trace_runner.proofs.threads.answer_trace.Goals as goal

pub returns-in_default-clause-served : goal.returns-in_default-clause-served
returns-in_default-clause-served g c =
    served-none (entries c.args.natives.now) c.args.trace (uuids_of (entries c.args.natives.now))
    (g.K.Sink.held c.args.out.now) (g.K.Sink.held c.args.out.now) c.requires c.in_default.is
    (few-items c.args.trace.items c.as_slice.result.now c.has_too_many.result c.as_slice.ensures c.has_too_many.ensures
    c.if-has_too_many.false)
    (Appends-nil (g.K.Sink.held c.args.out.now))

pub returns-in-Ok-clause-served : goal.returns-in-Ok-clause-served
returns-in-Ok-clause-served g c =
    let boot = c.in-Some.boot in
    let blocks = c.in-Ok.blocks in
    let old = g.K.Sink.held c.args.out.now in
    let new = g.K.Sink.held c.answer_line.new.out in
    let result = c.answer_line.result in
    served-some (entries c.args.natives.now) c.args.trace
    (trace_of boot c.as_slice-2.result.now c.as_slice-3.result.now) boot blocks.text.items blocks.refused result old new
    (same-trace c.args.trace boot c.as_slice-2.result.now c.as_slice-3.result.now c.in-Some.is c.as_slice-2.ensures
    c.as_slice-3.ensures)
    refl
    (few-items c.args.trace.items c.as_slice.result.now c.has_too_many.result c.as_slice.ensures c.has_too_many.ensures
    c.if-has_too_many.false)
    c.in-Ok.ensures
    (subst (λ (text : List ℕ). Writes (status_where blocks.refused) text result old new) c.as_slice-in-Ok.ensures.value
    (subst (λ (status : Status). Writes status c.as_slice-in-Ok.result.now result old new) c.status_where.ensures.named
    c.answer_line.ensures.line))
