use Rattle.std.proofs.Common.{List, ℕ, inr, subst}
use Rattle.native_tas.specs.Table.{entries}
use Rattle.trace_player.specs.Refused.{refused_in}
use Rattle.trace_player.specs.Starting.{trace_of}
use Rattle.word_parts.specs.Answer.{Writes}
use Rattle.journal_runner.proofs.Journaled.{done_with, play_never_fails, play_not_usage}
use Rattle.journal_runner.proofs.recording.record_booted.Goals as goal

pub returns-in-Ok-clause-done : goal.returns-in-Ok-clause-done
returns-in-Ok-clause-done g c =
    let recorded = c.in-Ok.recorded in
    done_with (entries c.args.natives.now) (trace_of c.args.boot c.args.fills.now c.args.items.now) recorded.status _
    recorded.bytes.items _ _ c.in-Ok.ensures.bytes c.in-Ok.ensures.status
    (subst (λ (line : List ℕ). Writes recorded.status line c.answer_line.result (g.K.Sink.held c.args.out.now)
    (g.K.Sink.held c.answer_line.new.out)) c.as_slice.ensures.value c.answer_line.ensures.line)

pub returns-in-Ok-clause-spelled : goal.returns-in-Ok-clause-spelled
returns-in-Ok-clause-spelled g c = inr (inr c.in-Ok.ensures.spelled)

pub returns-in-Ok-clause-faults : goal.returns-in-Ok-clause-faults
returns-in-Ok-clause-faults g c =
    let refused = refused_in (entries c.args.natives.now) (trace_of c.args.boot c.args.fills.now c.args.items.now) in
    let status = c.in-Ok.recorded.status in
    c.answer_line.ensures.faults (play_not_usage refused status c.in-Ok.ensures.status)
    (play_never_fails refused status c.in-Ok.ensures.status)
