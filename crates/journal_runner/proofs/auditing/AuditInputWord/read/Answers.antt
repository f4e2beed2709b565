-- What is read is the journal that the bytes spell, with nothing behind it.
use Rattle.std.proofs.Common.{◌∙◌}
use Rattle.native_tas.specs.Table.{entries}
use Rattle.trace_player.specs.Starting.{uuids_of}
use Rattle.journal_runner.proofs.Audited.{was_read, was_refused}
use Rattle.journal_runner.proofs.auditing.AuditInputWord.read.Goals as goal

pub returns-clause-read : goal.returns-clause-read
returns-clause-read g c =
    was_read (uuids_of (entries c.args.natives.now)) c.as_slice.result.now c.args.input.now c.read_alone.result
    (c.as_slice.ensures.value ∙ c.uuids.ensures.order) c.read_alone.ensures.found c.read_alone.ensures.limits

pub returns-clause-bad : goal.returns-clause-bad
returns-clause-bad g c =
    was_refused (entries c.args.natives.now) c.as_slice.result.now c.args.input.now c.read_alone.result
    (c.as_slice.ensures.value ∙ c.uuids.ensures.order) c.read_alone.ensures.bad
