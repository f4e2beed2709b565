-- What is read are the two journals that the bytes spell.
use Rattle.std.proofs.Common.{◌∙◌}
use Rattle.native_tas.specs.Table.{entries}
use Rattle.trace_player.specs.Starting.{uuids_of}
use Rattle.journal_runner.proofs.Comparisons.{was_read, was_refused}
use Rattle.journal_runner.proofs.comparing.CompareInputWord.read.Goals as goal

pub returns-clause-read : goal.returns-clause-read
returns-clause-read g c =
    was_read (uuids_of (entries c.args.natives.now)) c.as_slice.result.now c.args.input.now c.read_pair.result
    (c.as_slice.ensures.value ∙ c.uuids.ensures.order) c.read_pair.ensures.found c.read_pair.ensures.limits

pub returns-clause-bad : goal.returns-clause-bad
returns-clause-bad g c =
    was_refused (entries c.args.natives.now) c.args.self.subject c.as_slice.result.now c.args.input.now c.read_pair.result
    (c.as_slice.ensures.value ∙ c.uuids.ensures.order) c.read_pair.ensures.bad
