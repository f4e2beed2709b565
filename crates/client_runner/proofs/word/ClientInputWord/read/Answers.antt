-- What is read is what the bytes spell, and can be played.
use Rattle.std.proofs.Common.{sym, subst, ◌∙◌}
use Rattle.native_tas.specs.Table.{entries}
use Rattle.trace_player.proofs.Booting.{AreApart}
use Rattle.client_runner.proofs.Answering.{was_read, was_refused}
use Rattle.client_runner.proofs.word.ClientInputWord.read.Goals as goal

pub returns-clause-read : goal.returns-clause-read
returns-clause-read g c =
    was_read (entries c.args.natives.now) c.as_slice.result.now c.args.input.now c.read_script.result
    (c.as_slice.ensures.value ∙ c.uuids.ensures.order) c.as_slice.ensures.fits
    (subst AreApart (sym c.as_slice.ensures.value) c.uuids.ensures.apart) c.read_script.ensures.found c.read_script.ensures.sound

pub returns-clause-bad : goal.returns-clause-bad
returns-clause-bad g c =
    was_refused (entries c.args.natives.now) c.as_slice.result.now c.args.input.now c.read_script.result
    (c.as_slice.ensures.value ∙ c.uuids.ensures.order) c.read_script.ensures.bad
