-- What is read is what the bytes spell, and can be played.
use Rattle.std.proofs.Common.{sym, subst, ◌∙◌}
use Rattle.native_tas.specs.Table.{entries}
use Rattle.trace_player.proofs.Booting.{AreApart}
use Rattle.alone_runner.proofs.Apart.{was_read, was_refused}
use Rattle.alone_runner.proofs.serving.ServeInputWord.read.Goals as goal

pub returns-clause-read : goal.returns-clause-read
returns-clause-read g c =
    was_read c.args.self.grammar (entries c.args.natives.now) c.as_slice.result.now c.args.input.now c.read_content.result
    (c.as_slice.ensures.value ∙ c.uuids.ensures.order) c.as_slice.ensures.fits
    (subst AreApart (sym c.as_slice.ensures.value) c.uuids.ensures.apart) c.read_content.ensures.spelled
    c.read_content.ensures.sound

pub returns-clause-bad : goal.returns-clause-bad
returns-clause-bad g c =
    was_refused c.args.self.grammar (entries c.args.natives.now) c.as_slice.result.now c.args.input.now c.read_content.result
    (c.as_slice.ensures.value ∙ c.uuids.ensures.order) c.read_content.ensures.bad
