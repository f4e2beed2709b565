-- What is read is what the bytes spell, and can be played.
use Rattle.std.proofs.Common.{sym, subst, ◌∙◌}
use Rattle.native_tas.specs.Table.{drivers, entries}
use Rattle.trace_player.proofs.Booting.{AreApart}
use Rattle.notify_runner.proofs.Running.{was_read, was_refused}
use Rattle.notify_runner.proofs.word.NotifyInputWord.read.Goals as goal

pub returns-clause-read : goal.returns-clause-read
returns-clause-read g c =
    was_read (entries c.args.natives.now) c.as_slice.result.now c.args.input.now c.read_notify_trace.result
    (c.as_slice.ensures.value ∙ c.uuids.ensures.order) c.as_slice.ensures.fits
    (subst AreApart (sym c.as_slice.ensures.value) c.uuids.ensures.apart) c.read_notify_trace.ensures.found
    c.read_notify_trace.ensures.sound

pub returns-clause-bad : goal.returns-clause-bad
returns-clause-bad g c =
    was_refused (entries c.args.natives.now) (drivers c.args.natives.now) c.as_slice.result.now c.args.input.now
    c.read_notify_trace.result (c.as_slice.ensures.value ∙ c.uuids.ensures.order) c.read_notify_trace.ensures.bad
