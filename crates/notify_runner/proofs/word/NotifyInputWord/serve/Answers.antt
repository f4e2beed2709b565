use Rattle.native_tas.specs.Table.{drivers, entries}
use Rattle.word_parts.proofs.Serving.{answered-large, answered-told, faults-told, few-items, many-items}
use Rattle.notify_runner.specs.Run.{notifying}
use Rattle.notify_runner.proofs.word.NotifyInputWord.serve.Goals as goal

pub returns-then-has_too_many-clause-answered : goal.returns-then-has_too_many-clause-answered
returns-then-has_too_many-clause-answered g c = λ input read.
    answered-large (notifying (entries c.args.natives.now) (drivers c.args.natives.now)) input c.args.told _ read.spelled read.boots
    (many-items c.args.told.trace.items c.as_slice.result.now c.has_too_many.result c.as_slice.ensures c.has_too_many.ensures
    c.if-has_too_many.true)

pub play-requires : goal.play-requires
play-requires g c = c.requires.1.sound

pub returns-clause-answered : goal.returns-clause-answered
returns-clause-answered g c = λ input read.
    answered-told (notifying (entries c.args.natives.now) (drivers c.args.natives.now)) input c.args.told c.play.result
    c.status_of.result _ _ c.status_of.ensures read.spelled read.boots
    (few-items c.args.told.trace.items c.as_slice.result.now c.has_too_many.result c.as_slice.ensures c.has_too_many.ensures
    c.if-has_too_many.false)
    c.play.ensures.told

pub returns-clause-faults : goal.returns-clause-faults
returns-clause-faults g c =
    faults-told c.play.result c.status_of.result _ _ c.status_of.ensures c.play.ensures.faults
