use Rattle.std.proofs.Common.{arith}
use Rattle.native_tas.specs.Table.{entries}
use Rattle.word_parts.proofs.Serving.{answered-large, answered-told, faults-told}
use Rattle.client_runner.specs.Client.{client_word}
use Rattle.client_runner.proofs.word.ClientInputWord.serve.Goals as goal

pub returns-then-len-gt-MAX_CALLS-clause-answered : goal.returns-then-len-gt-MAX_CALLS-clause-answered
returns-then-len-gt-MAX_CALLS-clause-answered g c = λ input read.
    answered-large (client_word (entries c.args.natives.now)) input c.args.script _ read.spelled read.can (omega arith)

pub play-requires : goal.play-requires
play-requires g c = c.requires.1.can.sound

pub returns-clause-answered : goal.returns-clause-answered
returns-clause-answered g c = λ input read.
    answered-told (client_word (entries c.args.natives.now)) input c.args.script c.play.result c.status_of.result _ _
    c.status_of.ensures read.spelled read.can (λ many. absurd (omega (arith, many))) c.play.ensures.told

pub returns-clause-faults : goal.returns-clause-faults
returns-clause-faults g c =
    faults-told c.play.result c.status_of.result _ _ c.status_of.ensures c.play.ensures.faults
