use Rattle.alone_runner.proofs.Plays.{ran-plays}
use Rattle.alone_runner.proofs.Readings.{one_meaning}
use Rattle.alone_runner.proofs.serving.ServeInputWord.laws.Goals as goal

pub returns-clause-one_meaning : goal.returns-clause-one_meaning
returns-clause-one_meaning c = λ built input. one_meaning c.args.self.grammar built.natives input

pub returns-clause-shown : goal.returns-clause-shown
returns-clause-shown c = λ built input call kept traces.
    ran-plays c.args.self.grammar built.natives input call.left call.result call.old call.new traces kept.ran
