use Rattle.client_runner.proofs.Answering.{one_meaning, ran_plays}
use Rattle.client_runner.proofs.word.ClientInputWord.laws.Goals as goal

pub returns-clause-one_meaning : goal.returns-clause-one_meaning
returns-clause-one_meaning c = λ built input. one_meaning built.natives input

pub returns-clause-shown : goal.returns-clause-shown
returns-clause-shown c = λ built input call kept.
    ran_plays built.natives input call.left call.result call.old call.new kept.ran
