use Rattle.notify_runner.proofs.Running.{one_meaning, ran_notifies}
use Rattle.notify_runner.proofs.word.NotifyInputWord.laws.Goals as goal

pub returns-clause-one_meaning : goal.returns-clause-one_meaning
returns-clause-one_meaning c = λ built input. one_meaning built.natives built.drivers input

pub returns-clause-shown : goal.returns-clause-shown
returns-clause-shown c = λ built input call kept.
    ran_notifies built.natives built.drivers input call.left call.result call.old call.new kept.ran
