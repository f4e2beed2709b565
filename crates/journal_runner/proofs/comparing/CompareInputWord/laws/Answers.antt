use Rattle.word_parts.specs.Call.{HasNoFault}
use Rattle.journal_runner.proofs.Comparisons.{kept_compares, one_meaning}
use Rattle.journal_runner.proofs.comparing.CompareInputWord.laws.Goals as goal

pub returns-clause-one_meaning : goal.returns-clause-one_meaning
returns-clause-one_meaning c = λ built input. one_meaning built.natives c.args.self.subject input

pub returns-clause-shown : goal.returns-clause-shown
returns-clause-shown c = λ built input call kept.
    kept_compares built.natives c.args.self.subject input call.left call.result call.old call.new (HasNoFault call) kept
