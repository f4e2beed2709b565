use Rattle.std.proofs.Common.{arith, length-drop}
use Rattle.std.proofs.lemmas.List.{take_all}
use Rattle.journal_bytes.specs.Record.{behind}
use Rattle.journal_bytes.proofs.taking.take_exit.Goals as goal

pub returns-clause-rest : goal.returns-clause-rest
unfolding behind
returns-clause-rest c = take_all _ _ (omega (arith, length-drop 33 c.args.body.now))
