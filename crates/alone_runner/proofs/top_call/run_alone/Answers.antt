-- The command that the words were found to ask for is the one that they ask for.
use Rattle.std.proofs.Common.{◌≡◌, refl, subst, sym}
use Rattle.word_parts.specs.BuiltIn.{built_in}
use Rattle.alone_runner.specs.Commands.{alone_commands}
use Rattle.alone_runner.specs.Words.{Asks, Reads}
use Rattle.alone_runner.specs.declared.command.Command.{Command}
use Rattle.alone_runner.specs.declared.command.Command.TheVariants.{Work}
use Rattle.alone_runner.proofs.Readings.{one_command}
use Rattle.alone_runner.proofs.TopCalls.{asked-so, none-asked}
use Rattle.alone_runner.proofs.top_call.run_alone.Goals as goal

pub run_command-requires : goal.run_command-requires
run_command-requires g c = c.in-Some.ensures.asked.within

pub returns-in-Some-clause-answered : goal.returns-in-Some-clause-answered
returns-in-Some-clause-answered g c =
    let words = c.args.words.now in
    let asked = c.in-Some.ensures.asked in
    asked-so (alone_commands (built_in c.args.natives.now)) _ (λ (one : Command). one ≡ c.in-Some.command) (Asks words)
    (λ command same. subst (Asks words) (sym same) asked)
    (λ command asks. one_command words command c.in-Some.command asks asked)
    c.run_command.ensures.answered

pub returns-in-Some-clause-untouched : goal.returns-in-Some-clause-untouched
returns-in-Some-clause-untouched g c = λ seed count asks.
    c.run_command.ensures.untouched (λ reads.
    subst Reads (one_command c.args.words.now c.in-Some.command (Work seed count) c.in-Some.ensures.asked asks) reads)

pub returns-in-None-clause-answered : goal.returns-in-None-clause-answered
returns-in-None-clause-answered g c =
    let e = c.answer_line.ensures in
    none-asked (alone_commands (built_in c.args.natives.now)) _ (Asks c.args.words.now) (c.in-None.ensures.nothing refl)
    e.line e.write_fault e.count e.stays refl refl
