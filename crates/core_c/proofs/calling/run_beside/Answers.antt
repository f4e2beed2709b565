-- The top call where its ports count no fault, and nothing was held.
use Rattle.std.proofs.Common.{List, ℕ, Some, map, string_bytes, subst}
use Rattle.native_tas.specs.Table.{drivers, entries}
use Rattle.alone_runner.specs.Commands.{alone_commands}
use Rattle.alone_runner.specs.TopCall.{IsAnswered}
use Rattle.alone_runner.specs.Words.{Say}
use Rattle.word_parts.specs.BuiltIn.{built_in}
use Rattle.core_c.proofs.Runs.{memory_call, of_clauses}
use Rattle.core_c.proofs.calling.run_beside.Goals as goal

pub returns : goal.returns
returns g c =
    let natives = entries c.args.natives.now in
    let notified = drivers c.args.natives.now in
    let texts = map string_bytes c.args.words.now in
    let input = c.args.input.now.left.now in
    let left = Some c.run_alone.new.input.left.now in
    let output = c.run_alone.new.out.held.items in
    of_clauses natives notified texts input left c.run_alone.result output
    (subst (λ (held : List ℕ). IsAnswered (alone_commands (built_in c.args.natives.now)) (Say texts)
    (memory_call input left c.run_alone.result held output)) c.requires c.run_alone.ensures.answered)
