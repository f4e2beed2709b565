use Rattle.std.proofs.Common.{◌≡◌, sym, ◌∙◌}
use Rattle.std.proofs.lemmas.Fmt.{parse-decimal}
use Rattle.alone_runner.proofs.Commands.{other_text}
use Rattle.alone_runner.proofs.command.number_in.Goals as goal

pub returns-in_default-clause-none : goal.returns-in_default-clause-none
returns-in_default-clause-none c = λ _ number below said.
    let ok = parse-decimal 64 number c.args.word.now c.parse.result below below said c.parse.ensures.value.0 in
    let no = sym c.in_default.is ∙ ok in
    absurd cc

pub returns-else-eq-clause-none : goal.returns-else-eq-clause-none
returns-else-eq-clause-none c = λ _ number below said.
    let ok = parse-decimal 64 number c.args.word.now c.parse.result below below said c.parse.ensures.value.0 in
    let both = sym c.in-Ok.is ∙ ok in
    let same : c.in-Ok.number ≡ number = cc in
    other_text c.format.result.now c.args.word.now c.in-Ok.number number (sym c.if-eq.ensures) c.format.ensures.text
    same said
