use Rattle.std.proofs.Common.{◌≡◌, false, ap, sym, ◌∙◌, arith}
use Rattle.trace_text.specs.Forms.{is_uuid}
use Rattle.alone_runner.proofs.Commands.{too_large}
use Rattle.alone_runner.proofs.command.subject_of.Goals as goal

pub returns-then-number-from-clause-nothing : goal.returns-then-number-from-clause-nothing
returns-then-number-from-clause-nothing c = λ _.
    let none : is_uuid c.args.word.now ≡ false = sym (ap is_uuid c.as_bytes.ensures.value) ∙ c.in_default.ensures in
    too_large c.args.word.now c.in_ok-number.number none c.in_ok-number.ensures.found.0
    (omega (arith, c.from.ensures, c.if-number-from.true)) c.in_ok-number.ensures.found.1
