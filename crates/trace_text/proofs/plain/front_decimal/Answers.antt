use Rattle.std.proofs.Common.{[], ◌∷◌, Some}
use Rattle.std.proofs.lemmas.Bool.Decides.{Decides-eqb}
use Rattle.std.proofs.lemmas.Slice.Eq.{strip_prefix_is}
use Rattle.trace_text.proofs.PlainLines.{decimal_front, zero_alone}
use Rattle.trace_text.proofs.plain.front_decimal.Goals as goal

pub returns-in-Some : goal.returns-in-Some
returns-in-Some c =
    zero_alone c.args.line.now c.in-Some.rest.now (strip_prefix_is Decides-eqb c.args.line.now (48 ∷ 32 ∷ []) (Some c.in-Some.rest) c.in-Some.ensures.cases)

pub returns : goal.returns
returns c = decimal_front c.args.line.now c.front_number.result c.if-line-eq48.false c.front_number.ensures
