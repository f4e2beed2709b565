use Rattle.std.proofs.Common.{◌∷◌, refl}
use Rattle.std.specs.Option.{option_copied}
use Rattle.client_text.specs.Judging.{parts_left}
use Rattle.client_text.proofs.Parts.{read_numbers}
use Rattle.client_text.proofs.param.numbers_from.Goals as goal

pub returns-in-Some : goal.returns-in-Some
returns-in-Some c =
    read_numbers c.two_numbers.result (c.args.part.now ∷ parts_left (option_copied c.args.behind))
    (parts_left (option_copied c.args.behind)) c.args.part.now c.in-Some.other.now refl c.in-Some.ensures c.two_numbers.ensures
