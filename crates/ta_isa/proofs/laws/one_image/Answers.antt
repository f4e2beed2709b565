use Rattle.std.proofs.Common.{sym, ap, ◌∙◌}
use Rattle.ta_isa.specs.Reading.{decoded}
use Rattle.ta_isa.proofs.Again.{spelling-again}
use Rattle.ta_isa.proofs.laws.one_image.Goals as goal

pub returns : goal.returns
returns c =
    λ x y valid_x valid_y same.
    let read = sym (spelling-again x valid_x) ∙ ap decoded same ∙ spelling-again y valid_y in
    cc
