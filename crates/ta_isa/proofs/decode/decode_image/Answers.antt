use Rattle.std.proofs.Common.{◌≡◌, ap, subst, ◌∙◌, arith}
use Rattle.std.proofs.lemmas.Result.{IfOk-weaker}
use Rattle.ta_isa.specs.Spelling.{IsValid, spelling}
use Rattle.ta_isa.specs.Reading.{IsUnlessMemory, decoded}
use Rattle.ta_isa.proofs.Back.{IsFound, found}
use Rattle.ta_isa.proofs.Again.{spelling-again}
use Rattle.ta_isa.proofs.decode.decode_image.Goals as goal

pub returns-clause-valid : goal.returns-clause-valid
returns-clause-valid c =
    IfOk-weaker c.decode.result (IsFound c.args.bytes.now) IsValid (λ image h. h.valid) (found c.args.bytes.now c.decode.result (λ i. omega (arith, c.type_inv.bytes i)) c.decode.ensures)

pub returns-clause-spelled : goal.returns-clause-spelled
returns-clause-spelled c =
    IfOk-weaker c.decode.result (IsFound c.args.bytes.now) (λ image. c.args.bytes.now ≡ spelling image) (λ image h. h.spelled) (found c.args.bytes.now c.decode.result (λ i. omega (arith, c.type_inv.bytes i)) c.decode.ensures)

pub returns-clause-only : goal.returns-clause-only
returns-clause-only c =
    λ image valid spelled. subst (IsUnlessMemory c.decode.result) (ap decoded spelled ∙ spelling-again image valid) c.decode.ensures
