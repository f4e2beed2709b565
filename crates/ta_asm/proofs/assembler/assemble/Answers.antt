use Rattle.std.proofs.Common.{subst, sym}
use Rattle.std.proofs.lemmas.Result.{IfOk-weaker}
use Rattle.ta_isa.specs.Spelling.{IsValid}
use Rattle.ta_asm.specs.Lines.{statements_of}
use Rattle.ta_asm.proofs.Validity.{IsValid-faultless}
use Rattle.ta_asm.proofs.WellMade.{are_well_made}
use Rattle.ta_asm.proofs.assembler.assemble.Goals as goal

pub returns : goal.returns
returns c = record {
  found = c.assembled.ensures.found;
  valid =
      IfOk-weaker c.assembled.result _ _
      (λ image s. subst IsValid (sym s.image_is) (IsValid-faultless (statements_of c.args.text.now) s.faultless (are_well_made c.args.text.now))) c.assembled.ensures.found;
  only = c.assembled.ensures.only;
  bad = c.assembled.ensures.bad;
  refused = c.assembled.ensures.refused;
}
