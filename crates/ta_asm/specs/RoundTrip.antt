-- From an image to its canonical text and back.
use Rattle.std.specs.Prelude.{◌≡◌}
use Rattle.ta_isa.specs.declared.image.Image.{Image}
use Rattle.ta_isa.specs.Spelling.{IsValid}
use Rattle.ta_asm.specs.declared.fault.AsmFault.{AsmFault}
use Rattle.ta_asm.specs.Canonical.{canonical}
use Rattle.ta_asm.specs.Grammar.{IsFirstFault, StandsFor}

-- the canonical text of this image is assembled to it
pub record IsRead (image : Image) : Type 0 where
  pub stands : StandsFor (canonical image) image
  pub for_no_other : (other : Image) → StandsFor (canonical image) other → other ≡ image
  pub faultless : (fault : AsmFault) → IsFirstFault (canonical image) fault → ⊥

abbrev pub EveryImage : Type 0
EveryImage = (image : Image) → IsValid image → IsRead image
