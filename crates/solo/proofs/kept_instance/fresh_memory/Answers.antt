use Rattle.std.proofs.Common.{◌*◌, ◌∙◌, ap}
use Rattle.std.specs.Prelude.{replicate}
use Rattle.solo.proofs.FreshMemory.{fresh_image, fresh_native}
use Rattle.ta_isa.specs.declared.image.Image.{Image}
use Rattle.solo.proofs.kept_instance.fresh_memory.Goals as goal

pub returns-in_ok-new-in-OfImage : goal.returns-in_ok-new-in-OfImage
returns-in_ok-new-in-OfImage c =
    fresh_image c.args.app.now c.in-OfImage.shared c.in_ok-new-in-OfImage.field-0 c.in-OfImage.is
    (c.in_ok-new-in-OfImage.ensures ∙ ap (λ (image : Image). replicate (image.pages * 4096) 0) c.deref.ensures)

pub returns-in-BuiltIn : goal.returns-in-BuiltIn
returns-in-BuiltIn c = fresh_native c.args.app.now _ c.in-BuiltIn.is
