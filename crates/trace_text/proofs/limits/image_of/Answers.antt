use Rattle.trace_text.proofs.Images.{image_fault, image_read}
use Rattle.trace_text.proofs.limits.image_of.Goals as goal

pub returns-in-Err : goal.returns-in-Err
returns-in-Err c = rw c.of_image.ensures (image_fault c.args.image.now c.in-Err.fault c.in-Err.ensures.exact)

pub returns-in-Ok : goal.returns-in-Ok
returns-in-Ok c = image_read c.args.image.now c.in-Ok.image c.in-Ok.ensures.exact
