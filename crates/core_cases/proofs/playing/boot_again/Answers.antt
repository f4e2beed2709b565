use Rattle.core_cases.proofs.Again.{boot_of_one}
use Rattle.core_cases.proofs.playing.boot_again.Goals as goal

-- src/playing.rt:19:1
pub returns : goal.returns
returns g c =
    let bound = c.in_ok-boot.boot-is in
    let some = c.in-Some.is in
    boot_of_one _ c.args.text.now c.args.trace.now c.in_ok-boot.field-0 c.in-Some.boot c.requires c.in_ok-boot.ensures.spelled (cc)
