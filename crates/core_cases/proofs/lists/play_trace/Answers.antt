use Rattle.core_cases.proofs.Boots.{boot_of_sound}
use Rattle.core_cases.proofs.lists.play_trace.Goals as goal

pub booted-requires-clause-boot : goal.booted-requires-clause-boot
booted-requires-clause-boot g c = boot_of_sound _ c.args.trace c.in-Some.boot c.requires c.in-Some.is
