-- Of the boot of a sound trace a core can be made.
use Rattle.core_at_work.proofs.Apart.{none_repeated, within_limits}
use Rattle.core_cases.proofs.Boots.{boot_of_sound}
use Rattle.core_cases.proofs.serving.serve_trace.Goals as goal

pub core_of-requires-clause-limits : goal.core_of-requires-clause-limits
core_of-requires-clause-limits g c =
    within_limits c.in-Some.boot (boot_of_sound _ c.args.trace c.in-Some.boot c.requires c.in-Some.is).boots

pub core_of-requires-clause-apart : goal.core_of-requires-clause-apart
core_of-requires-clause-apart g c =
    let sound = boot_of_sound _ c.args.trace c.in-Some.boot c.requires c.in-Some.is in
    none_repeated _ c.in-Some.boot sound.boots sound.no_native
