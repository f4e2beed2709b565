-- Want of memory for what is built in.
use Rattle.std.proofs.Common.{map, string_bytes}
use Rattle.native_tas.specs.Program.{program_drivers, program_entries}
use Rattle.core_c.proofs.Runs.{unrun}
use Rattle.core_c.proofs.calling.run_words.Goals as goal

pub returns-in-Err : goal.returns-in-Err
returns-in-Err c =
    unrun program_entries program_drivers (map string_bytes c.args.words.now) c.args.input.now.left.now c.args.out.now.held.items
    c.requires
