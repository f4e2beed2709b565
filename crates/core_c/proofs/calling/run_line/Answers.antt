-- Want of memory for the words.
use Rattle.native_tas.specs.Program.{program_drivers, program_entries}
use Rattle.core_c.specs.Words.{texts_in}
use Rattle.core_c.proofs.Runs.{unrun}
use Rattle.core_c.proofs.calling.run_line.Goals as goal

pub returns-in-Err : goal.returns-in-Err
returns-in-Err c = unrun program_entries program_drivers (texts_in c.args.line.now) c.args.input.now.left.now c.args.out.now.held.items c.requires
