use Rattle.std.proofs.Common.{ap}
use Rattle.kernel_entry.proofs.Standing.{Stays, fixed_stands, room_behind}
use Rattle.kernel_entry.proofs.fixed.enter_fixed.Goals as goal

pub returns-clause-stands : goal.returns-clause-stands
returns-clause-stands c kernel stands =
    let old = c.args.parts.now in
    let new = c.let_in.new.parts in
    let stays : Stays old new = record {
      setup = ap (λ parts. parts.setup) c.let_in.ensures.stays;
      slots = ap (λ parts. parts.slots) c.let_in.ensures.stays;
      cancellations = ap (λ parts. parts.cancellations) c.let_in.ensures.stays;
      tables = ap (λ parts. parts.tables) c.let_in.ensures.stays;
    } in
    fixed_stands old new kernel c.args.visitor c.args.answer stands stays c.let_in.ensures.processors
    (room_behind old.setup.cpus old.journal.spare new.journal.spare c.requires.room (ap (λ journal. journal.spare) c.let_in.ensures.journal))
