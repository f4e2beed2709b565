use Rattle.std.proofs.Common.{◌*◌}
use Rattle.base.proofs.ZeroLemmas.{length-zeros}
use Rattle.kernel_model.specs.Application.{pages_in}
use Rattle.kernel_model.specs.Instances.{fresh_memory}
use Rattle.kernel_state.specs.Setup.{application_of}
use Rattle.begin_call.proofs.Starting.{can_start}
use Rattle.begin_call.proofs.opens.open_new.Goals as goal

pub start-requires-clause-found : goal.start-requires-clause-found
start-requires-clause-found c =
    can_start c.args.call.app c.make-memory.result c.uuid.result (fresh_memory (pages_in (application_of c.args.call.app)))
    c.requires.valid c.uuid.ensures c.make-memory.ensures.memory (length-zeros (4096 * pages_in (application_of c.args.call.app)))
