use Rattle.std.proofs.Common.{Ok}
use Rattle.ns_ram.proofs.ReaderLaws.{over_lane-reading}
use Rattle.param_copy.specs.Copying.{copying}
use Rattle.param_copy.specs.Outcome.{copies_in}
use Rattle.param_copy.proofs.copied.copy_in.Goals as goal

pub returns-clause-reads : goal.returns-clause-reads
returns-clause-reads c =
    let read = (over_lane-reading (copying c.args.registry.now.buffers c.args.params.now c.args.first) c.args.lane.now c.take_params.new.reads (Ok (copies_in c.in_ok-params.field-0))).0 (rw c.new-reads.ensures at c.in_ok-params.ensures.ok) in
    (read.1, read.0)
