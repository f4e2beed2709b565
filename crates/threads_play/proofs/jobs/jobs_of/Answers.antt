use Rattle.std.proofs.Common.{rules}
use Rattle.std.proofs.lemmas.Iterator.{YieldsList-from_zip, items_from_collect}
use Rattle.std.proofs.lemmas.Iterator.Adapters.{YieldsList-from_vec}
use Rattle.std.proofs.lemmas.Iterator.Consumers.{YieldsList-at}
use Rattle.threads_play.proofs.Pairs.{pairs_at}
use Rattle.threads_play.proofs.jobs.jobs_of.Goals as goal

pub returns-clause-each : goal.returns-clause-each
returns-clause-each c =
    let first = YieldsList-at c.zip.ensures.first (YieldsList-from_vec c.args.passes.items (search rules) (search rules)) in
    let second = YieldsList-from_vec c.args.lanes.items c.zip.ensures.second.0 (search rules) in
    pairs_at (λ jobs. jobs.items) c.args.passes.items c.args.lanes.items _ c.requires
    (items_from_collect _ c.collect.ensures.ran (YieldsList-from_zip first second))
