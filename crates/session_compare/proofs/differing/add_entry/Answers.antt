use Rattle.session_compare.proofs.Comparisons.{adds_entry}
use Rattle.session_compare.proofs.differing.add_entry.Goals as goal

pub returns : goal.returns
returns g c its other compares =
    adds_entry c.args.side c.args.comparison.now c.count_reply.new.comparison c.take.new.self c.args.logged its other c.take.result
    c.is_some.result c.is_some.ensures compares c.in_ok-count_reply.ensures c.take.ensures.replies c.take.ensures.events
