use Rattle.std.proofs.Common.{rules}
use Rattle.solo.proofs.Grants.{on_the_way}
use Rattle.solo.proofs.stops.run_on.Goals as goal

pub grants-preserved : goal.grants-preserved
grants-preserved c =
    rw c.from-left.ensures
    (on_the_way c.args.cont.now c.grants.cont c.advance.new.self c.args.more c.grants.left c.next_grant-steps.result c.advance.result
    c.grants.invariant (search rules) (c.next_grant-steps.ensures.some (search rules)) c.next_grant-steps.ensures.most
    c.advance.ensures.advances c.advance.ensures.phase c.advance.ensures.stays)
