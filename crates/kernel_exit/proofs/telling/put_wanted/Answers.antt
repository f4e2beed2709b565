-- To sleep and to wake have no bytes beside them.
use Rattle.std.proofs.Common.{ap, sym, ◌∙◌}
use Rattle.kernel_state.specs.CallLeaving.{request_of}
use Rattle.kernel_state.specs.declared.leaving.Wanted.{Wanted as AnyWanted}
use Rattle.ns_ram.specs.Writes.{lane_after}
use Rattle.rpc_msgs.specs.Place.{writes_at}
use Rattle.kernel_exit.proofs.telling.put_wanted.Goals as goal

pub returns-in-Sleep : goal.returns-in-Sleep
returns-in-Sleep c =
    c.put_request_at-in-Sleep.ensures
    ∙ ap (λ (w : AnyWanted). let request = request_of c.args.cont.now.request w in
    lane_after c.args.lane.now (writes_at c.args.place.now request.wanted request.payload)) (sym c.in-Sleep.is)

pub returns-in-Wake : goal.returns-in-Wake
returns-in-Wake c =
    c.put_request_at-in-Wake.ensures
    ∙ ap (λ (w : AnyWanted). let request = request_of c.args.cont.now.request w in
    lane_after c.args.lane.now (writes_at c.args.place.now request.wanted request.payload)) (sym c.in-Wake.is)
