use Rattle.std.proofs.Common.{ap, sym, ◌∙◌}
use Rattle.kernel_state.specs.CallLeaving.{leaving_as}
use Rattle.kernel_state.specs.declared.leaving.Leaving.{Leaving as AnyLeaving}
use Rattle.kernel_model.specs.Exit.{writes_of}
use Rattle.ns_ram.specs.Writes.{lane_after}
use Rattle.kernel_exit.proofs.telling.tell.Goals as goal

pub returns-in-Requests : goal.returns-in-Requests
returns-in-Requests c = λ call is.
    c.put_wanted.ensures
    ∙ ap (λ (leaving : AnyLeaving). lane_after c.args.lane.now (writes_of call (leaving_as c.args.cont.now leaving))) (sym c.in-Requests.is)
