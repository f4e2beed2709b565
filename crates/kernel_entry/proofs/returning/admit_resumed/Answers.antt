use Rattle.std.proofs.Common.{◌≤◌, ◌^◌, arith, refl}
use Rattle.kernel_entry.specs.declared.deciding.EntryDecision.TheVariants as decision
use Rattle.kernel_entry.proofs.Admitted.{resumed_arrives}
use Rattle.kernel_entry.proofs.Arrived.{arrived_ready, arrived_replays, cpu_there, has_entered}
use Rattle.kernel_entry.proofs.Entered.{most_bounded}
use Rattle.kernel_entry.proofs.Following.{can_follow}
use Rattle.kernel_entry.proofs.returning.admit_resumed.Goals as goal

pub enter_resumed-call-requires-clause-cpu : goal.enter_resumed-call-requires-clause-cpu
enter_resumed-call-requires-clause-cpu c =
    cpu_there c.args.core.now.parts c.args.visitor.cpu c.args.core.now.replay c.requires.can.outside

pub enter_resumed-call-requires-clause-few : goal.enter_resumed-call-requires-clause-few
enter_resumed-call-requires-clause-few c =
    let bounded : c.args.core.now.parts.setup.terms.most ≤ 2 ^ 63 = most_bounded c.args.core.now.parts c.args.core.now.replay in
    let few = c.requires.prepared.is.few in
    omega (arith, bounded, few)

pub enter_resumed-call-requires-clause-goes_on : goal.enter_resumed-call-requires-clause-goes_on
enter_resumed-call-requires-clause-goes_on c =
    can_follow c.args.core.now.parts c.args.visitor.regs.a (decision.GoesOn c.args.decided) c.args.core.now.replay
    c.requires.prepared.is.blank c.requires.prepared.is.found

pub invariant_of-core : goal.invariant_of-core
invariant_of-core c =
    let lane = c.requires.prepared.lane in
    let came = resumed_arrives c.args.core.now c.enter_resumed-call.new.parts c.args.visitor lane c.args.decided c.args.reads c.enter_resumed-call.result c.requires.can
    c.requires.prepared.is c.enter_resumed-call.ensures.come c.enter_resumed-call.ensures.stands c.enter_resumed-call.ensures.carries in
    record {
      replay = arrived_replays c.args.core.now.parts c.enter_resumed-call.new.parts c.args.visitor lane (decision.GoesOn c.args.decided) c.args.reads
          c.enter_resumed-call.result came c.args.core.now.replay;
    }

pub invariant_of-result : goal.invariant_of-result
invariant_of-result c =
    let lane = c.requires.prepared.lane in
    let came = resumed_arrives c.args.core.now c.enter_resumed-call.new.parts c.args.visitor lane c.args.decided c.args.reads c.enter_resumed-call.result c.requires.can
    c.requires.prepared.is c.enter_resumed-call.ensures.come c.enter_resumed-call.ensures.stands c.enter_resumed-call.ensures.carries in
    record {
      ready = arrived_ready c.args.core.now.parts c.enter_resumed-call.new.parts c.args.visitor lane (decision.GoesOn c.args.decided) c.args.reads
          c.enter_resumed-call.result came c.next_place-entry_at.ensures.fits c.args.core.now.replay;
    }

pub returns : goal.returns
returns c lane is =
    let came = resumed_arrives c.args.core.now c.enter_resumed-call.new.parts c.args.visitor lane c.args.decided c.args.reads c.enter_resumed-call.result c.requires.can
    is c.enter_resumed-call.ensures.come c.enter_resumed-call.ensures.stands c.enter_resumed-call.ensures.carries in
    has_entered c.args.core.now _ c.args.visitor lane (decision.GoesOn c.args.decided) c.args.reads _ came c.args.core.now.replay refl refl
    c.next_place-entry_at.ensures.place
