-- What is known of the core's kernel, before and behind.
use Rattle.std.proofs.Common.{◌≤◌, ◌^◌, arith, refl}
use Rattle.kernel_entry.proofs.Arrived.{arrived_ready, arrived_replays, arrives, cpu_there, has_entered}
use Rattle.kernel_entry.proofs.Entered.{most_bounded}
use Rattle.kernel_entry.proofs.Following.{can_follow}
use Rattle.kernel_entry.proofs.entering.admit.Goals as goal

pub follow-call-requires-clause-cpu : goal.follow-call-requires-clause-cpu
follow-call-requires-clause-cpu c =
    cpu_there c.args.core.now.parts c.args.visitor.cpu c.args.core.now.replay c.requires.can.outside

pub follow-call-requires-clause-few : goal.follow-call-requires-clause-few
follow-call-requires-clause-few c =
    let bounded : c.args.core.now.parts.setup.terms.most ≤ 2 ^ 63 = most_bounded c.args.core.now.parts c.args.core.now.replay in
    let few = c.requires.prepared.is.few in
    omega (arith, bounded, few)

pub follow-call-requires-clause-follows : goal.follow-call-requires-clause-follows
follow-call-requires-clause-follows c =
    can_follow c.args.core.now.parts c.args.visitor.regs.a c.args.prepared.decision c.args.core.now.replay
    c.requires.prepared.is.blank c.requires.prepared.is.found

pub invariant_of-core : goal.invariant_of-core
invariant_of-core c =
    let prepared = c.args.prepared in
    let lane = c.requires.prepared.lane in
    let came = arrives c.args.core.now c.follow-call.new.parts c.args.visitor lane prepared c.follow-call.result c.requires.can c.requires.prepared.is
    c.follow-call.ensures.come c.follow-call.ensures.stands c.follow-call.ensures.carries in
    record {
      replay = arrived_replays c.args.core.now.parts c.follow-call.new.parts c.args.visitor lane prepared.decision prepared.reads c.follow-call.result came
          c.args.core.now.replay;
    }

pub invariant_of-result : goal.invariant_of-result
invariant_of-result c =
    let prepared = c.args.prepared in
    let lane = c.requires.prepared.lane in
    let came = arrives c.args.core.now c.follow-call.new.parts c.args.visitor lane prepared c.follow-call.result c.requires.can c.requires.prepared.is
    c.follow-call.ensures.come c.follow-call.ensures.stands c.follow-call.ensures.carries in
    record {
      ready = arrived_ready c.args.core.now.parts c.follow-call.new.parts c.args.visitor lane prepared.decision prepared.reads c.follow-call.result came
          c.next_place-entry_at.ensures.fits c.args.core.now.replay;
    }

pub returns : goal.returns
returns c lane is =
    let prepared = c.args.prepared in
    let came = arrives c.args.core.now c.follow-call.new.parts c.args.visitor lane prepared c.follow-call.result c.requires.can is
    c.follow-call.ensures.come c.follow-call.ensures.stands c.follow-call.ensures.carries in
    has_entered c.args.core.now _ c.args.visitor lane prepared.decision prepared.reads _ came c.args.core.now.replay refl refl
    c.next_place-entry_at.ensures.place
