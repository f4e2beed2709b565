use Rattle.std.proofs.Common.{◌≤◌, ◌^◌, arith, refl}
use Rattle.kernel_state.specs.declared.carried.Carried.TheVariants.{Nothing}
use Rattle.kernel_entry.specs.declared.deciding.EntryDecision.TheVariants as decision
use Rattle.kernel_entry.proofs.Admitted.{answer_arrives}
use Rattle.kernel_entry.proofs.Arrived.{arrived_ready, arrived_replays, cpu_there, has_entered}
use Rattle.kernel_entry.proofs.Entered.{most_bounded}
use Rattle.kernel_entry.proofs.answering.admit_answer.Goals as goal

pub enter_fixed-requires-clause-cpu : goal.enter_fixed-requires-clause-cpu
enter_fixed-requires-clause-cpu c =
    cpu_there c.args.core.now.parts c.args.visitor.cpu c.args.core.now.replay c.requires.can.outside

pub enter_fixed-requires-clause-few : goal.enter_fixed-requires-clause-few
enter_fixed-requires-clause-few c =
    let bounded : c.args.core.now.parts.setup.terms.most ≤ 2 ^ 63 = most_bounded c.args.core.now.parts c.args.core.now.replay in
    let few = c.requires.prepared.is.few in
    omega (arith, bounded, few)

pub invariant_of-core : goal.invariant_of-core
invariant_of-core c =
    let lane = c.requires.prepared.lane in
    let came = answer_arrives c.args.core.now c.enter_fixed.new.parts c.args.visitor lane c.args.answer c.args.reads c.requires.can c.requires.prepared.is
    c.enter_fixed.ensures.inside c.enter_fixed.ensures.stands in
    record {
      replay = arrived_replays c.args.core.now.parts c.enter_fixed.new.parts c.args.visitor lane (decision.Answers c.args.answer) c.args.reads Nothing came
          c.args.core.now.replay;
    }

pub invariant_of-result : goal.invariant_of-result
invariant_of-result c =
    let lane = c.requires.prepared.lane in
    let came = answer_arrives c.args.core.now c.enter_fixed.new.parts c.args.visitor lane c.args.answer c.args.reads c.requires.can c.requires.prepared.is
    c.enter_fixed.ensures.inside c.enter_fixed.ensures.stands in
    record {
      ready = arrived_ready c.args.core.now.parts c.enter_fixed.new.parts c.args.visitor lane (decision.Answers c.args.answer) c.args.reads Nothing came
          c.next_place-entry_at.ensures.fits c.args.core.now.replay;
    }

pub returns : goal.returns
returns c lane is =
    let came = answer_arrives c.args.core.now c.enter_fixed.new.parts c.args.visitor lane c.args.answer c.args.reads c.requires.can is
    c.enter_fixed.ensures.inside c.enter_fixed.ensures.stands in
    has_entered c.args.core.now _ c.args.visitor lane (decision.Answers c.args.answer) c.args.reads _ came c.args.core.now.replay refl refl
    c.next_place-entry_at.ensures.place
