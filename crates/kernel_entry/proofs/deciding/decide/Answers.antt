use Rattle.std.proofs.Common.{⊎_elim, ◌∙◌, sym}
use Rattle.smc_abi.specs.declared.call.Call.TheVariants as call
use Rattle.kernel_entry.proofs.Decisions.{answered_as, decided_as, same_answer}
use Rattle.kernel_entry.specs.declared.deciding.EntryDecision.TheVariants as decision
use Rattle.kernel_entry.proofs.deciding.decide.Goals as goal

pub returns-in-Fast-clause-decides : goal.returns-in-Fast-clause-decides
returns-in-Fast-clause-decides c kernel stands =
    answered_as c.args.parts.now kernel c.args.regs.now.a c.args.lane.now c.args.reads.now c.args.reads.now (decision.Answers c.fast_answer-answer.result) (call.Fast c.in-Fast.call)
    (sym c.decode_call.ensures.row ∙ c.in-Fast.is) (same_answer c.args.reads.now _ _ (sym c.fast_answer-answer.ensures))

pub returns-in-WithArg-clause-decides : goal.returns-in-WithArg-clause-decides
returns-in-WithArg-clause-decides c kernel stands =
    let here = c.decide_new.ensures.decides kernel stands in
    ⊎_elim
    (λ alone. decided_as c.args.parts.now kernel c.args.regs.now.a c.args.lane.now c.args.reads.now c.decide_new.new.reads c.decide_new.result call.WithArg
    (sym c.decode_call.ensures.row ∙ alone) here)
    (λ with_area. ⊎_elim
    (λ at_address. decided_as c.args.parts.now kernel c.args.regs.now.a c.args.lane.now c.args.reads.now c.decide_new.new.reads c.decide_new.result call.WithRpcArg
    (sym c.decode_call.ensures.row ∙ at_address) here)
    (λ named. decided_as c.args.parts.now kernel c.args.regs.now.a c.args.lane.now c.args.reads.now c.decide_new.new.reads c.decide_new.result call.WithRegdArg
    (sym c.decode_call.ensures.row ∙ named) here)
    with_area)
    c.in-WithArg.is

pub returns-in-Resume-clause-decides : goal.returns-in-Resume-clause-decides
returns-in-Resume-clause-decides c kernel stands =
    decided_as c.args.parts.now kernel c.args.regs.now.a c.args.lane.now c.args.reads.now c.decide_resume.new.reads c.decide_resume.result call.Resume
    (sym c.decode_call.ensures.row ∙ c.in-Resume.is) (c.decide_resume.ensures.decides kernel stands)

pub returns-in-Unknown-clause-decides : goal.returns-in-Unknown-clause-decides
returns-in-Unknown-clause-decides c kernel stands =
    answered_as c.args.parts.now kernel c.args.regs.now.a c.args.lane.now c.args.reads.now c.args.reads.now (decision.Answers c.code.result) call.Unknown
    (sym c.decode_call.ensures.row ∙ c.in-Unknown.is) (same_answer c.args.reads.now _ _ (sym c.code.ensures))
