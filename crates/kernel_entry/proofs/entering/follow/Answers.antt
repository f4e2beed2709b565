use Rattle.std.proofs.Common.{ap, refl}
use Rattle.event_log.specs.Log.{Contents}
use Rattle.kernel_state.specs.declared.parts.Parts.{Parts as AnyParts}
use Rattle.kernel_entry.specs.Entering.{CanTakeSlot}
use Rattle.kernel_entry.specs.Resuming.{CanGoOn}
use Rattle.kernel_entry.proofs.Following.{call_found}
use Rattle.kernel_entry.proofs.entering.follow.Goals as goal

pub returns-in-Answers-clause-come : goal.returns-in-Answers-clause-come
returns-in-Answers-clause-come c = record {
  setup = ap (λ (parts : AnyParts). parts.setup) c.enter_fixed.ensures.inside.stays;
  events = ap (λ (journal : Contents). journal.events) c.enter_fixed.ensures.inside.journal;
  keeps = ap (λ (journal : Contents). journal.keeps) c.enter_fixed.ensures.inside.journal;
}

pub returns-in-Answers-clause-stands : goal.returns-in-Answers-clause-stands
returns-in-Answers-clause-stands c kernel = rw c.in-Answers.is (c.enter_fixed.ensures.stands kernel)

pub returns-in-Answers-clause-carries : goal.returns-in-Answers-clause-carries
returns-in-Answers-clause-carries c kernel stands = rw c.in-Answers.is refl

pub returns-in-Begins-clause-stands : goal.returns-in-Begins-clause-stands
returns-in-Begins-clause-stands c kernel =
    let can : CanTakeSlot c.args.parts.now c.in-Begins.call.value.entered c.in-Begins.call.value.plan = rw c.in-Begins.is at c.requires.follows in
    rw c.in-Begins.is (c.enter_new.ensures.stands can.begins.applies kernel)

pub returns-in-Begins-clause-carries : goal.returns-in-Begins-clause-carries
returns-in-Begins-clause-carries c kernel stands =
    let can : CanTakeSlot c.args.parts.now c.in-Begins.call.value.entered c.in-Begins.call.value.plan = rw c.in-Begins.is at c.requires.follows in
    rw c.in-Begins.is (c.enter_new.ensures.carries can.begins.applies)

pub returns-in-GoesOn-clause-stands : goal.returns-in-GoesOn-clause-stands
returns-in-GoesOn-clause-stands c kernel stands =
    let can : CanGoOn c.args.parts.now c.args.visitor.regs.a c.in-GoesOn.decided = rw c.in-GoesOn.is at c.requires.follows in
    let found = call_found c.args.parts.now.slots c.args.parts.now.cancellations.items kernel.slots c.args.visitor.regs.a stands.slots can.suspended in
    rw (c.in-GoesOn.is, found.1) (c.enter_resumed.ensures.stands kernel found.0 found.1 stands)

pub returns-in-GoesOn-clause-carries : goal.returns-in-GoesOn-clause-carries
returns-in-GoesOn-clause-carries c kernel stands =
    let can : CanGoOn c.args.parts.now c.args.visitor.regs.a c.in-GoesOn.decided = rw c.in-GoesOn.is at c.requires.follows in
    let found = call_found c.args.parts.now.slots c.args.parts.now.cancellations.items kernel.slots c.args.visitor.regs.a stands.slots can.suspended in
    rw (c.in-GoesOn.is, found.1) (c.enter_resumed.ensures.carries kernel found.0 stands found.1)
