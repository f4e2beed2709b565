use Rattle.kernel_entry.proofs.Continuing.{come_so}
use Rattle.kernel_entry.proofs.resuming.go_on.Goals as goal

pub returns-clause-call : goal.returns-clause-call
returns-clause-call c cont beside call out there is marked =
    come_so c.args.parts.now c.args.regs.now.a c.args.decided c.resume_call.new.tables c.resume_call.new.cont c.args.decided.slot c.is_marked-marked.result
    c.hand_out-cont.result cont c.deref_mut.result.now c.as_slice.result.now beside call c.requires.slot c.as_slice.ensures.value c.is_marked-marked.ensures
    c.hand_out-cont.ensures.cont c.deref_mut.ensures.value c.resume_call.ensures.call out there is marked
