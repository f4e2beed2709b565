-- An entry: what the kernel is after a processor came in. It depends on RAM only through its reads. By optee_smc.h.
use Rattle.std.specs.Prelude.{ℕ, List, Option, slice_set}
use Rattle.ns_ram.specs.declared.read.Read.{Read}
use Rattle.ns_ram.specs.Reader.{Reader, done, reading, ◌>>=◌}
use Rattle.smc_abi.specs.Call.{call_of}
use Rattle.smc_abi.specs.FastAnswer.{fast_answer_of}
use Rattle.smc_abi.specs.declared.call.Call.{Call}
use Rattle.smc_abi.specs.declared.call.Call.TheVariants.{Fast, WithArg, WithRpcArg, WithRegdArg, Resume, Unknown}
use Rattle.kernel_model.specs.Application.{Booted}
use Rattle.kernel_model.specs.Argument.{reg}
use Rattle.kernel_model.specs.Codes.{unknown_function}
use Rattle.kernel_model.specs.Decision.{Decision, Answers, Takes}
use Rattle.kernel_model.specs.Kernel.{Active, Fixed, InSlot, Kernel, Visit, cancelled_slots, with_visitor}
use Rattle.kernel_model.specs.NewCall.{new_call}
use Rattle.kernel_model.specs.Resume.{resume}

-- what is decided of a call with these registers
abbrev pub decision_of : Booted → Kernel → List ℕ → Call → Reader Decision
decision_of boot kernel regs (Fast call) = done (Answers (fast_answer_of call regs boot.threads))
decision_of boot kernel regs WithArg = new_call boot kernel regs
decision_of boot kernel regs WithRpcArg = new_call boot kernel regs
decision_of boot kernel regs WithRegdArg = new_call boot kernel regs
decision_of boot kernel regs Resume = resume boot kernel regs
decision_of boot kernel regs Unknown = done (Answers unknown_function)

-- the kernel after that was decided: the processor is inside, and a slot that was taken is active. No other processor
-- changes, and no other slot but where a call is cancelled
abbrev pub after_decision : Kernel → Visit → Decision → Kernel
after_decision kernel visit (Answers answer) = with_visitor kernel visit (Fixed answer)
after_decision kernel visit (Takes slot taken) =
    record (with_visitor kernel visit (InSlot slot)) {
      slots = slice_set (cancelled_slots kernel.slots taken.cancels) slot (Active visit.cpu taken.call);
      tables = taken.tables;
    }

-- the kernel after the entry of a processor
abbrev pub entry : Booted → Kernel → Visit → Reader Kernel
entry boot kernel visit =
    decision_of boot kernel visit.regs (call_of (reg visit.regs 0))
    >>= (λ decision. done (after_decision kernel visit decision))

-- the same, where it has just these reads
abbrev pub after_entry : Booted → Kernel → Visit → List Read → Option Kernel
after_entry boot kernel visit reads = reading (entry boot kernel visit) reads
