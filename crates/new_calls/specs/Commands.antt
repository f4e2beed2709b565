-- What the code's words for what is decided of a call stand for in the kernel's definitions.
use Rattle.std.specs.Prelude.{◌≡◌, ℕ, List, Option, Some, IsSome, Result, Ok, Err}
use Rattle.std.specs.Option.{ForSome}
use Rattle.base.specs.NumberMap.{get}
use Rattle.kernel_model.specs.Application.{Booted}
use Rattle.kernel_model.specs.Decision as model
use Rattle.kernel_model.specs.Decision.{Decision, Taken, Tested, taken_by}
use Rattle.kernel_model.specs.Kernel.{Tables}
use Rattle.kernel_model.specs.NewCall.{NewCall, cancel_calls, close_session, invoke_command, new_call_in, open_session, register_memory, unregister_memory}
use Rattle.ns_ram.specs.Attempt.{read}
use Rattle.ns_ram.specs.Reader.{over_lane}
use Rattle.ns_ram.specs.declared.read.Read.{Read}
use Rattle.new_calls.specs.Applying.{CanApply}
use Rattle.new_calls.specs.Deciding.{call_with, taken_of}
use Rattle.new_calls.specs.declared.command.Command.{Command}
use Rattle.new_calls.specs.declared.command.Command.TheVariants as command
use Rattle.new_calls.specs.declared.decided.Decided.{Decided}
use Rattle.new_calls.specs.declared.decided.Decided.TheVariants as decided
use Rattle.new_calls.specs.declared.entered.Entered.{Entered}
use Rattle.new_calls.specs.declared.refused.Refused.{Refused}
use Rattle.new_calls.specs.declared.refused.Refused.TheVariants as refused

-- a command's tests
abbrev pub tests_of : Command → NewCall → Tested Taken
tests_of command.OpenSession = open_session
tests_of command.InvokeCommand = invoke_command
tests_of command.CloseSession = close_session
tests_of command.Cancel = cancel_calls
tests_of command.RegisterMemory = register_memory
tests_of command.UnregisterMemory = unregister_memory

-- the tests of every call come to this: those of the command follow, or the call is answered so. Want of memory says
-- nothing of them
abbrev pub ComesIn : Tables → List ℕ → ℕ → List ℕ → List Read → List Read → Result (Entered × Command) Refused → Type 0
ComesIn tables regs slot lane before after (Ok came) = (boot : Booted) →
    over_lane (new_call_in boot tables regs slot) lane before
    ≡ over_lane (read (taken_by (tests_of came.1 (call_with boot tables came.0)))) lane after
ComesIn tables regs slot lane before after (Err (refused.Answer answer)) = (boot : Booted) →
    over_lane (new_call_in boot tables regs slot) lane before ≡ Some (Err answer, after)
ComesIn tables regs slot lane before after (Err refused.Memory) = Unit {0}

-- what is decided
abbrev pub decision_of : Booted → Tables → Decided → Decision
decision_of boot tables (decided.Answers answer) = model.Answers answer
decision_of boot tables (decided.Takes entered plan) =
    model.Takes entered.slot (taken_of (call_with boot tables entered) plan)

-- the slot that is taken is the free one
abbrev pub IsInSlot : Option ℕ → Decided → Type 0
IsInSlot free (decided.Answers answer) = Unit {0}
IsInSlot free (decided.Takes entered plan) = free ≡ Some entered.slot

-- the cookie that names its argument is kept
abbrev pub CanPin : Tables → Entered → Type 0
CanPin tables entered = ForSome entered.cookie (λ cookie. IsSome (get tables.registered.buffers cookie))

-- the slot can be taken for it
abbrev pub CanTake : Booted → Tables → Decided → Type 0
CanTake boot tables (decided.Answers answer) = Unit {0}
CanTake boot tables (decided.Takes entered plan) = CanPin tables entered × CanApply (call_with boot tables entered) plan
