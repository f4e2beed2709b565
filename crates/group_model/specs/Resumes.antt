-- Where a call waits for an instance of an application.
use Rattle.std.specs.Prelude.{◌≡◌, ℕ, Some}
use Rattle.base.specs.NumberMap.{get}
use Rattle.ta_params.specs.declared.copied_params.CopiedParams.{CopiedParams}
use Rattle.kernel_model.specs.Application.{Application, uuid_of}
use Rattle.kernel_model.specs.Kernel.{Instance, Kernel, PendingCall, Waits}
use Rattle.kernel_model.specs.Sound.{unmarked_at}

-- where a call waits for an instance of the application, that is the only one of the application that may be kept
abbrev pub IsAwaitedAlone : Application → Kernel → Type 0
IsAwaitedAlone app kernel = (slot : ℕ) (call : PendingCall) (params : CopiedParams) →
    unmarked_at kernel.slots slot ≡ Some call → call.phase ≡ Waits params → call.uuid ≡ Some (uuid_of app) →
    (number : ℕ) (instance : Instance) → get kernel.tables.instances number ≡ Some instance →
    instance.uuid ≡ uuid_of app → call.instance ≡ number
