-- What the plain code of a session does at an event.
use Rattle.std.specs.Prelude.{◌≡◌, ℕ, ◌+◌, ◌<◌, ◌^◌, Option, Some}
use Rattle.base.specs.NumberMap.{get}
use Rattle.kernel_model.specs.Kernel.{CallPhase, Runs, Asks, Waits, Ends}
use Rattle.own_model.specs.Solo.{OwnCall, Solo}
use Rattle.own_model.specs.declared.own_event.OwnEvent.{OwnEvent}
use Rattle.own_model.specs.declared.own_event.OwnEvent.TheVariants.{Open, Invoke, Close, Cancel, Seen, Back, Out, Limited}
use Rattle.own_model.specs.declared.own_reply.OwnReply.{OwnReply}
use Rattle.solo.specs.Standing.{IsSolo}
use Rattle.solo.specs.declared.solo_session.SoloSession.{SoloSession}

-- a call that comes in gets a number of 32 bits, as events name calls
abbrev pub HasNumber : ℕ → OwnEvent → Type 0
HasNumber entered (Open params login area) = entered < 2 ^ 32
HasNumber entered (Invoke func input area) = entered < 2 ^ 32
HasNumber entered (Close area) = entered < 2 ^ 32
HasNumber entered Cancel = entered < 2 ^ 32
HasNumber entered (Seen number steps) = Unit {0}
HasNumber entered (Back number input) = Unit {0}
HasNumber entered (Out number) = Unit {0}
HasNumber entered Limited = Unit {0}

-- by so many steps more a call in this phase doesn't come to 2^128 of them: only one whose job runs does any
abbrev pub HasRoomIn : ℕ → ℕ → CallPhase → Type 0
HasRoomIn most steps (Runs job) = steps + most < 2 ^ 128
HasRoomIn most steps (Asks job wanted payload) = Unit {0}
HasRoomIn most steps (Waits params) = Unit {0}
HasRoomIn most steps (Ends result params told wakes) = Unit {0}

-- nor does a call that goes out
abbrev pub HasRoom : ℕ → Solo → OwnEvent → Type 0
HasRoom most solo (Open params login area) = Unit {0}
HasRoom most solo (Invoke func input area) = Unit {0}
HasRoom most solo (Close area) = Unit {0}
HasRoom most solo Cancel = Unit {0}
HasRoom most solo (Seen number steps) = Unit {0}
HasRoom most solo (Back number input) = Unit {0}
HasRoom most solo (Out number) =
    (call : OwnCall) → get solo.calls number ≡ Some call → HasRoomIn most call.steps call.phase
HasRoom most solo Limited = Unit {0}

-- it answers so, and stands for the machine then
abbrev pub HasStepped : SoloSession → Option OwnReply → Solo → Option OwnReply → Type 0
HasStepped s answer next told = (answer ≡ told) × IsSolo s next

-- it has no reply
abbrev pub IsSilent : OwnEvent → Type 0
IsSilent (Open params login area) = Unit {0}
IsSilent (Invoke func input area) = Unit {0}
IsSilent (Close area) = Unit {0}
IsSilent Cancel = Unit {0}
IsSilent (Seen call steps) = Unit {0}
IsSilent (Back call input) = Unit {0}
IsSilent (Out call) = ⊥
IsSilent Limited = ⊥
