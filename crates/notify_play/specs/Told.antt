-- What a processor is told at an exit and what is written there, where a desk of signals answers above the core. By
-- OP-TEE's optee_smc.h and optee_msg.h.
use Rattle.std.specs.Prelude.{ℕ, ◌==◌, Bool, if◌then◌else◌, List, [], ◌∷◌, slice_index, slice_set, Option, None, Some}
use Rattle.std.specs.Int.RustNames.{bit_or}
use Rattle.kernel_model.specs.Codes.{ok}
use Rattle.kernel_model.specs.Exit.{word32}
use Rattle.msg_args.specs.Layout.{origin_at, ret_at}
use Rattle.native_tas.specs.declared.driver_relation.DriverRelation.{DriverRelation}
use Rattle.notif.specs.Desk.{DeskState, bottom_half_answer, first_noted}
use Rattle.notif.specs.History.{BottomHalf, DeskCall, Enable, Next, Stop}
use Rattle.notif.specs.declared.noted.Noted.{Noted}
use Rattle.ns_ram.specs.Writes.{Write}
use Rattle.smc_abi.specs.Answer.{registers_of}
use Rattle.smc_abi.specs.declared.answer.Answer.{Answer}
use Rattle.smc_abi.specs.declared.answer.Answer.TheVariants.{Words}
use Rattle.notify_play.specs.Duty.{Duty, Enables, Nothing, Offers, RunsBottomHalf, Stops, TellsValue}

-- ---- registers

-- in a2 bit 0 says that there is a value, and bit 1 that more are pending
abbrev pub value_bits : Bool → ℕ
value_bits more = if more then 3 else 1

-- the first pending value, in a1
abbrev pub value_answer : Option Noted → Answer
value_answer None = Words 0 0 0 0
value_answer (Some noted) = Words 0 noted.value (value_bits noted.more) 0

-- the registers with bit 5 in a1 besides, OPTEE_SMC_SEC_CAP_ASYNC_NOTIF
abbrev pub with_capability : List ℕ → List ℕ
with_capability regs = slice_set regs 1 (bit_or (slice_index regs 1) 32)

-- and where they say OK, with the highest value of a signal in a2
abbrev pub with_highest_value : List ℕ → List ℕ
with_highest_value regs = if slice_index regs 0 == 0 then slice_set regs 2 63 else regs

-- the registers that are told, where the desk is so, the caller came in with these, and the kernel answers those
abbrev pub told_regs : DeskState → List ℕ → List ℕ → Duty → List ℕ
told_regs desk caller answered Nothing = answered
told_regs desk caller answered TellsValue = registers_of (value_answer (first_noted desk.pending)) caller
told_regs desk caller answered Enables = registers_of ok caller
told_regs desk caller answered Offers = with_highest_value (with_capability answered)
told_regs desk caller answered (RunsBottomHalf arg) = registers_of ok caller
told_regs desk caller answered (Stops arg) = registers_of ok caller

-- ---- writes

-- this result in an argument, from TEE_ORIGIN_TEE of the TEE Client API, which is 3
abbrev pub result_in : ℕ → ℕ → List Write
result_in arg result = word32 (ret_at arg) result ∷ word32 (origin_at arg) 3 ∷ []

-- what the desk writes, where these are its drivers
abbrev pub told_writes : List (ℕ × DriverRelation) → DeskState → Duty → List Write
told_writes drivers desk (RunsBottomHalf arg) = result_in arg (bottom_half_answer drivers desk)
told_writes drivers desk (Stops arg) = result_in arg 0
told_writes drivers desk _ = []

-- ---- the desk

-- the calls that are made of the desk, each before those made earlier
abbrev pub with_duty : Duty → List DeskCall → List DeskCall
with_duty TellsValue calls = Next ∷ calls
with_duty Enables calls = Enable ∷ calls
with_duty (RunsBottomHalf arg) calls = BottomHalf ∷ calls
with_duty (Stops arg) calls = Stop ∷ calls
with_duty _ calls = calls
