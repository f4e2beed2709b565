-- What the fast calls are answered, by `optee_smc.h`.
use Rattle.std.specs.Prelude.{ℕ, nat_lt, List, slice_index, if◌then◌else◌}
use Rattle.smc_abi.specs.declared.answer.Answer.{Answer}
use Rattle.smc_abi.specs.declared.answer.Answer.TheVariants.{Words}
use Rattle.smc_abi.specs.declared.call.FastCall.{FastCall}
use Rattle.smc_abi.specs.declared.call.FastCall.TheVariants.{CallsUid, CallsRevision, OsUuid, OsRevision, ShmConfig, Capabilities, DisableShmCache, EnableShmCache, ThreadCount}

-- OK where no bit other than bit 0 is set, else ENOTAVAIL
abbrev pub capabilities_status : ℕ → ℕ
capabilities_status normal = if nat_lt normal 2 then 0 else 7

-- how many parameters the argument of an RPC has room for beside a message argument, told where the status is OK
abbrev pub told_rpc_params : ℕ → ℕ
told_rpc_params normal = if nat_lt normal 2 then 4 else 0

-- dynamic shared memory, null memory references, and the RPC argument beside the message argument
abbrev pub capabilities_of : ℕ → Answer
capabilities_of normal = Words (capabilities_status normal) 0x54 0 (told_rpc_params normal)

-- the answer of a call with these registers, of a core of so many threads
abbrev pub fast_answer_of : FastCall → List ℕ → ℕ → Answer
fast_answer_of CallsUid regs threads = Words 0x384fb3e0 0xe7f811e3 0xaf630002 0xa5d5c51b
fast_answer_of CallsRevision regs threads = Words 2 0 0 0
fast_answer_of OsUuid regs threads = Words 0x486178e0 0xe7f811e3 0xbc5e0002 0xa5d5c51b
fast_answer_of OsRevision regs threads = Words 4 0 0 0
fast_answer_of ShmConfig regs threads = Words 7 0 0 0
fast_answer_of Capabilities regs threads = capabilities_of (slice_index regs 1)
fast_answer_of DisableShmCache regs threads = Words 7 0 0 0
fast_answer_of EnableShmCache regs threads = Words 0 0 0 0
fast_answer_of ThreadCount regs threads = Words 0 threads 0 0
