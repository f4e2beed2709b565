-- Words of answers, and results of calls.
use Rattle.std.specs.Prelude.{ℕ}
use Rattle.smc_abi.specs.declared.answer.Answer.{Answer}
use Rattle.smc_abi.specs.declared.answer.Answer.TheVariants.{Words}

-- ---- what a0 says, by optee_smc.h; a1 to a3 are 0

abbrev pub ok : Answer
ok = Words 0 0 0 0

abbrev pub ethread_limit : Answer
ethread_limit = Words 1 0 0 0

abbrev pub eresume : Answer
eresume = Words 3 0 0 0

abbrev pub ebadaddr : Answer
ebadaddr = Words 4 0 0 0

abbrev pub ebadcmd : Answer
ebadcmd = Words 5 0 0 0

abbrev pub unknown_function : Answer
unknown_function = Words 0xffffffff 0 0 0

-- ---- results, by the TEE Client API, "Return codes"

abbrev pub success : ℕ
success = 0

abbrev pub bad_parameters : ℕ
bad_parameters = 0xffff0006

abbrev pub item_not_found : ℕ
item_not_found = 0xffff0008

abbrev pub out_of_memory : ℕ
out_of_memory = 0xffff000c

abbrev pub busy : ℕ
busy = 0xffff000d

abbrev pub target_dead : ℕ
target_dead = 0xffff3024
