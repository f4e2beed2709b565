-- The call is the id's, by what `named_call` ensures.
use Rattle.smc_abi.proofs.Rows.{unknown_exactly}
use Rattle.smc_abi.proofs.call.decode_call.Goals as goal

pub returns-clause-unknown : goal.returns-clause-unknown
returns-clause-unknown c = unknown_exactly _ _ c.named_call.ensures
