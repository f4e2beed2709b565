-- What an answer to a call that is under way comes to.
use Rattle.std.specs.Prelude.{Option, Some, None, Result, Ok, Err}
use Rattle.smc_abi.specs.declared.regs.Regs.{Regs}
use Rattle.teec.specs.declared.answer.RpcReturn.{RpcReturn}
use Rattle.teec.specs.declared.answer.Said.{Said}
use Rattle.teec.specs.declared.answer.Said.TheVariants.{Finished, NoThread, Returned, Unknown}
use Rattle.teec.specs.Answers.{said}
use Rattle.teec.specs.declared.fault.TeecFault.{TeecFault}
use Rattle.teec.specs.declared.fault.TeecFault.TheVariants.{Strange}

-- to a call that is under way: its RPC return, None where it has ended; any other answer is strange
abbrev pub return_said : Regs → Said → Result (Option RpcReturn) TeecFault
return_said answer Finished = Ok None
return_said answer NoThread = Err (Strange answer)
return_said answer (Returned rpc) = Ok (Some rpc)
return_said answer Unknown = Err (Strange answer)

abbrev pub return_in : Regs → Result (Option RpcReturn) TeecFault
return_in answer = return_said answer (said answer)
