-- What the answer to an SMC says to a client, by its a0 of optee_smc.h, and the registers of the SMCs that a client makes.
use Rattle.std.specs.Prelude.{ℕ, ◌+◌, ◌*◌, ◌^◌, ◌==◌, if◌then◌else◌, [], ◌∷◌, slice_index}
use Rattle.smc_abi.specs.declared.regs.Regs.{Regs}
use Rattle.teec.specs.declared.answer.RpcKind.{RpcKind}
use Rattle.teec.specs.declared.answer.RpcKind.TheVariants.{Alloc, Free, Interrupt, Cmd}
use Rattle.teec.specs.declared.answer.RpcReturn.{RpcReturn}
use Rattle.teec.specs.declared.answer.Said.{Said}
use Rattle.teec.specs.declared.answer.Said.TheVariants.{Finished, NoThread, Returned, Unknown}
use Rattle.teec.specs.Places.{message_at, message_cookie}

-- ---- answers

abbrev pub register : Regs → ℕ → ℕ
register regs number = slice_index regs.a number

-- a number of 64 bits in two registers, the upper half first
abbrev pub cookie_in : Regs → ℕ
cookie_in answer = register answer 1 * 2 ^ 32 + register answer 2

-- an RPC return has the thread in a3
abbrev pub returned : RpcKind → Regs → Said
returned kind answer = Returned (record { kind = kind; thread = register answer 3 })

-- OK, ETHREAD_LIMIT, and the four RPC returns; nothing but a0 tells
abbrev pub said : Regs → Said
said answer =
    if register answer 0 == 0 then Finished
    else if register answer 0 == 1 then NoThread
    else if register answer 0 == 0xffff0000 then returned Alloc answer
    else if register answer 0 == 0xffff0002 then returned Free answer
    else if register answer 0 == 0xffff0004 then returned Interrupt answer
    else if register answer 0 == 0xffff0005 then returned (Cmd (cookie_in answer)) answer
    else Unknown

-- ---- SMCs

-- CALL_WITH_ARG: the argument's address in a1 and a2, and client id 0 in a7
abbrev pub call_with_arg : ℕ → Regs
call_with_arg arg = record { a = 0x32000004 ∷ 0 ∷ arg ∷ 0 ∷ 0 ∷ 0 ∷ 0 ∷ 0 ∷ [] }

-- RETURN_FROM_RPC: the thread in a3, and after ALLOC the buffer's address in a1 and a2 and its cookie in a4 and a5, which are
-- those of the client's one buffer, however many bytes were asked for
abbrev pub return_of : RpcKind → ℕ → Regs
return_of Alloc thread = record { a = 0x32000003 ∷ 0 ∷ message_at ∷ thread ∷ 0 ∷ message_cookie ∷ 0 ∷ 0 ∷ [] }
return_of Free thread = record { a = 0x32000003 ∷ 0 ∷ 0 ∷ thread ∷ 0 ∷ 0 ∷ 0 ∷ 0 ∷ [] }
return_of Interrupt thread = record { a = 0x32000003 ∷ 0 ∷ 0 ∷ thread ∷ 0 ∷ 0 ∷ 0 ∷ 0 ∷ [] }
return_of (Cmd cookie) thread = record { a = 0x32000003 ∷ 0 ∷ 0 ∷ thread ∷ 0 ∷ 0 ∷ 0 ∷ 0 ∷ [] }

abbrev pub return_from_rpc : RpcReturn → Regs
return_from_rpc rpc = return_of rpc.kind rpc.thread
