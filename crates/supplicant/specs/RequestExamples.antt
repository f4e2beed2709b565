-- The definitions of requests and their answers on small inputs: the message at 40010000 that the normal world knows as 77.
use Rattle.std.specs.Prelude.{◌≡◌, ℕ, List, [], ◌∷◌, Some, None}
use Rattle.msg_args.specs.declared.arg.MsgArg.{MsgArg}
use Rattle.rpc_msgs.specs.declared.rpc.Rpc.{Rpc}
use Rattle.rpc_msgs.specs.declared.rpc.Rpc.TheVariants.{Time, Sleep, FsOpen, FsCreate, FsRead}
use Rattle.rpc_msgs.specs.Examples.{name, none, reply, word, write}
use Rattle.rpc_msgs.specs.Request.{argument, request_arg, value_in}
use Rattle.supplicant.specs.Answering.{refusal_writes, reply_writes}
use Rattle.supplicant.specs.Candidate.{rpc_in}

abbrev pub arg_of : Rpc → MsgArg
arg_of rpc = request_arg 0x40010000 77 rpc

-- the argument of the request, with a payload, can be that of the request alone
abbrev pub Comes : Rpc → List ℕ → Type 0
Comes rpc payload = rpc_in (arg_of rpc) payload ≡ Some rpc

pub record RequestExamples : Type 0 where
  pub time : Comes Time []
  pub sleep : Comes (Sleep 9) []
  pub create : Comes (FsCreate name) name
  pub reads : Comes (FsRead 3 8 9) []
  pub not_ascii : rpc_in (arg_of (FsOpen (0x66 ∷ 128 ∷ []))) (0x66 ∷ 128 ∷ []) ≡ None
  pub function_five : rpc_in (argument 2 (value_in 5 3 0 ∷ [])) [] ≡ None
  pub command_six : rpc_in (argument 6 (value_in 0 0 0 ∷ [])) [] ≡ None
  pub wide_key : rpc_in (argument 4 (value_in 0 0x100000000 0 ∷ [])) [] ≡ None
  -- what is written
  pub answers_a_time : reply_writes 0x40010000 Time (reply 0 5 0 0 [])
      ≡ write 0x40010014 (none 4) ∷ write 0x40010028 (word 5) ∷ write 0x40010030 (none 8) ∷ []
  pub answers_a_sleep : reply_writes 0x40010000 (Sleep 9) (reply 0 0 0 0 []) ≡ write 0x40010014 (none 4) ∷ []
  pub answers_an_open : reply_writes 0x40010000 (FsOpen name) (reply 0 2 0 0 []) ≡ write 0x40010014 (none 4) ∷ write 0x40010068 (word 2) ∷ []
  pub answers_a_read : reply_writes 0x40010000 (FsRead 3 8 9) (reply 0 0 0 1 (7 ∷ []))
      ≡ write 0x40010014 (none 4) ∷ write 0x40010050 (word 1) ∷ write 0x40010200 (7 ∷ []) ∷ []
  pub refuses : refusal_writes 0x40010000 ≡ write 0x40010014 (10 ∷ 0 ∷ 255 ∷ 255 ∷ []) ∷ []
