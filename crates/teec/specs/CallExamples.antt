-- The definitions of arguments, answers and results on small inputs, worked out by hand.
use Rattle.std.specs.Prelude.{◌≡◌, ℕ, true, false, List, [], ◌∷◌, ◌++◌, replicate, None}
use Rattle.msg_args.specs.declared.arg.MsgArg.{MsgArg}
use Rattle.msg_args.specs.declared.kind.ParamKind.{ParamKind}
use Rattle.msg_args.specs.declared.kind.ParamKind.TheVariants as kinds
use Rattle.msg_args.specs.declared.param.MsgParam.{MsgParam}
use Rattle.smc_abi.specs.declared.regs.Regs.{Regs}
use Rattle.ta_params.specs.declared.copied_params.Way.TheVariants.{In, Out, Inout}
use Rattle.ta_params.specs.declared.copied_params.GpParam.{GpParam}
use Rattle.ta_params.specs.declared.copied_params.GpParam.TheVariants.{Empty, Value, Memref}
use Rattle.teec.specs.declared.answer.RpcKind.TheVariants.{Alloc, Cmd}
use Rattle.teec.specs.declared.answer.Said.TheVariants.{Returned, Unknown}
use Rattle.teec.specs.declared.operation.Operation.{Operation}
use Rattle.teec.specs.Answers.{return_from_rpc, said}
use Rattle.teec.specs.Arguments.{cancel_argument, close_argument, invoke_argument, open_argument}
use Rattle.teec.specs.Results.{opened_in}
use Rattle.teec.specs.Operation.{buffer_writes, param_back, params_sent}

-- ---- parameters

abbrev pub operation : GpParam → GpParam → GpParam → GpParam → Operation
operation p0 p1 p2 p3 = record { params = record { p0 = p0; p1 = p1; p2 = p2; p3 = p3 }; cancel_after = None }

-- a value of 5 and 7 that goes both ways, alone; an output of three bytes, nothing, and an input of one byte
abbrev pub one_value : Operation
one_value = operation (Value Inout 5 7) Empty Empty Empty

abbrev pub two_buffers : Operation
two_buffers = operation (Memref Out (7 ∷ 8 ∷ 9 ∷ []) 3) Empty (Memref In (6 ∷ []) 1) Empty

abbrev pub param : ParamKind → ℕ → ℕ → MsgParam
param kind p q = record { kind = kind; meta = false; noncontig = false; cache = 0; p = p; q = q; s = 0 }

abbrev pub meta_value : ℕ → ℕ → MsgParam
meta_value p q = record { kind = kinds.ValueIn; meta = true; noncontig = false; cache = 0; p = p; q = q; s = 0 }

-- of the head, the numbers that aren't 0
abbrev pub argument : ℕ → ℕ → ℕ → ℕ → List MsgParam → MsgArg
argument cmd func session count params =
    record {
      head = record { cmd = cmd; func = func; session = session; cancel_id = 1; pad = 0; ret = 0; origin = 0; count = count };
      params = record { items = params };
    }

-- 11111111-2222-3333-4444-555555555555
abbrev pub app : List ℕ
app = replicate 4 0x11 ++ replicate 2 0x22 ++ replicate 2 0x33 ++ replicate 2 0x44 ++ replicate 6 0x55

-- an argument of one parameter as a core has left it: session 1, result FFFF0010 of origin 4, and the numbers 12 and 2^32 + 3
abbrev pub left : List ℕ → List ℕ
left result =
    replicate 8 0 ++ (1 ∷ 0 ∷ 0 ∷ 0 ∷ []) ++ replicate 8 0 ++ result ++ (4 ∷ 0 ∷ 0 ∷ 0 ∷ []) ++ replicate 4 0
    ++ replicate 8 0 ++ (12 ∷ 0 ∷ 0 ∷ 0 ∷ 0 ∷ 0 ∷ 0 ∷ 0 ∷ []) ++ (3 ∷ 0 ∷ 0 ∷ 0 ∷ 1 ∷ 0 ∷ 0 ∷ 0 ∷ []) ++ replicate 8 0

abbrev pub success : List ℕ
success = left (replicate 4 0)

abbrev pub short_buffer : List ℕ
short_buffer = left (0x10 ∷ 0 ∷ 0xff ∷ 0xff ∷ [])

-- ---- answers

-- the first four registers, the cookie's upper and lower half in two of them
abbrev pub answer_of : ℕ → ℕ → ℕ → ℕ → Regs
answer_of a0 a1 a2 a3 = record { a = a0 ∷ a1 ∷ a2 ∷ a3 ∷ 0 ∷ 0 ∷ 0 ∷ 0 ∷ [] }

pub record CallExamples : Type 0 where
  -- arguments
  pub opens : open_argument app one_value 0 ≡ argument 0 0 0 2 (meta_value 0x3333222211111111 0x5555555555554444 ∷ meta_value 0 0 ∷ [])
  pub invokes : invoke_argument 1 0xfa one_value 1 ≡ argument 1 0xfa 1 1 (param kinds.ValueInout 5 7 ∷ [])
  pub sends_four : params_sent one_value 4
      ≡ param kinds.ValueInout 5 7 ∷ param kinds.Empty 0 0 ∷ param kinds.Empty 0 0 ∷ param kinds.Empty 0 0 ∷ []
  pub sends_places : params_sent two_buffers 3
      ≡ param kinds.TmemOut 0x40100000 3 ∷ param kinds.Empty 0 0 ∷ param kinds.TmemIn 0x40120000 1 ∷ []
  pub writes_outputs_too : buffer_writes two_buffers
      ≡ record { addr = 0x40100000; bytes = 7 ∷ 8 ∷ 9 ∷ [] } ∷ record { addr = 0x40120000; bytes = 6 ∷ [] } ∷ []
  pub closes : close_argument 3 ≡ argument 2 0 3 0 []
  pub cancels : cancel_argument 3 ≡ argument 3 0 3 0 []
  -- outputs
  pub value_back : param_back success 0 0 (Value Inout 5 7) ≡ Value Inout 12 3
  pub input_stays : param_back success 0 0 (Value In 5 7) ≡ Value In 5 7
  pub size_of_another : param_back success 0 3 (Memref Out [] 0) ≡ Memref Out [] 3
  pub opened : opened_in success ≡ record { session = 1; result = record { result = 0; origin = 4 } }
  pub not_opened : opened_in short_buffer ≡ record { session = 0; result = record { result = 0xffff0010; origin = 4 } }
  -- answers
  pub cookie : said (answer_of 0xffff0005 1 2 3) ≡ Returned (record { kind = Cmd 0x100000002; thread = 3 })
  pub odd_return : said (answer_of 0xffff0001 0 0 0) ≡ Unknown
  pub gives_its_buffer : return_from_rpc (record { kind = Alloc; thread = 2 })
      ≡ record { a = 0x32000003 ∷ 0 ∷ 0x40010000 ∷ 2 ∷ 0 ∷ 1 ∷ 0 ∷ 0 ∷ [] }
