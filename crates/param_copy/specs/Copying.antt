-- The copying of a call's parameters, as a reader: the parameters one after the other, and of each its page
-- lists and then its bytes. By optee_msg.h, and the parameters of the TEE Internal Core API.
use Rattle.std.specs.Prelude.{ℕ, suc, ◌%◌, ◌^◌, List, [], ◌∷◌, length, map, Option, Some, None}
use Rattle.std.specs.List.{flat_map}
use Rattle.base.specs.NumberMap.{NumberMap}
use Rattle.msg_args.specs.declared.kind.ParamKind.{ParamKind}
use Rattle.msg_args.specs.declared.kind.ParamKind.TheVariants.{Empty as NoParam, ValueIn, ValueOut, ValueInout, RmemIn, RmemOut, RmemInout, TmemIn, TmemOut, TmemInout}
use Rattle.msg_args.specs.declared.param.MsgParam.{MsgParam}
use Rattle.ns_ram.specs.Attempt.{Attempt, passes, read, ◌>>=◌}
use Rattle.ns_ram.specs.Reader.{Reader, done}
use Rattle.shm_registry.specs.declared.page_buffer.PageBuffer.{PageBuffer}
use Rattle.shm_registry.specs.declared.piece.Piece.{Piece}
use Rattle.ta_params.specs.declared.copied_params.Way.{Way}
use Rattle.ta_params.specs.declared.copied_params.Way.TheVariants.{In, Out, Inout}
use Rattle.ta_params.specs.declared.copied_params.GpParam.{GpParam}
use Rattle.ta_params.specs.declared.copied_params.GpParam.TheVariants.{Empty, Value, Memref}
use Rattle.ta_params.specs.declared.copied_params.CopiedParams.{CopiedParams}
use Rattle.param_copy.specs.declared.copied.Place.{Place}
use Rattle.param_copy.specs.declared.fault.CopyFault.{CopyFault}
use Rattle.param_copy.specs.declared.taken.CopiedParam.{CopiedParam}
use Rattle.param_copy.specs.Memory.{rmem_pieces, tmem_pieces, take_pieces, zeros_for}

-- no memory
abbrev pub without_memory : ℕ → GpParam → Attempt CopyFault CopiedParam
without_memory number param =
    passes (record { param = param; place = record { number = number; pieces = [] }; cookie = None })

-- a value has the low 32 bits of p and q
abbrev pub value_in : Way → MsgParam → GpParam
value_in way param = Value way (param.p % 2 ^ 32) (param.q % 2 ^ 32)

-- the bytes are read, those of an output aren't
abbrev pub bytes_of : Way → List Piece → Reader (List ℕ)
bytes_of Out pieces = done (zeros_for pieces)
bytes_of In pieces = take_pieces pieces
bytes_of Inout pieces = take_pieces pieces

-- memory in these pieces
abbrev pub memory : ℕ → Way → Option ℕ → Attempt CopyFault (List Piece) → Attempt CopyFault CopiedParam
memory number way cookie located = do
  pieces ← located
  bytes ← read (bytes_of way pieces)
  passes (record { param = Memref way bytes (length bytes); place = record { number = number; pieces = pieces }; cookie = cookie })

abbrev pub copied_as : ParamKind → NumberMap PageBuffer → ℕ → MsgParam → Attempt CopyFault CopiedParam
copied_as NoParam buffers number param = without_memory number Empty
copied_as ValueIn buffers number param = without_memory number (value_in In param)
copied_as ValueOut buffers number param = without_memory number (Value Out 0 0)
copied_as ValueInout buffers number param = without_memory number (value_in Inout param)
copied_as RmemIn buffers number param = memory number In (Some param.s) (rmem_pieces buffers number param)
copied_as RmemOut buffers number param = memory number Out (Some param.s) (rmem_pieces buffers number param)
copied_as RmemInout buffers number param = memory number Inout (Some param.s) (rmem_pieces buffers number param)
copied_as TmemIn buffers number param = memory number In None (tmem_pieces number param)
copied_as TmemOut buffers number param = memory number Out None (tmem_pieces number param)
copied_as TmemInout buffers number param = memory number Inout None (tmem_pieces number param)

-- the parameter of this number in the argument
abbrev pub copied_param : NumberMap PageBuffer → ℕ → MsgParam → Attempt CopyFault CopiedParam
copied_param buffers number param = copied_as param.kind buffers number param

-- one parameter after the other, from this number on
abbrev pub copied_params : NumberMap PageBuffer → ℕ → List MsgParam → Attempt CopyFault (List CopiedParam)
copied_params buffers number [] = passes []
copied_params buffers number (param ∷ params) = do
  copy ← copied_param buffers number param
  others ← copied_params buffers (suc number) params
  passes (copy ∷ others)

-- four parameters, of which the last are empty where there are fewer
abbrev pub param_or_empty : List GpParam → GpParam
param_or_empty [] = Empty
param_or_empty (param ∷ params) = param

abbrev pub others : List GpParam → List GpParam
others [] = []
others (param ∷ params) = params

abbrev pub four : List GpParam → CopiedParams
four params =
    record {
      p0 = param_or_empty params;
      p1 = param_or_empty (others params);
      p2 = param_or_empty (others (others params));
      p3 = param_or_empty (others (others (others params)));
    }

-- what a call keeps of its parameters: the copies, where they came from, and the cookies of those that are
-- parts of registered buffers
pub record Copies : Type 0 where
  pub params : CopiedParams
  pub places : List Place
  pub cookies : List ℕ

-- the cookie, if there is one
abbrev pub cookie_list : Option ℕ → List ℕ
cookie_list None = []
cookie_list (Some cookie) = cookie ∷ []

abbrev pub copies : List CopiedParam → Copies
copies all =
    record {
      params = four (map (λ copy. copy.param) all);
      places = map (λ copy. copy.place) all;
      cookies = flat_map (λ copy. cookie_list copy.cookie) all;
    }

-- the parameters of a call, of which the first has this number in the argument; or the first fault
abbrev pub copying : NumberMap PageBuffer → List MsgParam → ℕ → Attempt CopyFault Copies
copying buffers params first = do
  all ← copied_params buffers first params
  passes (copies all)
