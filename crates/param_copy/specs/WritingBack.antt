-- What a call writes back of its parameters, in order. Each write stands over the ones before it.
use Rattle.std.specs.Prelude.{ℕ, nat_le, List, [], ◌∷◌, ◌++◌, length, take, drop, if◌then◌else◌}
use Rattle.std.specs.Int.{to_le_bytes, w64}
use Rattle.msg_args.specs.Layout.{p_at, q_at}
use Rattle.ns_ram.specs.Writes.{Write}
use Rattle.shm_registry.specs.declared.piece.Piece.{Piece}
use Rattle.ta_params.specs.declared.copied_params.Way.TheVariants.{In, Out, Inout}
use Rattle.ta_params.specs.declared.copied_params.GpParam.{GpParam}
use Rattle.ta_params.specs.declared.copied_params.GpParam.TheVariants.{Empty, Value, Memref}
use Rattle.ta_params.specs.declared.copied_params.CopiedParams.{CopiedParams}
use Rattle.param_copy.specs.declared.copied.Place.{Place}

-- a number of eight bytes, the lowest first
abbrev pub word_to : ℕ → ℕ → Write
word_to addr number = record { addr = addr; bytes = to_le_bytes w64 number }

-- bytes into pieces, the first piece first
abbrev pub bytes_to : List Piece → List ℕ → List Write
bytes_to pieces [] = []
bytes_to [] (byte ∷ bytes) = []
bytes_to (piece ∷ pieces) (byte ∷ bytes) =
    let all = byte ∷ bytes in
    record { addr = piece.addr; bytes = take piece.len all } ∷ bytes_to pieces (drop piece.len all)

-- the size into this place, and as many of the bytes, where there are so many
abbrev pub memory_to : ℕ → List Piece → List ℕ → ℕ → List Write
memory_to size_place pieces bytes size =
    let byte_writes = if nat_le size (length bytes) then bytes_to pieces (take size bytes) else [] in
    word_to size_place size ∷ byte_writes

-- two numbers, as p and q of a parameter of the argument
abbrev pub values_to : ℕ → Place → ℕ → ℕ → List Write
values_to arg place a b = word_to (p_at arg place.number) a ∷ word_to (q_at arg place.number) b ∷ []

-- the writes of one parameter: an input has none
abbrev pub param_writes : ℕ → Place → GpParam → List Write
param_writes arg place Empty = []
param_writes arg place (Value In a b) = []
param_writes arg place (Value Out a b) = values_to arg place a b
param_writes arg place (Value Inout a b) = values_to arg place a b
param_writes arg place (Memref In bytes size) = []
param_writes arg place (Memref Out bytes size) = memory_to (q_at arg place.number) place.pieces bytes size
param_writes arg place (Memref Inout bytes size) = memory_to (q_at arg place.number) place.pieces bytes size

-- one parameter after the other
abbrev pub writes_of : ℕ → List Place → List GpParam → List Write
writes_of arg [] params = []
writes_of arg (place ∷ places) [] = []
writes_of arg (place ∷ places) (param ∷ params) = param_writes arg place param ++ writes_of arg places params

-- the four parameters of a call
abbrev pub params_of : CopiedParams → List GpParam
params_of params = params.p0 ∷ params.p1 ∷ params.p2 ∷ params.p3 ∷ []

-- what is written back to the argument at an address, and to the places of its parameters
abbrev pub writes_back : ℕ → List Place → CopiedParams → List Write
writes_back arg places params = writes_of arg places (params_of params)
