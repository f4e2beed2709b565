-- What native applications answer. This project's own.
use Rattle.std.specs.Prelude.{ℕ, ◌==◌, ◌&&◌, if◌then◌else◌, nat_lt, List, [], ◌++◌, length, drop}
use Rattle.sha2.specs.Sha256.{sha256}
use Rattle.ta_params.specs.CopiedParams.{type_word}
use Rattle.ta_params.specs.declared.copied_params.GpParam.{GpParam}
use Rattle.ta_params.specs.declared.copied_params.GpParam.TheVariants.{Empty, Value, Memref}
use Rattle.ta_params.specs.declared.copied_params.CopiedParams.{CopiedParams}
use Rattle.native_tas.specs.declared.relation.Relation.{Relation}
use Rattle.native_tas.specs.declared.relation.Relation.TheVariants.{Digest, Fixed}

-- the bytes of a memory parameter
abbrev pub bytes_of : GpParam → List ℕ
bytes_of (Memref way buf size) = buf
bytes_of Empty = []
bytes_of (Value way a b) = []

-- the parameter with other bytes and another size
abbrev pub answered : GpParam → List ℕ → ℕ → GpParam
answered (Memref way buf size) bytes n = Memref way bytes n
answered Empty bytes n = Empty
answered (Value way a b) bytes n = Value way a b

-- a result, and the bytes of the output: where they are at least 32, the digest of the message before what
-- stood behind, and else SHORT_BUFFER
abbrev pub digested : List ℕ → List ℕ → ℕ × List ℕ
digested message output =
    if nat_lt (length output) 32
    then (0xffff0010, output)
    else (0, sha256 message ++ drop 32 output)

-- what a native application answers to a command with these parameters: a result, and the parameters that
-- it leaves
-- (a digest takes a memref for input, one for output and no more, and its second size becomes 32; anything else is
-- BAD_PARAMETERS)
abbrev pub answer_of : Relation → ℕ → CopiedParams → ℕ × CopiedParams
answer_of (Fixed n) command params = (n, params)
answer_of Digest command params =
    if command == 0 && type_word params == 0x0065
    then (
      (digested (bytes_of params.p0) (bytes_of params.p1)).0,
      record params { p1 = answered params.p1 (digested (bytes_of params.p0) (bytes_of params.p1)).1 32 },
    )
    else (0xffff0006, params)
