-- The definitions at small inputs. The lanes here are shorter than RAM.
use Rattle.std.specs.Prelude.{◌≡◌, ℕ, true, false, List, [], ◌∷◌, ◌++◌, Some, Ok, Err}
use Rattle.base.specs.NumberMap.{NumberMap}
use Rattle.msg_args.specs.declared.kind.ParamKind.{ParamKind}
use Rattle.msg_args.specs.declared.kind.ParamKind.TheVariants.{Empty as NoParam, ValueIn, ValueOut, ValueInout, RmemIn, RmemOut, RmemInout, TmemIn, TmemOut, TmemInout}
use Rattle.msg_args.specs.declared.param.MsgParam.{MsgParam}
use Rattle.ns_ram.specs.declared.read.Read.{Read}
use Rattle.ns_ram.specs.Examples.{read_of}
use Rattle.ns_ram.specs.Reader.{reading, over_lane}
use Rattle.ns_ram.specs.Writes.{Write, lane_after}
use Rattle.shm_registry.specs.declared.page_buffer.PageBuffer.{PageBuffer}
use Rattle.shm_registry.specs.declared.piece.Piece.{Piece}
use Rattle.ta_params.specs.declared.copied_params.Way.TheVariants.{In, Out, Inout}
use Rattle.ta_params.specs.declared.copied_params.GpParam.{GpParam}
use Rattle.ta_params.specs.declared.copied_params.GpParam.TheVariants.{Empty, Value, Memref}
use Rattle.param_copy.specs.declared.copied.Place.{Place}
use Rattle.param_copy.specs.declared.fault.CopyFault.{CopyFault}
use Rattle.param_copy.specs.declared.fault.CopyFault.TheVariants.{TooLong, Cookie, Range, Page}
use Rattle.param_copy.specs.Copying.{copying, four}
use Rattle.param_copy.specs.WritingBack.{writes_back}

-- the first eight bytes of RAM
abbrev pub lane : List ℕ
lane = 10 ∷ 11 ∷ 12 ∷ 13 ∷ 14 ∷ 15 ∷ 16 ∷ 17 ∷ []

-- a buffer of four bytes, the first of them at 2 in RAM
abbrev pub buffers : NumberMap PageBuffer
buffers = (9, record { pages = 0x40000000 ∷ []; offset = 2; size = 4 }) ∷ []

abbrev pub param : ParamKind → ℕ → ℕ → ℕ → MsgParam
param kind p q s = record { kind = kind; meta = false; noncontig = false; cache = 0; p = p; q = q; s = s }

abbrev pub chained : ParamKind → ℕ → ℕ → MsgParam
chained kind p q = record { kind = kind; meta = false; noncontig = true; cache = 0; p = p; q = q; s = 0 }

abbrev pub piece : ℕ → ℕ → Piece
piece addr len = record { addr = addr; len = len }

abbrev pub place : ℕ → List Piece → Place
place number pieces = record { number = number; pieces = pieces }

-- eight bytes: the addresses of two pages, and a number that is none
abbrev pub one : List ℕ
one = 0 ∷ 16 ∷ 0 ∷ 64 ∷ 0 ∷ 0 ∷ 0 ∷ 0 ∷ []

abbrev pub two : List ℕ
two = 0 ∷ 32 ∷ 0 ∷ 64 ∷ 0 ∷ 0 ∷ 0 ∷ 0 ∷ []

abbrev pub none : List ℕ
none = 5 ∷ 0 ∷ 0 ∷ 0 ∷ 0 ∷ 0 ∷ 0 ∷ 0 ∷ []

-- over the lane, the parameters are copied so, with these reads
abbrev pub CopiesAs : List MsgParam → List GpParam → List Place → List ℕ → List Read → Type 0
CopiesAs params all places cookies reads =
    over_lane (copying buffers params 2) lane []
    ≡ Some (Ok (record { params = four all; places = places; cookies = cookies }), reads)

-- over the lane, they have this fault, after these reads
abbrev pub Refuses : List MsgParam → CopyFault → List Read → Type 0
Refuses params fault reads = over_lane (copying buffers params 2) lane [] ≡ Some (Err fault, reads)

-- of these reads, the one parameter is copied so
abbrev pub ReadsAs : MsgParam → List Read → GpParam → List Piece → Type 0
ReadsAs one_param reads copy pieces =
    reading (copying [] (one_param ∷ []) 0) reads
    ≡ Some (Ok (record { params = four (copy ∷ []); places = place 0 pieces ∷ []; cookies = [] }))

-- of these reads, the one parameter has this fault
abbrev pub ReadsRefused : MsgParam → List Read → CopyFault → Type 0
ReadsRefused one_param reads fault = reading (copying [] (one_param ∷ []) 0) reads ≡ Some (Err fault)

abbrev pub write : ℕ → List ℕ → Write
write addr bytes = record { addr = addr; bytes = bytes }

-- eight bytes of a small number
abbrev pub word : ℕ → List ℕ
word number = number ∷ 0 ∷ 0 ∷ 0 ∷ 0 ∷ 0 ∷ 0 ∷ 0 ∷ []

-- two pieces of two bytes, which overlap in one
abbrev pub overlapping : List Piece
overlapping = piece 0x40000001 2 ∷ piece 0x40000002 2 ∷ []

pub record Examples : Type 0 where
  -- values
  pub no_parameters : CopiesAs [] [] [] [] []
  pub values : CopiesAs (param ValueIn 0x700000005 6 9 ∷ param ValueOut 5 6 9 ∷ param ValueInout 7 8 9 ∷ [])
      (Value In 5 6 ∷ Value Out 0 0 ∷ Value Inout 7 8 ∷ []) (place 2 [] ∷ place 3 [] ∷ place 4 [] ∷ []) [] []
  -- a part of a registered buffer
  pub registered : CopiesAs (param RmemIn 1 3 9 ∷ []) (Memref In (13 ∷ 14 ∷ 15 ∷ []) 3 ∷ []) (place 2 (piece 0x40000003 3 ∷ []) ∷ []) (9 ∷ [])
      (read_of 0x40000003 (13 ∷ 14 ∷ 15 ∷ []) ∷ [])
  pub registered_output : CopiesAs (param NoParam 0 0 0 ∷ param RmemOut 0 2 9 ∷ []) (Empty ∷ Memref Out (0 ∷ 0 ∷ []) 2 ∷ [])
      (place 2 [] ∷ place 3 (piece 0x40000002 2 ∷ []) ∷ []) (9 ∷ []) []
  pub registered_of_no_bytes : CopiesAs (param RmemInout 4 0 9 ∷ param RmemIn 0 1 9 ∷ []) (Memref Inout [] 0 ∷ Memref In (12 ∷ []) 1 ∷ [])
      (place 2 [] ∷ place 3 (piece 0x40000002 1 ∷ []) ∷ []) (9 ∷ 9 ∷ []) (read_of 0x40000002 (12 ∷ []) ∷ [])
  pub unknown : Refuses (param RmemOut 5 1 8 ∷ []) (Cookie 2) []
  pub past_the_buffer : Refuses (param RmemIn 3 2 9 ∷ []) (Range 2) []
  pub nothing_past_the_buffer : Refuses (param RmemIn 5 0 9 ∷ []) (Range 2) []
  -- bytes at an address
  pub contiguous : CopiesAs (param TmemInout 0x40000001 2 0 ∷ []) (Memref Inout (11 ∷ 12 ∷ []) 2 ∷ []) (place 2 (piece 0x40000001 2 ∷ []) ∷ []) []
      (read_of 0x40000001 (11 ∷ 12 ∷ []) ∷ [])
  pub output : CopiesAs (param TmemOut 0x40000001 2 0 ∷ []) (Memref Out (0 ∷ 0 ∷ []) 2 ∷ []) (place 2 (piece 0x40000001 2 ∷ []) ∷ []) [] []
  pub null_reference : CopiesAs (param TmemIn 0 0xffffffffffffffff 0 ∷ []) (Memref In [] 0 ∷ []) (place 2 [] ∷ []) [] []
  pub nothing_at_the_end : CopiesAs (param TmemIn 0x40400000 0 0 ∷ []) (Memref In [] 0 ∷ []) (place 2 [] ∷ []) [] []
  pub nothing_past_the_end : Refuses (param TmemIn 0x40400001 0 0 ∷ []) (Range 2) []
  pub past_ram : Refuses (param TmemOut 0x403fffff 2 0 ∷ []) (Range 2) []
  -- bytes in the pages of a chain
  pub over_two_pages : ReadsAs (chained TmemIn 0x40000fff 2) (read_of 0x40000000 (one ++ two) ∷ read_of 0x40001fff (7 ∷ []) ∷ read_of 0x40002000 (8 ∷ []) ∷ [])
      (Memref In (7 ∷ 8 ∷ []) 2) (piece 0x40001fff 1 ∷ piece 0x40002000 1 ∷ [])
  pub page_twice : ReadsAs (chained TmemInout 0x40000fff 2) (read_of 0x40000000 (one ++ one) ∷ read_of 0x40001fff (7 ∷ []) ∷ read_of 0x40001000 (8 ∷ []) ∷ [])
      (Memref Inout (7 ∷ 8 ∷ []) 2) (piece 0x40001fff 1 ∷ piece 0x40001000 1 ∷ [])
  pub chained_output : ReadsAs (chained TmemOut 0x40000000 3) (read_of 0x40000000 one ∷ []) (Memref Out (0 ∷ 0 ∷ 0 ∷ []) 3) (piece 0x40001000 3 ∷ [])
  pub chained_of_no_bytes : ReadsAs (chained TmemIn 5 0) [] (Memref In [] 0) []
  pub bad_page : ReadsRefused (chained TmemIn 0x40000fff 2) (read_of 0x40000000 (one ++ none) ∷ []) (Page 0 1)
  pub bad_list : ReadsRefused (chained TmemIn 0 1) [] (Page 0 0)
  -- the first fault
  pub long_before_unknown : Refuses (param RmemIn 0 65537 8 ∷ []) (TooLong 2) []
  pub long_before_range : Refuses (param TmemIn 1 65537 0 ∷ []) (TooLong 2) []
  pub long_before_page : ReadsRefused (chained TmemIn 0 65537) [] (TooLong 0)
  pub second_faulty : Refuses (param TmemIn 0x40000001 2 0 ∷ param RmemIn 0 1 8 ∷ param TmemIn 0 65537 0 ∷ []) (Cookie 3) (read_of 0x40000001 (11 ∷ 12 ∷ []) ∷ [])
  -- what is written back
  pub inputs_stay : writes_back 0x40000000 (place 0 [] ∷ place 1 (piece 0x40000001 1 ∷ []) ∷ []) (four (Value In 1 2 ∷ Memref In (7 ∷ []) 1 ∷ [])) ≡ []
  pub two_values : writes_back 0x40000000 (place 2 [] ∷ []) (four (Value Inout 1 2 ∷ []))
      ≡ write 0x40000068 (word 1) ∷ write 0x40000070 (word 2) ∷ []
  pub less_than_the_buffer : writes_back 0x40000000 (place 0 overlapping ∷ []) (four (Memref Out (1 ∷ 2 ∷ 3 ∷ 4 ∷ []) 3 ∷ []))
      ≡ write 0x40000030 (word 3) ∷ write 0x40000001 (1 ∷ 2 ∷ []) ∷ write 0x40000002 (3 ∷ []) ∷ []
  pub more_than_the_buffer : writes_back 0x40000000 (place 0 overlapping ∷ []) (four (Memref Inout (1 ∷ 2 ∷ 3 ∷ 4 ∷ []) 5 ∷ []))
      ≡ write 0x40000030 (word 5) ∷ []
  pub in_order : writes_back 0x40000000 (place 0 (piece 0x40000001 1 ∷ []) ∷ place 1 [] ∷ []) (four (Memref Out (1 ∷ []) 1 ∷ Value Out 5 6 ∷ []))
      ≡ write 0x40000030 (word 1) ∷ write 0x40000001 (1 ∷ []) ∷ write 0x40000048 (word 5) ∷ write 0x40000050 (word 6) ∷ []
  pub later_over_earlier : lane_after lane (write 0x40000001 (1 ∷ 2 ∷ []) ∷ write 0x40000002 (3 ∷ 4 ∷ []) ∷ [])
      ≡ 10 ∷ 1 ∷ 3 ∷ 4 ∷ 14 ∷ 15 ∷ 16 ∷ 17 ∷ []
