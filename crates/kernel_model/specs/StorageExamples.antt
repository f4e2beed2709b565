-- Calls of applications that keep objects in the storage of the normal world.
use Rattle.std.specs.Prelude.{◌≡◌, ℕ, List, [], ◌∷◌, ◌++◌, length, Some, replicate}
use Rattle.ns_ram.specs.Examples.{read_of}
use Rattle.ns_ram.specs.declared.read.Read.{Read}
use Rattle.ns_ram.specs.Writes.{Write}
use Rattle.kernel_model.specs.Worked.{store, load, boot, half, word, used_head, param, invokes, resume_of, both, call}
use Rattle.kernel_model.specs.Worked.{resume, offer, opens, Move, Return, returns_after, ok, wants_buffer, gives_back}
use Rattle.kernel_model.specs.Worked.{writes_at}
use Rattle.tee_storage.specs.Tags.{tag_of}

-- 11111111222233334444555555555555/41
abbrev pub file : List ℕ
file = replicate 8 0x31 ++ replicate 4 0x32 ++ replicate 4 0x33 ++ replicate 4 0x34 ++ replicate 12 0x35
    ++ 0x2f ∷ 0x34 ∷ 0x31 ∷ []

abbrev pub writes_payload : List ℕ → List Write
writes_payload [] = []
writes_payload (byte ∷ bytes) = writes_at 0x40010200 (byte ∷ bytes) ∷ []

-- a request in the buffer at 40010000 with the cookie 77, which the caller gave in a5 or not: how many parameters,
-- these, and the payload
abbrev pub file_request : ℕ → ℕ → List ℕ → List ℕ → Return
file_request a5 count params payload = (
  0xffff0005 ∷ 0 ∷ 0x77 ∷ 0 ∷ 0 ∷ a5 ∷ 0 ∷ 0 ∷ [],
  writes_at 0x40010000 (used_head 2 0 0 0 0xffff0000 0 count ++ params) ∷ writes_payload payload,
)

-- the file is to be created, or opened
abbrev pub names_file : ℕ → Return
names_file function = file_request 0x77 3 (param 1 function 0 0 ++ param 9 0x40010200 35 0x77 ++ param 2 0 0 0) file

-- so many bytes are to be read from an offset on, and so many, these, are to be written
abbrev pub reads_file : ℕ → ℕ → ℕ → Return
reads_file fd offset len = file_request 0 2 (param 1 3 fd offset ++ param 0xa 0x40010200 len 0x77) []

abbrev pub writes_file : ℕ → ℕ → ℕ → List ℕ → Return
writes_file fd offset len bytes = file_request 0 2 (param 1 4 fd offset ++ param 9 0x40010200 len 0x77) bytes

-- the buffer is given, and a reply has come with these reads
abbrev pub offers : List Move
offers = offer 0 20 0 0x40010000 0x77

abbrev pub replies : List Read → List Move
replies reads = both 0 20 (resume_of 0 0) reads

abbrev pub ret_of : ℕ → List Read
ret_of ret = read_of 0x40010014 (half ret) ∷ []

-- with the descriptor of the open file, and with a size and so many bytes
abbrev pub opened_file : ℕ → ℕ → List Read
opened_file ret fd = ret_of ret ++ read_of 0x40010068 (word fd) ∷ []

abbrev pub read_file : List ℕ → List Read
read_file bytes = ret_of 0 ++ read_of 0x40010050 (word (length bytes)) ∷ read_of 0x40010200 bytes ∷ []

-- of an object without a tag: OTO1 and the length
abbrev pub header : ℕ → List ℕ
header len = 0x4f ∷ 0x54 ∷ 0x4f ∷ 0x31 ∷ half len

-- of one with a tag: OTO2 and the length
abbrev pub tagged_header : ℕ → List ℕ
tagged_header len = 0x4f ∷ 0x54 ∷ 0x4f ∷ 0x32 ∷ half len

-- what is written of an object that is made: forty bytes
abbrev pub first_bytes : List ℕ
first_bytes = tagged_header 0 ++ tag_of (replicate 32 0) file 0 []

pub record StorageExamples : Type 0 where
  -- an object is made: its file, and then its header and its tag
  pub makes : returns_after (boot 1 1 1 store) opens
      (call 0 20 (invokes 1 0) ++ offers ++ replies (opened_file 0 3) ++ replies (ret_of 0) ++ resume 0 20 0)
      ≡ Some (wants_buffer 0 ∷ names_file 1 ∷ writes_file 3 0 40 first_bytes ∷ gives_back 0 0x77 ∷ ok 0 4 ∷ [])
  -- it is there already
  pub makes_none : returns_after (boot 1 1 1 store) opens
      (call 0 20 (invokes 1 0) ++ offers ++ replies (opened_file 0xffff0003 0) ++ resume 0 20 0)
      ≡ Some (wants_buffer 0 ∷ names_file 1 ∷ gives_back 0 0x77 ∷ ok 0xffff0003 4 ∷ [])
  -- without a buffer
  pub no_buffer : returns_after (boot 1 1 1 store) opens (call 0 20 (invokes 1 0) ++ resume 0 20 0)
      ≡ Some (wants_buffer 0 ∷ ok 0xffff000c 4 ∷ [])
  -- an object of four bytes, without a tag, is opened and read
  pub reads : returns_after (boot 1 1 1 load) opens
      (call 0 20 (invokes 1 0) ++ offers ++ replies (opened_file 0 3) ++ replies (read_file (header 4))
      ++ replies (read_file (0x61 ∷ 0x62 ∷ 0x63 ∷ 0x64 ∷ []))
      ++ resume 0 20 0)
      ≡ Some (wants_buffer 0 ∷ names_file 0 ∷ reads_file 3 0 8 ∷ reads_file 3 8 4 ∷ gives_back 0 0x77 ∷ ok 0 4 ∷ [])
  -- one with a tag, which is read behind the bytes: it is a byte too short
  pub tag_cut : returns_after (boot 1 1 1 load) opens
      (call 0 20 (invokes 1 0) ++ offers ++ replies (opened_file 0 3) ++ replies (read_file (tagged_header 4))
      ++ replies (read_file (0x61 ∷ 0x62 ∷ 0x63 ∷ 0x64 ∷ [])) ++ replies (read_file (replicate 31 9))
      ++ resume 0 20 0)
      ≡ Some (wants_buffer 0 ∷ names_file 0 ∷ reads_file 3 0 8 ∷ reads_file 3 8 4 ∷ reads_file 3 12 32
      ∷ gives_back 0 0x77 ∷ ok 0xf0100001 4 ∷ [])
  -- its header is a byte too short
  pub header_cut : returns_after (boot 1 1 1 load) opens
      (call 0 20 (invokes 1 0) ++ offers ++ replies (opened_file 0 3)
      ++ replies (read_file (0x4f ∷ 0x54 ∷ 0x4f ∷ 0x31 ∷ 4 ∷ 0 ∷ 0 ∷ [])) ++ resume 0 20 0)
      ≡ Some (wants_buffer 0 ∷ names_file 0 ∷ reads_file 3 0 8 ∷ gives_back 0 0x77 ∷ ok 0xf0100001 4 ∷ [])
  -- nothing is there
  pub nothing_there : returns_after (boot 1 1 1 load) opens
      (call 0 20 (invokes 1 0) ++ offers ++ replies (opened_file 0xffff0008 0) ++ resume 0 20 0)
      ≡ Some (wants_buffer 0 ∷ names_file 0 ∷ gives_back 0 0x77 ∷ ok 0xffff0008 4 ∷ [])
