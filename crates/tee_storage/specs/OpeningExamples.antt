-- Creates and opens, answered by hand.
use Rattle.std.specs.Prelude.{◌≡◌, ℕ, List, [], ◌∷◌, ◌++◌, Option, Some, None, replicate, length, codes}
use Rattle.base.specs.NumberMap.{NumberMap}
use Rattle.hmac.specs.Hmac.{hmac}
use Rattle.rpc_msgs.specs.declared.rpc.Rpc.TheVariants.{FsOpen, FsCreate, FsRead, FsWrite}
use Rattle.rpc_msgs.specs.Answer.{RpcAnswer, Replied, NoBuffer}
use Rattle.ta_params.specs.declared.object_call.ObjectCall.TheVariants.{Create, Opened}
use Rattle.tee_storage.specs.declared.handle.FileFormat.TheVariants.{Untagged, Tagged}
use Rattle.tee_storage.specs.declared.handle.Handle.{Handle}
use Rattle.tee_storage.specs.declared.step.StorageStep.{StorageStep}
use Rattle.tee_storage.specs.declared.step.StorageStep.TheVariants.{Ask, Done}
use Rattle.tee_storage.specs.Handles.{numbered_from}
use Rattle.tee_storage.specs.ObjectCalls.{Serving, serving}

-- 11111111-2222-3333-4444-555555555555
abbrev pub application : List ℕ
application =
    0x11 ∷ 0x11 ∷ 0x11 ∷ 0x11 ∷ 0x22 ∷ 0x22 ∷ 0x33 ∷ 0x33 ∷ 0x44 ∷ 0x44 ∷ 0x55 ∷ 0x55 ∷ 0x55 ∷ 0x55 ∷ 0x55 ∷ 0x55 ∷ []

-- the file of its object with the id of the one byte ab
abbrev pub file : List ℕ
file = codes "11111111222233334444555555555555/ab"

abbrev pub object : ℕ → ℕ → ℕ → Handle
object fd len position = record { name = file; fd = fd; length = len; position = position; format = Untagged }

-- the same with a tag
abbrev pub tagged : ℕ → ℕ → ℕ → Handle
tagged fd len position = record (object fd len position) { format = Tagged }

-- a key
abbrev pub key : List ℕ
key = replicate 32 7

-- a reply with this ret and this first number
abbrev pub replied : ℕ → ℕ → RpcAnswer
replied ret v = Replied (record { ret = ret; v = v; w = 0; size = 0; bytes = [] })

-- a reply with these bytes
abbrev pub brought : List ℕ → RpcAnswer
brought bytes = Replied (record { ret = 0; v = 0; w = 0; size = length bytes; bytes = bytes })

abbrev pub at : StorageStep → List ℕ → NumberMap Handle → Option Serving
at step range objects = Some (record { step = step; range = range; objects = objects })

-- the create and the open of that object, its id at address 256, with no object open before
abbrev pub id : List ℕ
id = 0xab ∷ []

abbrev pub creates : List RpcAnswer → Option Serving
creates answers = serving (Create 256 1) application key id [] answers

abbrev pub opens : List RpcAnswer → Option Serving
opens answers = serving (Opened 256 1) application key id [] answers

-- eight open objects
abbrev pub full : NumberMap Handle
full = numbered_from 0 (replicate 8 (Some (object 70 10 3)))

-- the header of four bytes, and three that are none: of another magic, of a byte less, of too great a length
abbrev pub four : List ℕ
four = 0x4f ∷ 0x54 ∷ 0x4f ∷ 0x31 ∷ 4 ∷ 0 ∷ 0 ∷ 0 ∷ []

abbrev pub longest : List ℕ
longest = 0x4f ∷ 0x54 ∷ 0x4f ∷ 0x31 ∷ 0 ∷ 0x80 ∷ 0 ∷ 0 ∷ []

abbrev pub too_long : List ℕ
too_long = 0x4f ∷ 0x54 ∷ 0x4f ∷ 0x31 ∷ 1 ∷ 0x80 ∷ 0 ∷ 0 ∷ []

abbrev pub other_magic : List ℕ
other_magic = 0x4f ∷ 0x54 ∷ 0x4f ∷ 0x33 ∷ 4 ∷ 0 ∷ 0 ∷ 0 ∷ []

-- the header of four bytes with a tag behind them
abbrev pub four_tagged : List ℕ
four_tagged = 0x4f ∷ 0x54 ∷ 0x4f ∷ 0x32 ∷ 4 ∷ 0 ∷ 0 ∷ 0 ∷ []

-- what is written for an object without data: its header and its tag
abbrev pub first : List ℕ
first = 0x4f ∷ 0x54 ∷ 0x4f ∷ 0x32 ∷ 0 ∷ 0 ∷ 0 ∷ 0 ∷ hmac key (file ++ 0 ∷ 0 ∷ 0 ∷ 0 ∷ 0 ∷ [])

pub record OpeningExamples : Type 0 where
  -- a create: the file, then its header and its tag, and the object is open
  pub file_asked : creates [] ≡ at (Ask (FsCreate file) file) id []
  pub header_asked : creates (replied 0 7 ∷ []) ≡ at (Ask (FsWrite 7 0 40) first) id []
  pub created : creates (replied 0 7 ∷ replied 0 0 ∷ []) ≡ at (Done 0 0) id ((0, tagged 7 0 0) ∷ [])
  pub behind_the_end : creates (replied 0 7 ∷ replied 0 0 ∷ NoBuffer ∷ []) ≡ None
  -- its refusals
  pub not_found : creates (replied 0xffff0008 7 ∷ []) ≡ at (Done 0xffff0008 0) id []
  pub in_conflict : creates (replied 0 7 ∷ replied 0xffff0003 0 ∷ []) ≡ at (Done 0xffff0003 0) id []
  pub not_available : creates (replied 0 7 ∷ replied 1 0 ∷ []) ≡ at (Done 0xf0100003 0) id []
  pub no_buffer : creates (replied 0 7 ∷ NoBuffer ∷ []) ≡ at (Done 0xffff000c 0) id []
  pub without_id : serving (Create 256 0) application key [] full [] ≡ at (Done 0xffff0006 0) [] full
  pub long_id : (range : List ℕ) → serving (Opened 256 65) application key range [] [] ≡ at (Done 0xffff0006 0) range []
  pub all_open : serving (Create 256 1) application key id full [] ≡ at (Done 0xffff0007 0) id full
  -- an open: the file, then its header
  pub open_asked : opens [] ≡ at (Ask (FsOpen file) file) id []
  pub read_asked : opens (replied 0 7 ∷ []) ≡ at (Ask (FsRead 7 0 8) []) id []
  pub opened : opens (replied 0 7 ∷ brought four ∷ []) ≡ at (Done 0 0) id ((0, object 7 4 0) ∷ [])
  pub opened_tagged : opens (replied 0 7 ∷ brought four_tagged ∷ []) ≡ at (Done 0 0) id ((0, tagged 7 4 0) ∷ [])
  pub opened_longest : opens (replied 0 7 ∷ brought longest ∷ []) ≡ at (Done 0 0) id ((0, object 7 32768 0) ∷ [])
  pub corrupt_magic : opens (replied 0 7 ∷ brought other_magic ∷ []) ≡ at (Done 0xf0100001 0) id []
  pub corrupt_length : opens (replied 0 7 ∷ brought too_long ∷ []) ≡ at (Done 0xf0100001 0) id []
  pub corrupt_size : opens (replied 0 7 ∷ brought (0x4f ∷ 0x54 ∷ 0x4f ∷ 0x31 ∷ 4 ∷ 0 ∷ 0 ∷ []) ∷ []) ≡ at (Done 0xf0100001 0) id []
