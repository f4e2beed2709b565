-- The definitions on small inputs: a message at 40010000 that the normal world knows as 77.
use Rattle.std.specs.Prelude.{◌≡◌, ℕ, List, [], ◌∷◌, ◌++◌, length, replicate, Option, Some, None}
use Rattle.ns_ram.specs.Examples.{read_of}
use Rattle.ns_ram.specs.Reader.{reading}
use Rattle.ns_ram.specs.Writes.{Write}
use Rattle.rpc_msgs.specs.declared.payload.TheConstants.{MAX_PAYLOAD}
use Rattle.rpc_msgs.specs.declared.request.TheConstants.{MESSAGE_BYTES}
use Rattle.rpc_msgs.specs.declared.request_place.RequestPlace.{RequestPlace}
use Rattle.rpc_msgs.specs.declared.request_place.RequestPlace.TheVariants.{InBuffer, InArea}
use Rattle.rpc_msgs.specs.declared.rpc.Rpc.{Rpc}
use Rattle.rpc_msgs.specs.declared.rpc.Rpc.TheVariants.{Time, Sleep, Wake, Suspend, FsOpen, FsClose, FsRead, FsWrite}
use Rattle.rpc_msgs.specs.declared.rpc.RpcReply.{RpcReply}
use Rattle.rpc_msgs.specs.declared.rpc_buffer.RpcBuffer.{RpcBuffer}
use Rattle.rpc_msgs.specs.Answer.{IsReplyTo}
use Rattle.rpc_msgs.specs.FileName.{IsFileName}
use Rattle.rpc_msgs.specs.Place.{cookie_told, place_for, reader_at, writes_at}
use Rattle.rpc_msgs.specs.Reply.{reply_reader}
use Rattle.rpc_msgs.specs.Request.{IsPayloadOf, IsRequest, request_writes}

abbrev pub write : ℕ → List ℕ → Write
write addr bytes = record { addr = addr; bytes = bytes }

-- so many zeros
abbrev pub none : ℕ → List ℕ
none count = replicate count 0

-- a number below 256, of four bytes and of eight
abbrev pub half : ℕ → List ℕ
half number = number ∷ none 3

abbrev pub word : ℕ → List ℕ
word number = number ∷ none 7

-- a command, no result yet, and a count of parameters
abbrev pub head : ℕ → ℕ → List ℕ
head cmd count = half cmd ++ none 16 ++ (0 ∷ 0 ∷ 0xff ∷ 0xff ∷ []) ++ none 4 ++ half count

-- the payload's address, 40010200
abbrev pub payload_address : List ℕ
payload_address = 0 ∷ 2 ∷ 1 ∷ 0x40 ∷ none 4

-- a digit, a slash and a digit
abbrev pub name : List ℕ
name = 0x66 ∷ 0x2f ∷ 0x34 ∷ []

abbrev pub reply : ℕ → ℕ → ℕ → ℕ → List ℕ → RpcReply
reply ret v w size bytes = record { ret = ret; v = v; w = w; size = size; bytes = bytes }

-- what is written of a request at 40010000 with 77
abbrev pub written : Rpc → List ℕ → List Write
written rpc payload = request_writes 0x40010000 (Some (0x40010000, 77)) rpc payload

-- that buffer, and the area at 40000020 with it or without one
abbrev pub buffer : RpcBuffer
buffer = record { addr = 0x40010000; cookie = 77 }

abbrev pub in_area : Option RpcBuffer → RequestPlace
in_area lent = InArea 0x40000020 lent

pub record Examples : Type 0 where
  pub no_bytes : IsFileName []
  pub slash_and_digits : IsFileName name
  pub highest : IsFileName (127 ∷ [])
  pub above : IsFileName (0x66 ∷ 128 ∷ []) → ⊥
  pub too_long : (bytes : List ℕ) → length bytes ≡ 162 → IsFileName bytes → ⊥
  -- what is written
  pub time : written Time [] ≡ write 0x40010000 (head 3 1 ++ word 2 ++ none 24) ∷ []
  pub sleep : written (Sleep 9) [] ≡ write 0x40010000 (head 4 1 ++ word 1 ++ word 0 ++ word 9 ++ word 0) ∷ []
  pub wake : written (Wake 9) [] ≡ write 0x40010000 (head 4 1 ++ word 1 ++ word 1 ++ word 9 ++ word 0) ∷ []
  pub suspend : written (Suspend 250) [] ≡ write 0x40010000 (head 5 1 ++ word 1 ++ word 250 ++ none 16) ∷ []
  pub open_file : written (FsOpen name) name
      ≡ write 0x40010000 (head 2 3 ++ word 1 ++ none 24 ++ word 9 ++ payload_address ++ word 3 ++ word 77 ++ word 2 ++ none 24)
      ∷ write 0x40010200 name ∷ []
  pub write_file : written (FsWrite 5 6 2) (7 ∷ 8 ∷ [])
      ≡ write 0x40010000 (head 2 2 ++ word 1 ++ word 4 ++ word 5 ++ word 6 ++ word 9 ++ payload_address ++ word 2 ++ word 77)
      ∷ write 0x40010200 (7 ∷ 8 ∷ []) ∷ []
  pub read_file : written (FsRead 5 6 2) []
      ≡ write 0x40010000 (head 2 2 ++ word 1 ++ word 3 ++ word 5 ++ word 6 ++ word 10 ++ payload_address ++ word 2 ++ word 77) ∷ []
  -- in an area, and its payload in the buffer
  pub suspend_in_area : writes_at (in_area None) (Suspend 250) []
      ≡ write 0x40000020 (head 5 1 ++ word 1 ++ word 250 ++ none 16) ∷ []
  pub suspend_beside_a_buffer : writes_at (in_area (Some buffer)) (Suspend 250) []
      ≡ write 0x40000020 (head 5 1 ++ word 1 ++ word 250 ++ none 16) ∷ []
  pub open_in_area : writes_at (in_area (Some buffer)) (FsOpen name) name
      ≡ write 0x40000020 (head 2 3 ++ word 1 ++ none 24 ++ word 9 ++ payload_address ++ word 3 ++ word 77 ++ word 2 ++ none 24)
      ∷ write 0x40010200 name ∷ []
  pub read_in_area : writes_at (in_area (Some buffer)) (FsRead 5 6 2) []
      ≡ write 0x40000020 (head 2 2 ++ word 1 ++ word 3 ++ word 5 ++ word 6 ++ word 10 ++ payload_address ++ word 2 ++ word 77) ∷ []
  -- where a request has its place: without an area in the buffer, and with one there, where a payload has a buffer
  pub nowhere : place_for None None Time ≡ None
  pub in_the_buffer : place_for None (Some buffer) Time ≡ Some (InBuffer buffer)
  pub payload_in_the_buffer : place_for None (Some buffer) (FsOpen name) ≡ Some (InBuffer buffer)
  pub in_the_area : place_for (Some 0x40000020) None Time ≡ Some (in_area None)
  pub close_in_the_area : place_for (Some 0x40000020) None (FsClose 5) ≡ Some (in_area None)
  pub payload_nowhere : place_for (Some 0x40000020) None (FsRead 5 6 2) ≡ None
  pub in_the_area_still : place_for (Some 0x40000020) (Some buffer) Time ≡ Some (in_area (Some buffer))
  pub payload_beside : place_for (Some 0x40000020) (Some buffer) (FsRead 5 6 2) ≡ Some (in_area (Some buffer))
  -- the cookie that tells of it
  pub cookie_of_a_buffer : cookie_told (InBuffer buffer) ≡ 77
  pub cookie_of_an_area : cookie_told (in_area (Some buffer)) ≡ 0
  pub most : IsRequest (FsRead 5 0 3584)
  pub too_much : IsRequest (FsRead 5 0 3585) → ⊥
  pub other_payload : IsPayloadOf (FsOpen name) (0x66 ∷ []) → ⊥
  -- what is read
  pub time_read : reading (reply_reader 0x40010000 (Some 0x40010000) Time)
      (read_of 0x40010014 (half 0) ∷ read_of 0x40010028 (word 100) ∷ read_of 0x40010030 (word 200) ∷ []) ≡ Some (reply 0 100 200 0 [])
  pub descriptor_read : reading (reply_reader 0x40010000 (Some 0x40010000) (FsOpen name))
      (read_of 0x40010014 (half 8) ∷ read_of 0x40010068 (word 5) ∷ []) ≡ Some (reply 8 5 0 0 [])
  pub nothing_read : reading (reply_reader 0x40010000 (Some 0x40010000) (Wake 9)) [] ≡ Some (reply 0 0 0 0 [])
  pub piece_read : reading (reply_reader 0x40010000 (Some 0x40010000) (FsRead 5 6 2))
      (read_of 0x40010014 (half 0) ∷ read_of 0x40010050 (word 2) ∷ read_of 0x40010200 (7 ∷ 8 ∷ []) ∷ []) ≡ Some (reply 0 0 0 2 (7 ∷ 8 ∷ []))
  pub end_read : reading (reply_reader 0x40010000 (Some 0x40010000) (FsRead 5 6 2))
      (read_of 0x40010014 (half 0) ∷ read_of 0x40010050 (word 0) ∷ []) ≡ Some (reply 0 0 0 0 [])
  pub too_many_unread : reading (reply_reader 0x40010000 (Some 0x40010000) (FsRead 5 6 2))
      (read_of 0x40010014 (half 0) ∷ read_of 0x40010050 (word 3) ∷ []) ≡ Some (reply 0 0 0 3 [])
  pub time_read_in_area : reading (reader_at (in_area None) Time)
      (read_of 0x40000034 (half 0) ∷ read_of 0x40000048 (word 100) ∷ read_of 0x40000050 (word 200) ∷ []) ≡ Some (reply 0 100 200 0 [])
  pub piece_read_in_area : reading (reader_at (in_area (Some buffer)) (FsRead 5 6 2))
      (read_of 0x40000034 (half 0) ∷ read_of 0x40000070 (word 2) ∷ read_of 0x40010200 (7 ∷ 8 ∷ []) ∷ []) ≡ Some (reply 0 0 0 2 (7 ∷ 8 ∷ []))
  pub another_order : reading (reply_reader 0x40010000 (Some 0x40010000) (FsOpen name))
      (read_of 0x40010068 (word 5) ∷ read_of 0x40010014 (half 8) ∷ []) ≡ None
  -- which replies there are
  pub time_reply : IsReplyTo Time (reply 0 100 200 0 [])
  pub piece_reply : IsReplyTo (FsRead 5 6 2) (reply 0 0 0 2 (7 ∷ 8 ∷ []))
  pub short_piece : IsReplyTo (FsRead 5 6 2) (reply 0 0 0 2 (7 ∷ [])) → ⊥
  pub time_with_size : IsReplyTo Time (reply 0 100 200 1 []) → ⊥
  -- the sizes
  pub message_bytes : MESSAGE_BYTES ≡ 4096
  pub max_payload : MAX_PAYLOAD ≡ 3584
