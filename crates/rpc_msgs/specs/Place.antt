-- Where a request stands: in a buffer, or with its argument in the area that its call has brought along.
use Rattle.std.specs.Prelude.{ℕ, ◌+◌, ◌≤◌, Bool, not, ◌&&◌, ◌||◌, ◌⊎◌, if◌then◌else◌, IsTrue, IsSome, List, length}
use Rattle.std.specs.Prelude.{Option, Some, None, is_some}
use Rattle.std.specs.Option.{ForSome, option_map}
use Rattle.ns_ram.specs.Lane.{IsInRam}
use Rattle.ns_ram.specs.Reader.{Reader}
use Rattle.ns_ram.specs.Writes.{Write}
use Rattle.rpc_msgs.specs.declared.request_place.RequestPlace.{RequestPlace}
use Rattle.rpc_msgs.specs.declared.request_place.RequestPlace.TheVariants.{InBuffer, InArea}
use Rattle.rpc_msgs.specs.declared.rpc.Rpc.{Rpc}
use Rattle.rpc_msgs.specs.declared.rpc.RpcReply.{RpcReply}
use Rattle.rpc_msgs.specs.declared.rpc_buffer.RpcBuffer.{RpcBuffer}
use Rattle.rpc_msgs.specs.Reply.{reply_reader}
use Rattle.rpc_msgs.specs.Request.{has_payload, request_writes}

-- ---- whether there is one

-- a call has a place for a request where it has a buffer, or where it has an area and the request has no payload
abbrev pub is_placed : (has_area has_buffer : Bool) → Rpc → Bool
is_placed has_area has_buffer wanted = has_buffer || (has_area && not (has_payload wanted))

-- of an area and a buffer, of which there is at least one: the argument stands in the area where there is one
abbrev pub place_in : Option ℕ → Option RpcBuffer → Option RequestPlace
place_in (Some area) buffer = Some (InArea area buffer)
place_in None buffer = option_map InBuffer buffer

-- the place of a request, if the area and the buffer of its call make one
abbrev pub place_for : Option ℕ → Option RpcBuffer → Rpc → Option RequestPlace
place_for area buffer wanted = if is_placed (is_some area) (is_some buffer) wanted then place_in area buffer else None

-- ---- what stands where

-- the address of the argument
abbrev pub arg_at : RequestPlace → ℕ
arg_at (InBuffer buffer) = buffer.addr
arg_at (InArea area buffer) = area

-- the buffer of the payload
abbrev pub buffer_of : RequestPlace → Option RpcBuffer
buffer_of (InBuffer buffer) = Some buffer
buffer_of (InArea area buffer) = buffer

-- its address, and its address with its cookie
abbrev pub buffer_at : RequestPlace → Option ℕ
buffer_at place = option_map (λ buffer. buffer.addr) (buffer_of place)

abbrev pub payload_place : RequestPlace → Option (ℕ × ℕ)
payload_place place = option_map (λ buffer. (buffer.addr, buffer.cookie)) (buffer_of place)

-- the cookie that tells the normal world where the argument is: it knows its own area
abbrev pub cookie_told : RequestPlace → ℕ
cookie_told (InBuffer buffer) = buffer.cookie
cookie_told (InArea area buffer) = 0

-- what is written of a request there, and what reads the reply to it
abbrev pub writes_at : RequestPlace → Rpc → List ℕ → List Write
writes_at place rpc payload = request_writes (arg_at place) (payload_place place) rpc payload

abbrev pub reader_at : RequestPlace → Rpc → Reader RpcReply
reader_at place rpc = reply_reader (arg_at place) (buffer_at place) rpc

-- ---- room

-- all of it lies in RAM: 160 bytes of the argument, and 4096 of the buffer, which a request with a payload has
pub record HasPlaces (at : ℕ) (buffer : Option ℕ) (rpc : Rpc) : Type 0 where
  pub argument : IsInRam at 160
  pub whole : ForSome buffer (λ addr. IsInRam addr 4096)
  pub payload : IsTrue (has_payload rpc) → IsSome buffer

-- the write lies in so many bytes at an address
abbrev pub IsWithin : ℕ → ℕ → Write → Type 0
IsWithin addr len write = (addr ≤ write.addr) × (write.addr + length write.bytes ≤ addr + len)

-- it lies in the bytes of the argument, or in those of the buffer
abbrev pub IsWithinPlaces : ℕ → Option (ℕ × ℕ) → Write → Type 0
IsWithinPlaces at None write = IsWithin at 160 write
IsWithinPlaces at (Some buffer) write = IsWithin at 160 write ⊎ IsWithin buffer.0 4096 write
