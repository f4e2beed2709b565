-- A message in which a request was written holds it.
use Rattle.std.proofs.Common.{◌≡◌, ℕ, ◌+◌, ◌≤◌, List, [], Some, length, ap, ◌∙◌, arith}
use Rattle.msg_args.specs.Spelling.{spelling}
use Rattle.ns_ram.specs.declared.ram.TheConstants.{RAM_BYTES}
use Rattle.ns_ram.specs.Lane.{IsInRam, bytes_at, bytes_put}
use Rattle.ns_ram.specs.Writes.{lane_after}
use Rattle.ns_ram.proofs.LaneBytes.{length-bytes_put}
use Rattle.rpc_msgs.specs.declared.rpc.Rpc.{Rpc}
use Rattle.rpc_msgs.specs.declared.rpc.Rpc.TheVariants.{Time, Sleep, Wake, Suspend, FsOpen, FsCreate, FsClose, FsRead, FsWrite, FsRemove}
use Rattle.rpc_msgs.specs.Request.{IsPayloadOf, IsRequest, payload_at, payload_writes, request_arg, request_writes}
use Rattle.rpc_msgs.proofs.Messages.{length-spelling}
use Rattle.supplicant.specs.Holding.{BeginsWith, Holds, IsValue}
use Rattle.supplicant.proofs.Written.{part, payload_apart, payload_in_ram, payload_there, written}

none_is_few : (payload : List ℕ) → payload ≡ [] → length payload ≤ 3584
none_is_few payload is = let none : length payload ≡ 0 = ap length is in omega arith

name_is_few : (payload name : List ℕ) → payload ≡ name → length name ≤ 161 → length payload ≤ 3584
name_is_few payload name is few = let same : length payload ≡ length name = ap length is in omega arith

few : (rpc : Rpc) (payload : List ℕ) → IsValue rpc → IsRequest rpc → IsPayloadOf rpc payload → length payload ≤ 3584
few Time payload value request is = none_is_few payload is
few (Sleep key) payload value request is = none_is_few payload is
few (Wake key) payload value request is = none_is_few payload is
few (Suspend ms) payload value request is = none_is_few payload is
few (FsOpen name) payload value request is = name_is_few payload name is value.few
few (FsCreate name) payload value request is = name_is_few payload name is value.few
few (FsClose fd) payload value request is = none_is_few payload is
few (FsRead fd offset len) payload value request is = none_is_few payload is
few (FsWrite fd offset len) payload value request is = omega (arith, is, request)
few (FsRemove name) payload value request is = name_is_few payload name is value.few

-- where they stand
in_front : (buffer count : ℕ) → IsInRam buffer 4096 → count ≤ 128 → IsInRam buffer count
in_front buffer count inside short = (inside.0, omega arith)

before_payload : (buffer count : ℕ) → count ≤ 128 → buffer + count ≤ payload_at buffer
before_payload buffer count short = omega arith

short_part : (count : ℕ) → count ≤ 128 → 0 + count ≤ 4096
short_part count short = omega arith

payload_part : (count : ℕ) → count ≤ 3584 → 512 + count ≤ 4096
payload_part count room = omega arith

at_start : (buffer : ℕ) → buffer + 0 ≡ buffer
at_start buffer = omega arith

pub held : (lane : List ℕ) (buffer cookie : ℕ) (rpc : Rpc) (payload : List ℕ) → length lane ≡ RAM_BYTES → IsInRam buffer 4096 → IsValue rpc → IsRequest rpc → IsPayloadOf rpc payload →
    Holds (bytes_at (lane_after lane (request_writes buffer (Some (buffer, cookie)) rpc payload)) buffer 4096) buffer cookie rpc payload
unfolding BeginsWith
held lane buffer cookie rpc payload whole inside value request is =
    let spelled = spelling (request_arg buffer cookie rpc) in
    let after = lane_after lane (request_writes buffer (Some (buffer, cookie)) rpc payload) in
    let short = length-spelling buffer cookie rpc in
    let room = few rpc payload value request is in
    let front = in_front buffer (length spelled) inside short in
    let argument = written lane (record { addr = buffer; bytes = spelled }) (payload_writes buffer payload) whole front (payload_in_ram buffer payload inside room)
    (payload_apart buffer buffer (length spelled) payload (before_payload buffer (length spelled) short)) in
    let still = length-bytes_put lane buffer spelled whole front in
    record {
      value = value;
      request = request;
      payload_of = is;
      bytes = record {
        argument = part after buffer 0 (length spelled) inside (short_part (length spelled) short) ∙ ap (λ addr. bytes_at after addr (length spelled)) (at_start buffer) ∙ argument;
        bytes = part after buffer 512 (length payload) inside (payload_part (length payload) room) ∙ payload_there (bytes_put lane buffer spelled) buffer payload still inside room;
      };
    }
