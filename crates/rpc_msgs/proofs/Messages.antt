-- Where a request is written.
use Rattle.std.proofs.Common.{◌≡◌, ℕ, ◌≤◌, Bool, true, false, nat_eq, List, [], ◌∷◌, Option, Some, None, IsTrue, IsSome, unwrap_or, length, refl, sym, subst, inl, inr, arith}
use Rattle.std.specs.List.{AllByRecursion}
use Rattle.msg_args.specs.Spelling.{spelling}
use Rattle.ns_ram.specs.Writes.{Write}
use Rattle.rpc_msgs.specs.declared.rpc.Rpc.{Rpc}
use Rattle.rpc_msgs.specs.declared.rpc.Rpc.TheVariants.{Time, Sleep, Wake, Suspend, FsOpen, FsCreate, FsClose, FsRead, FsWrite, FsRemove}
use Rattle.rpc_msgs.specs.Place.{IsWithin, IsWithinPlaces}
use Rattle.rpc_msgs.specs.Request.{IsPayloadOf, has_payload, payload_writes, request_arg, request_writes}

pub length-spelling : (buffer cookie : ℕ) (rpc : Rpc) → length (spelling (request_arg buffer cookie rpc)) ≤ 128
length-spelling buffer cookie Time = omega arith
length-spelling buffer cookie (Sleep key) = omega arith
length-spelling buffer cookie (Wake key) = omega arith
length-spelling buffer cookie (Suspend ms) = omega arith
length-spelling buffer cookie (FsOpen name) = omega arith
length-spelling buffer cookie (FsCreate name) = omega arith
length-spelling buffer cookie (FsClose fd) = omega arith
length-spelling buffer cookie (FsRead fd offset len) = omega arith
length-spelling buffer cookie (FsWrite fd offset len) = omega arith
length-spelling buffer cookie (FsRemove name) = omega arith

decided : (b : Bool) → ((IsTrue b → ⊥) → ⊥) → IsTrue b
decided true not_false = refl
decided false not_false = absurd (not_false (λ e. cc))

-- a request without a buffer has no payload
unpaid : (rpc : Rpc) (payload : List ℕ) → IsPayloadOf rpc payload → (IsTrue (has_payload rpc) → ⊥) → payload ≡ []
unpaid Time payload is none = is
unpaid (Sleep key) payload is none = is
unpaid (Wake key) payload is none = is
unpaid (Suspend ms) payload is none = is
unpaid (FsOpen name) payload is none = absurd (none refl)
unpaid (FsCreate name) payload is none = absurd (none refl)
unpaid (FsClose fd) payload is none = is
unpaid (FsRead fd offset len) payload is none = is
unpaid (FsWrite fd offset len) payload is none = absurd (none refl)
unpaid (FsRemove name) payload is none = absurd (none refl)

-- so a payload of some bytes has a buffer
pub payload-placed : (rpc : Rpc) (payload : List ℕ) → IsPayloadOf rpc payload → nat_eq (length payload) 0 ≡ false → IsTrue (has_payload rpc)
payload-placed rpc payload is some = decided (has_payload rpc) (λ none. let empty = unpaid rpc payload is none in let no_byte : length payload ≡ 0 = rw empty refl in cc (rw no_byte at some))

argument-within : (at : ℕ) (buffer : Option (ℕ × ℕ)) (write : Write) → IsWithin at 160 write → IsWithinPlaces at buffer write
argument-within at None write within = within
argument-within at (Some there) write within = inl within

payload_writes-within : (at : ℕ) (there : ℕ × ℕ) (payload : List ℕ) → length payload ≤ 3584 →
    AllByRecursion (IsWithinPlaces at (Some there)) (payload_writes there.0 payload)
payload_writes-within at there [] few = tt
payload_writes-within at there (byte ∷ bytes) few = (inr (omega arith, omega arith), tt)

behind-within : (at : ℕ) (buffer : Option (ℕ × ℕ)) (rpc : Rpc) (payload : List ℕ) → length payload ≤ 3584 → IsPayloadOf rpc payload →
    (IsTrue (has_payload rpc) → IsSome buffer) → AllByRecursion (IsWithinPlaces at buffer) (payload_writes (unwrap_or buffer (0, 0)).0 payload)
behind-within at (Some there) rpc payload few is placed = payload_writes-within at there payload few
behind-within at None rpc payload few is placed =
    let empty : payload ≡ [] = unpaid rpc payload is (λ paid. let wrong = placed paid in absurd (cc)) in
    subst (λ bytes. AllByRecursion (IsWithinPlaces at None) (payload_writes 0 bytes)) (sym empty) tt

pub request_writes-within : (at : ℕ) (buffer : Option (ℕ × ℕ)) (rpc : Rpc) (payload : List ℕ) → length payload ≤ 3584 → IsPayloadOf rpc payload →
    (IsTrue (has_payload rpc) → IsSome buffer) → AllByRecursion (IsWithinPlaces at buffer) (request_writes at buffer rpc payload)
request_writes-within at buffer rpc payload few is placed =
    let there : ℕ × ℕ = unwrap_or buffer (0, 0) in
    (argument-within at buffer _ (omega arith, omega (arith, length-spelling there.0 there.1 rpc)), behind-within at buffer rpc payload few is placed)
