-- What stands in a lane after writes: each one's bytes, where the later ones lie apart from it.
use Rattle.std.proofs.Common.{◌≡◌, ℕ, ◌+◌, ◌-◌, ◌≤◌, List, [], ◌∷◌, length, take, drop, inl, refl, sym, ap, ◌∙◌, arith}
use Rattle.std.specs.List.{AllByRecursion}
use Rattle.std.proofs.lemmas.List.{drop-drop, drop-take, take-take}
use Rattle.ns_ram.specs.declared.ram.TheConstants.{RAM_BYTES, RAM_START}
use Rattle.ns_ram.specs.Lane.{IsInRam, bytes_at, bytes_put}
use Rattle.ns_ram.specs.Writes.{IsApart, IsWriteOfRam, Write, lane_after}
use Rattle.ns_ram.proofs.LaneBytes.{bytes_at-bytes_put, bytes_at-is, length-bytes_put}
use Rattle.ns_ram.proofs.WriteList.{lane_after-alone}
use Rattle.rpc_msgs.specs.Request.{payload_at, payload_writes}

pub written : (lane : List ℕ) (write : Write) (later : List Write) → length lane ≡ RAM_BYTES → IsWriteOfRam write → AllByRecursion IsWriteOfRam later → AllByRecursion (IsApart write.addr (length write.bytes)) later →
    bytes_at (lane_after lane (write ∷ later)) write.addr (length write.bytes) ≡ write.bytes
written lane write later whole inside all apart =
    let still = length-bytes_put lane write.addr write.bytes whole inside in
    (lane_after-alone (bytes_put lane write.addr write.bytes) later still all).others write.addr (length write.bytes) inside apart
    ∙ bytes_at-bytes_put lane write.addr write.bytes whole inside

-- a write, and those behind it
pub after_one : (lane first last : List ℕ) (addr place : ℕ) (bytes spelled : List ℕ) (later : List Write) → first ≡ bytes_put lane addr bytes → addr ≡ place → bytes ≡ spelled → last ≡ lane_after first later →
    last ≡ lane_after (bytes_put lane place spelled) later
after_one lane first last addr place bytes spelled later is at_place as_spelled onward =
    onward ∙ ap (λ l. lane_after l later) (is ∙ ap (λ a. bytes_put lane a bytes) at_place ∙ ap (λ b. bytes_put lane place b) as_spelled)

-- ---- a payload

pub payload_in_ram : (buffer : ℕ) (bytes : List ℕ) → IsInRam buffer 4096 → length bytes ≤ 3584 → AllByRecursion IsWriteOfRam (payload_writes buffer bytes)
payload_in_ram buffer [] inside few = tt
payload_in_ram buffer (b ∷ bytes) inside few = ((omega arith, omega arith), tt)

-- what ends before it lies apart from it
pub payload_apart : (buffer addr len : ℕ) (bytes : List ℕ) → addr + len ≤ payload_at buffer → AllByRecursion (IsApart addr len) (payload_writes buffer bytes)
payload_apart buffer addr len [] before = tt
payload_apart buffer addr len (b ∷ bytes) before = (inl before, tt)

pub payload_there : (lane : List ℕ) (buffer : ℕ) (bytes : List ℕ) → length lane ≡ RAM_BYTES → IsInRam buffer 4096 → length bytes ≤ 3584 →
    bytes_at (lane_after lane (payload_writes buffer bytes)) (payload_at buffer) (length bytes) ≡ bytes
payload_there lane buffer [] whole inside few = refl
payload_there lane buffer (b ∷ bytes) whole inside few =
    written lane (record { addr = payload_at buffer; bytes = b ∷ bytes }) [] whole (payload_in_ram buffer (b ∷ bytes) inside few).0 tt tt

-- ---- a part of a message

pub part : (lane : List ℕ) (buffer at len : ℕ) → IsInRam buffer 4096 → at + len ≤ 4096 → take len (drop at (bytes_at lane buffer 4096)) ≡ bytes_at lane (buffer + at) len
part lane buffer at len inside within =
    let offset = buffer - RAM_START in
    let behind : buffer + at - RAM_START ≡ offset + at = omega arith in
    ap (λ bytes. take len (drop at bytes)) (bytes_at-is lane buffer 4096 inside.0)
    ∙ sym (drop-take at len (take 4096 (drop offset lane)))
    ∙ ap (drop at) (take-take (at + len) 4096 (drop offset lane) within)
    ∙ drop-take at len (drop offset lane)
    ∙ ap (take len) (drop-drop at offset lane)
    ∙ ap (λ n. take len (drop n lane)) (sym behind)
    ∙ sym (bytes_at-is lane (buffer + at) len (omega arith))
