-- What RAM that has at least its bytes tells behind writes.
use Rattle.std.proofs.Common.{◌≡◌, ℕ, ◌+◌, ◌-◌, ◌≤◌, List, [], ◌∷◌, ◌++◌, length, take, drop, inl, inr, refl, sym, ◌∙◌, ap, arith, append_assoc, length-append, length-drop}
use Rattle.std.specs.Prelude.{◌⊎◌}
use Rattle.std.specs.List.{AllByRecursion}
use Rattle.std.proofs.lemmas.List.{drop-drop, drop-take, length-take-le, take-append-le, take-take}
use Rattle.std.proofs.Math.Seq.{drop-append-add, drop-append_seam, take-append_seam}
use Rattle.ns_ram.specs.declared.ram.TheConstants.{RAM_BYTES, RAM_START}
use Rattle.ns_ram.specs.Lane.{IsInRam, bytes_at, bytes_put}
use Rattle.ns_ram.specs.Writes.{IsApart, IsWriteOfRam, Write, lane_after}
use Rattle.ns_ram.proofs.LaneBytes.{bytes_at-is}
use Rattle.client_play.proofs.NoFaults.{whole_after}

-- as many bytes as are read
pub length_there : (lane : List ℕ) (addr len : ℕ) → RAM_BYTES ≤ length lane → IsInRam addr len → length (bytes_at lane addr len) ≡ len
length_there lane addr len whole h =
    rw (bytes_at-is lane addr len h.0) (length-take-le len (drop (addr - RAM_START) lane) (omega (arith, length-drop (addr - RAM_START) lane)))

-- fewer bytes at the same address
pub fewer_there : (lane : List ℕ) (addr few len : ℕ) → RAM_START ≤ addr → few ≤ len → take few (bytes_at lane addr len) ≡ bytes_at lane addr few
fewer_there lane addr few len above le =
    ap (λ (xs : List ℕ). take few xs) (bytes_at-is lane addr len above)
    ∙ take-take few len (drop (addr - RAM_START) lane) le
    ∙ sym (bytes_at-is lane addr few above)

-- what stands in front of the written bytes is as long as their offset
front_long : (lane : List ℕ) (addr len : ℕ) → RAM_BYTES ≤ length lane → IsInRam addr len → length (take (addr - RAM_START) lane) ≡ addr - RAM_START
front_long lane addr len whole h = length-take-le (addr - RAM_START) lane (omega arith)

pub put_there : (lane : List ℕ) (addr : ℕ) (bytes : List ℕ) → RAM_BYTES ≤ length lane → IsInRam addr (length bytes)
    → bytes_at (bytes_put lane addr bytes) addr (length bytes) ≡ bytes
put_there lane addr bytes whole h =
    let offset = addr - RAM_START in
    let behind = drop (offset + length bytes) lane in
    let n : length (take offset lane) ≡ offset = front_long lane addr (length bytes) whole h in
    let there : drop offset (take offset lane ++ (bytes ++ behind)) ≡ bytes ++ behind =
    rw n at (drop-append_seam (take offset lane) (bytes ++ behind)) in
    rw (bytes_at-is (bytes_put lane addr bytes) addr (length bytes) h.0, append_assoc (take offset lane) bytes behind, there)
    (take-append_seam bytes behind)

put_below : (lane : List ℕ) (addr : ℕ) (bytes : List ℕ) (other len : ℕ) → RAM_BYTES ≤ length lane → IsInRam addr (length bytes)
    → IsInRam other len → other + len ≤ addr → bytes_at (bytes_put lane addr bytes) other len ≡ bytes_at lane other len
put_below lane addr bytes other len whole h g below =
    let offset = addr - RAM_START in
    let at = other - RAM_START in
    let behind = bytes ++ drop (offset + length bytes) lane in
    let n : at + len ≤ length (take offset lane) = omega (arith, front_long lane addr (length bytes) whole h) in
    let same : take (at + len) (take offset lane ++ behind) ≡ take (at + len) lane =
    take-append-le (at + len) (take offset lane) behind n ∙ take-take (at + len) offset lane (omega arith) in
    rw (
      bytes_at-is (bytes_put lane addr bytes) other len g.0,
      bytes_at-is lane other len g.0,
      append_assoc (take offset lane) bytes (drop (offset + length bytes) lane),
    )
    (sym (drop-take at len (take offset lane ++ behind)) ∙ ap (λ xs. drop at xs) same ∙ drop-take at len lane)

put_above : (lane : List ℕ) (addr : ℕ) (bytes : List ℕ) (other len : ℕ) → RAM_BYTES ≤ length lane → IsInRam addr (length bytes)
    → addr + length bytes ≤ other → bytes_at (bytes_put lane addr bytes) other len ≡ bytes_at lane other len
put_above lane addr bytes other len whole h above =
    let offset = addr - RAM_START in
    let put = take offset lane ++ bytes in
    let more = other - addr - length bytes in
    let n : length put + more ≡ other - RAM_START =
    omega (arith, front_long lane addr (length bytes) whole h, length-append (take offset lane) bytes) in
    let m : offset + length bytes + more ≡ other - RAM_START = omega arith in
    let same : drop (other - RAM_START) (put ++ drop (offset + length bytes) lane) ≡ drop (other - RAM_START) lane =
    rw n at (drop-append-add put (drop (offset + length bytes) lane) more)
    ∙ drop-drop more (offset + length bytes) lane ∙ ap (λ k. drop k lane) m in
    rw (bytes_at-is (bytes_put lane addr bytes) other len (omega arith), bytes_at-is lane other len (omega arith), same) refl

-- a write to RAM changes its own bytes alone
pub put_apart : (lane : List ℕ) (addr : ℕ) (bytes : List ℕ) (other len : ℕ) → RAM_BYTES ≤ length lane → IsInRam addr (length bytes)
    → IsInRam other len → (other + len ≤ addr) ⊎ (addr + length bytes ≤ other)
    → bytes_at (bytes_put lane addr bytes) other len ≡ bytes_at lane other len
put_apart lane addr bytes other len whole h g apart =
    elim apart [
      | inl below ↦ put_below lane addr bytes other len whole h g below
      | inr above ↦ put_above lane addr bytes other len whole h above
    ]

-- and so do many
pub apart_of_all : (lane : List ℕ) (writes : List Write) (other len : ℕ) → RAM_BYTES ≤ length lane → IsInRam other len
    → AllByRecursion IsWriteOfRam writes → AllByRecursion (IsApart other len) writes
    → bytes_at (lane_after lane writes) other len ≡ bytes_at lane other len
apart_of_all lane [] other len whole g in_ram apart = refl
apart_of_all lane (write ∷ writes) other len whole g in_ram apart =
    apart_of_all (bytes_put lane write.addr write.bytes) writes other len (whole_after lane (write ∷ []) whole) g in_ram.1 apart.1
    ∙ put_apart lane write.addr write.bytes other len whole in_ram.0 g apart.0
