-- What a lane has at an address, after a write to it too.
use Rattle.std.proofs.Common.{◌≡◌, ℕ, ◌+◌, ◌-◌, ◌≤◌, List, ◌++◌, length, take, drop, refl, sym, ◌∙◌, ap, arith, append_assoc, length-append, length-drop}
use Rattle.std.proofs.lemmas.List.{take-take, drop-take, length-take-le, take-append-le, drop-drop}
use Rattle.std.proofs.lemmas.Bool.{le-leb}
use Rattle.std.proofs.Math.Seq.{take-append_seam, drop-append_seam, drop-append-add}
use Rattle.ns_ram.specs.declared.ram.TheConstants.{RAM_START, RAM_BYTES}
use Rattle.ns_ram.specs.Lane.{IsInRam, bytes_from, bytes_at, bytes_put}
use Rattle.base.specs.Zeros.{zeros}
use Rattle.base.proofs.ZeroLemmas.{zeros-part}

pub bytes_from-is : (lane : List ℕ) (addr : ℕ) → RAM_START ≤ addr →
    bytes_from lane addr ≡ drop (addr - RAM_START) lane
bytes_from-is lane addr h = rw (le-leb RAM_START addr h) refl

pub bytes_at-is : (lane : List ℕ) (addr len : ℕ) → RAM_START ≤ addr →
    bytes_at lane addr len ≡ take len (drop (addr - RAM_START) lane)
bytes_at-is lane addr len h = ap (λ xs. take len xs) (bytes_from-is lane addr h)

pub length-bytes_at : (lane : List ℕ) (addr len : ℕ) → length lane ≡ RAM_BYTES → IsInRam addr len →
    length (bytes_at lane addr len) ≡ len
length-bytes_at lane addr len whole h =
    rw (bytes_at-is lane addr len h.0) (length-take-le len (drop (addr - RAM_START) lane) (omega (arith, length-drop (addr - RAM_START) lane)))

-- what stands in front of the written bytes is as long as their offset
length-front : (lane : List ℕ) (addr len : ℕ) → length lane ≡ RAM_BYTES → IsInRam addr len →
    length (take (addr - RAM_START) lane) ≡ addr - RAM_START
length-front lane addr len whole h = length-take-le (addr - RAM_START) lane (omega arith)

pub length-bytes_put : (lane : List ℕ) (addr : ℕ) (bytes : List ℕ) → length lane ≡ RAM_BYTES →
    IsInRam addr (length bytes) → length (bytes_put lane addr bytes) ≡ RAM_BYTES
length-bytes_put lane addr bytes whole h =
    let offset = addr - RAM_START in
    omega (
      arith,
      length-front lane addr (length bytes) whole h,
      length-append (take offset lane) bytes,
      length-append (take offset lane ++ bytes) (drop (offset + length bytes) lane),
      length-drop (offset + length bytes) lane,
    )

pub bytes_at-bytes_put : (lane : List ℕ) (addr : ℕ) (bytes : List ℕ) → length lane ≡ RAM_BYTES →
    IsInRam addr (length bytes) → bytes_at (bytes_put lane addr bytes) addr (length bytes) ≡ bytes
bytes_at-bytes_put lane addr bytes whole h =
    let offset = addr - RAM_START in
    let behind = drop (offset + length bytes) lane in
    let n : length (take offset lane) ≡ offset = length-front lane addr (length bytes) whole h in
    let there : drop offset (take offset lane ++ (bytes ++ behind)) ≡ bytes ++ behind =
    rw n at (drop-append_seam (take offset lane) (bytes ++ behind)) in
    rw (bytes_at-is (bytes_put lane addr bytes) addr (length bytes) h.0, append_assoc (take offset lane) bytes behind, there)
    (take-append_seam bytes behind)

pub bytes_at-bytes_put_below : (lane : List ℕ) (addr : ℕ) (bytes : List ℕ) (other len : ℕ) →
    length lane ≡ RAM_BYTES → IsInRam addr (length bytes) → IsInRam other len → other + len ≤ addr →
    bytes_at (bytes_put lane addr bytes) other len ≡ bytes_at lane other len
bytes_at-bytes_put_below lane addr bytes other len whole h g below =
    let offset = addr - RAM_START in
    let at = other - RAM_START in
    let behind = bytes ++ drop (offset + length bytes) lane in
    let n : at + len ≤ length (take offset lane) = omega (arith, length-front lane addr (length bytes) whole h) in
    let same : take (at + len) (take offset lane ++ behind) ≡ take (at + len) lane =
    take-append-le (at + len) (take offset lane) behind n ∙ take-take (at + len) offset lane (omega arith) in
    rw (
      bytes_at-is (bytes_put lane addr bytes) other len g.0,
      bytes_at-is lane other len g.0,
      append_assoc (take offset lane) bytes (drop (offset + length bytes) lane),
    )
    (sym (drop-take at len (take offset lane ++ behind)) ∙ ap (λ xs. drop at xs) same ∙ drop-take at len lane)

pub bytes_at-bytes_put_above : (lane : List ℕ) (addr : ℕ) (bytes : List ℕ) (other len : ℕ) →
    length lane ≡ RAM_BYTES → IsInRam addr (length bytes) → addr + length bytes ≤ other →
    bytes_at (bytes_put lane addr bytes) other len ≡ bytes_at lane other len
bytes_at-bytes_put_above lane addr bytes other len whole h above =
    let offset = addr - RAM_START in
    let put = take offset lane ++ bytes in
    let more = other - addr - length bytes in
    let n : length put + more ≡ other - RAM_START =
    omega (arith, length-front lane addr (length bytes) whole h, length-append (take offset lane) bytes) in
    let m : offset + length bytes + more ≡ other - RAM_START = omega arith in
    let same : drop (other - RAM_START) (put ++ drop (offset + length bytes) lane) ≡ drop (other - RAM_START) lane =
    rw n at (drop-append-add put (drop (offset + length bytes) lane) more)
    ∙ drop-drop more (offset + length bytes) lane ∙ ap (λ k. drop k lane) m in
    rw (bytes_at-is (bytes_put lane addr bytes) other len (omega arith), bytes_at-is lane other len (omega arith), same) refl

pub bytes_at-zeros : (addr len : ℕ) → IsInRam addr len → bytes_at (zeros RAM_BYTES) addr len ≡ zeros len
bytes_at-zeros addr len h =
    rw (bytes_at-is (zeros RAM_BYTES) addr len h.0) (zeros-part RAM_BYTES (addr - RAM_START) len (omega arith))
