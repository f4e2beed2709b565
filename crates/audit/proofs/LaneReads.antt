-- Reads that have the bytes of one lane agree.
use Rattle.std.proofs.Common.{◌≡◌, ℕ, zero, suc, ◌+◌, ◌-◌, ◌<◌, ◌≤◌, Bool, true, false, List, [], ◌∷◌, length, take, drop, Option, Some, refl, sym, ap, ◌∙◌, arith}
use Rattle.std.proofs.lemmas.Bool.{le-leb}
use Rattle.std.specs.Prelude.{AllPairs, nat_le, if◌then◌else◌, slice_get, slice_index_or}
use Rattle.kernel_state.specs.Reads.{Agree}
use Rattle.ns_ram.specs.Lane.{bytes_from}
use Rattle.ns_ram.specs.Reads.{HoldsRead, HoldsReads}
use Rattle.ns_ram.specs.declared.read.Read.{Read}

from_take : (count : ℕ) (xs : List ℕ) (at byte : ℕ) → slice_get (take count xs) at ≡ Some byte → slice_get xs at ≡ Some byte
from_take zero xs at byte is = absurd cc
from_take (suc count) [] at byte is = absurd cc
from_take (suc count) (x ∷ xs) zero byte is = is
from_take (suc count) (x ∷ xs) (suc at) byte is = from_take count xs at byte is

from_drop : (count : ℕ) (xs : List ℕ) (at place : ℕ) → place ≡ count + at → slice_get (drop count xs) at ≡ slice_get xs place
from_drop zero xs at place is = let same : at ≡ place = omega (arith, is) in ap (slice_get xs) same
from_drop (suc count) [] at place is = refl
from_drop (suc count) (x ∷ xs) at zero is = absurd (omega (arith, is))
from_drop (suc count) (x ∷ xs) at (suc place) is = from_drop count xs at place (omega (arith, is))

-- the byte at an address
abbrev byte_at : List ℕ → ℕ → Option ℕ
byte_at lane addr = slice_get lane (addr - 0x40000000)

in_ram_then : (lane : List ℕ) (addr at byte : ℕ) (is_in : Bool) → nat_le 0x40000000 addr ≡ is_in
    → slice_get (if is_in then drop (addr - 0x40000000) lane else []) at ≡ Some byte → byte_at lane (addr + at) ≡ Some byte
in_ram_then lane addr at byte true above is =
    let over : 0x40000000 ≤ addr = grind (arith, above, le-leb) in
    sym (from_drop (addr - 0x40000000) lane at (addr + at - 0x40000000) (omega (arith, over))) ∙ is
in_ram_then lane addr at byte false above is = absurd cc

byte_read : (lane : List ℕ) (read : Read) (at byte : ℕ) → HoldsRead lane read → slice_get read.bytes at ≡ Some byte
    → byte_at lane (read.addr + at) ≡ Some byte
byte_read lane read at byte held is =
    in_ram_then lane read.addr at byte (nat_le 0x40000000 read.addr) refl
    (from_take (length read.bytes) (bytes_from lane read.addr) at byte (ap (λ (bytes : List ℕ). slice_get bytes at) held ∙ is))

two_agree : (lane : List ℕ) (one other : Read) → HoldsRead lane one → HoldsRead lane other → Agree one other
two_agree lane one other held held_too i j byte that same is is_too =
    let first : byte_at lane (one.addr + i) ≡ Some byte = byte_read lane one i byte held is in
    let second : byte_at lane (other.addr + j) ≡ Some that = byte_read lane other j that held_too is_too in
    let both : Some byte ≡ Some that = sym first ∙ ap (byte_at lane) same ∙ second in
    cc

held_there : (lane : List ℕ) (reads : List Read) (at : ℕ) (none : Read) → at < length reads → HoldsReads lane reads
    → HoldsRead lane (slice_index_or reads at none)
held_there lane [] at none within held = absurd (omega (arith, within))
held_there lane (read ∷ reads) zero none within held = held.0
held_there lane (read ∷ reads) (suc at) none within held = held_there lane reads at none (omega (arith, within)) held.1

pub lane_reads_agree : (lane : List ℕ) (reads : List Read) → HoldsReads lane reads → AllPairs Agree reads
lane_reads_agree lane reads held i j none before within =
    two_agree lane (slice_index_or reads i none) (slice_index_or reads j none)
    (held_there lane reads i none (omega (arith, before, within)) held) (held_there lane reads j none within held)
