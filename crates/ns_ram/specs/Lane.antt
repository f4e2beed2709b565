-- The RAM of the normal world as a list of bytes, of which the first stands at 40000000 (hexadecimal).
use Rattle.std.specs.Prelude.{◌≡◌, ℕ, ◌+◌, ◌-◌, ◌≤◌, List, [], ◌++◌, length, take, drop, ◌⊎◌, Bool, ◌&&◌, nat_le, if◌then◌else◌}

-- the bytes of this address and length lie in RAM, all of them
abbrev pub IsInRam : ℕ → ℕ → Type 0
IsInRam addr len = (0x40000000 ≤ addr) × (addr + len ≤ 0x40000000 + 0x400000)

-- the same as a test
abbrev pub is_in_ram : ℕ → ℕ → Bool
is_in_ram addr len = nat_le 0x40000000 addr && nat_le (addr + len) (0x40000000 + 0x400000)

-- the bytes from an address on, to the end of RAM; none stand below RAM
abbrev pub bytes_from : List ℕ → ℕ → List ℕ
bytes_from lane addr = if nat_le 0x40000000 addr then drop (addr - 0x40000000) lane else []

-- the bytes of this address and length, as many of them as there are
abbrev pub bytes_at : List ℕ → ℕ → ℕ → List ℕ
bytes_at lane addr len = take len (bytes_from lane addr)

-- the lane with these bytes at this address in place of those that stood there
abbrev pub bytes_put : List ℕ → ℕ → List ℕ → List ℕ
bytes_put lane addr bytes =
    let offset = addr - 0x40000000 in
    take offset lane ++ bytes ++ drop (offset + length bytes) lane

-- a write to a lane at this address, of these bytes: they are read there, no others are changed, and the
-- lane is as long as before
pub record ChangesItsBytesAlone (lane : List ℕ) (addr : ℕ) (bytes : List ℕ) : Type 0 where
  pub written : bytes_at (bytes_put lane addr bytes) addr (length bytes) ≡ bytes
  pub others : (other len : ℕ) → IsInRam other len → (other + len ≤ addr) ⊎ (addr + length bytes ≤ other) →
      bytes_at (bytes_put lane addr bytes) other len ≡ bytes_at lane other len
  pub whole : length (bytes_put lane addr bytes) ≡ length lane
