-- What is written to the RAM of the normal world, as a list. Each write stands over the ones before it.
use Rattle.std.specs.Prelude.{◌≡◌, ℕ, ◌+◌, ◌≤◌, ◌⊎◌, List, [], ◌∷◌, length}
use Rattle.std.specs.List.{AllByRecursion}
use Rattle.ns_ram.specs.Lane.{IsInRam, bytes_at, bytes_put}

-- bytes that go to an address
pub record Write : Type 0 where
  pub addr : ℕ
  pub bytes : List ℕ

-- the lane after these writes
abbrev pub lane_after : List ℕ → List Write → List ℕ
lane_after lane [] = lane
lane_after lane (write ∷ writes) = lane_after (bytes_put lane write.addr write.bytes) writes

-- ---- what writes leave alone

-- all bytes of the write lie in RAM
abbrev pub IsWriteOfRam : Write → Type 0
IsWriteOfRam write = IsInRam write.addr (length write.bytes)

-- the bytes of this address and length lie apart from the write's
abbrev pub IsApart : ℕ → ℕ → Write → Type 0
IsApart addr len write = (addr + len ≤ write.addr) ⊎ (write.addr + length write.bytes ≤ addr)

-- bytes apart from all writes stay, and the lane is as long as before
pub record ChangeTheirBytesAlone (lane : List ℕ) (writes : List Write) : Type 0 where
  pub others : (addr len : ℕ) → IsInRam addr len → AllByRecursion (IsApart addr len) writes →
      bytes_at (lane_after lane writes) addr len ≡ bytes_at lane addr len
  pub whole : length (lane_after lane writes) ≡ length lane
