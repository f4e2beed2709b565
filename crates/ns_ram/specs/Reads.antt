-- What was read of the normal world's RAM, as a list.
use Rattle.std.specs.Prelude.{◌≡◌, ℕ, List, [], ◌∷◌, length, sum_by}
use Rattle.std.specs.List.{AllByRecursion}
use Rattle.ns_ram.specs.declared.read.Read.{Read}
use Rattle.ns_ram.specs.Lane.{bytes_at}

-- how many bytes were read in all
abbrev pub total_bytes : List Read → ℕ
total_bytes reads = sum_by (λ read. length read.bytes) reads

-- the lane has the bytes that were read at their address
abbrev pub HoldsRead : List ℕ → Read → Type 0
HoldsRead lane read = bytes_at lane read.addr (length read.bytes) ≡ read.bytes

-- the lane has the bytes of each read
abbrev pub HoldsReads : List ℕ → List Read → Type 0
HoldsReads lane reads = AllByRecursion (HoldsRead lane) reads

-- the list of one read, or the empty one, since a read of no bytes isn't listed
abbrev pub listed : ℕ → List ℕ → List Read
listed addr [] = []
listed addr (byte ∷ bytes) = record { addr = addr; bytes = byte ∷ bytes } ∷ []
