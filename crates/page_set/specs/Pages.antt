-- Pages of RAM by their numbers, and sets of them: of each page, by its number, whether it is one of them. This project's own.
use Rattle.std.specs.Prelude.{◌≡◌, ℕ, ◌+◌, ◌*◌, ◌<◌, List, [], ◌∷◌, ◌++◌, Bool, true, false, drop, if◌then◌else◌, length, slice_index_or, take}
use Rattle.ns_ram.specs.Writes.{IsWriteOfRam, Write}

-- the bytes of a page
abbrev pub page_at : List ℕ → ℕ → List ℕ
page_at lane number = take 4096 (drop (4096 * number) lane)

-- the page of this number is one of these
abbrev pub is_in : List Bool → ℕ → Bool
is_in pages number = slice_index_or pages number false

-- so is each page that the bytes of this address and length touch
abbrev pub HasBytes : List Bool → ℕ → ℕ → Type 0
HasBytes pages addr len =
    (number : ℕ) → 0x40000000 + 4096 * number < addr + len → addr < 0x40000000 + 4096 * number + 4096 → is_in pages number ≡ true

-- each of the pages is one of those
abbrev pub IsWithin : List Bool → List Bool → Type 0
IsWithin pages those = (number : ℕ) → is_in pages number ≡ true → is_in those number ≡ true

-- all bytes of the write lie in RAM, and in these pages
pub record IsWriteTo (pages : List Bool) (write : Write) : Type 0 where
  pub ram : IsWriteOfRam write
  pub there : HasBytes pages write.addr (length write.bytes)

-- every other page has in the one lane what it has in the other
abbrev pub StaysElsewhere : List Bool → List ℕ → List ℕ → Type 0
StaysElsewhere pages before after =
    (number : ℕ) → number < 1024 → is_in pages number ≡ false → page_at after number ≡ page_at before number

-- the bytes of the pages of a set, one page after the other
unfoldable pub bytes_of_pages : List Bool → List ℕ → List ℕ
bytes_of_pages [] lane = []
bytes_of_pages (mark ∷ pages) lane = (if mark then take 4096 lane else []) ++ bytes_of_pages pages (drop 4096 lane)
