-- The definitions at small inputs. The lanes here are shorter than RAM.
use Rattle.std.specs.Prelude.{◌≡◌, ℕ, ◌+◌, ◌%◌, ◌++◌, ◌==◌, List, [], ◌∷◌, Some, None, slice_index}
use Rattle.ns_ram.specs.declared.read.Read.{Read}
use Rattle.ns_ram.specs.Lane.{IsInRam, bytes_at, bytes_put}
use Rattle.ns_ram.specs.Reads.{listed, total_bytes}
use Rattle.ns_ram.specs.Reader.{Reader, ◌>>=◌, over_lane, reading, take_bytes, take_words}

abbrev pub read_of : ℕ → List ℕ → Read
read_of addr bytes = record { addr = addr; bytes = bytes }

-- the bytes behind a byte that counts them
abbrev pub counted_bytes : ℕ → Reader (List ℕ)
counted_bytes addr = do
  count ← take_bytes addr 1
  take_bytes (addr + 1) (slice_index count 0)

-- page addresses up to the first that is none, three at most
abbrev pub three_pages : Reader (List ℕ)
three_pages = take_words 0x40000000 3 (λ word. word % 4096 == 0)

-- eight bytes: 4096, and 5
abbrev pub page : List ℕ
page = 0 ∷ 16 ∷ 0 ∷ 0 ∷ 0 ∷ 0 ∷ 0 ∷ 0 ∷ []

abbrev pub five : List ℕ
five = 5 ∷ 0 ∷ 0 ∷ 0 ∷ 0 ∷ 0 ∷ 0 ∷ 0 ∷ []

pub record Examples : Type 0 where
  -- the last byte of RAM, and the address behind it, at which no bytes lie
  pub last_byte : IsInRam 0x403fffff 1
  pub past_the_last_byte : IsInRam 0x403fffff 2 → ⊥
  pub nothing_at_the_end : IsInRam 0x40400000 0
  pub below : IsInRam 0x3fffffff 1 → ⊥
  -- a lane of four bytes
  pub at_the_front : bytes_at (10 ∷ 11 ∷ 12 ∷ 13 ∷ []) 0x40000000 1 ≡ 10 ∷ []
  pub in_the_middle : bytes_at (10 ∷ 11 ∷ 12 ∷ 13 ∷ []) 0x40000001 2 ≡ 11 ∷ 12 ∷ []
  pub none_below : bytes_at (10 ∷ 11 ∷ 12 ∷ 13 ∷ []) 0x3fffffff 2 ≡ []
  pub put : bytes_put (10 ∷ 11 ∷ 12 ∷ 13 ∷ []) 0x40000001 (7 ∷ 8 ∷ []) ≡ 10 ∷ 7 ∷ 8 ∷ 13 ∷ []
  -- what is listed
  pub nothing_listed : listed 0x40000000 [] ≡ []
  pub bytes_in_all : total_bytes (read_of 0x40000000 (1 ∷ 2 ∷ []) ∷ read_of 0x40000007 (3 ∷ []) ∷ []) ≡ 3
  -- a count and its bytes, over reads
  pub counted : reading (counted_bytes 0x40000000) (read_of 0x40000000 (2 ∷ []) ∷ read_of 0x40000001 (7 ∷ 8 ∷ []) ∷ []) ≡ Some (7 ∷ 8 ∷ [])
  pub counted_none : reading (counted_bytes 0x40000000) (read_of 0x40000000 (0 ∷ []) ∷ []) ≡ Some []
  pub wrong_address : reading (counted_bytes 0x40000000) (read_of 0x40000000 (2 ∷ []) ∷ read_of 0x40000002 (7 ∷ 8 ∷ []) ∷ []) ≡ None
  pub wrong_length : reading (counted_bytes 0x40000000) (read_of 0x40000000 (2 ∷ []) ∷ read_of 0x40000001 (7 ∷ []) ∷ []) ≡ None
  pub a_read_too_few : reading (counted_bytes 0x40000000) (read_of 0x40000000 (2 ∷ []) ∷ []) ≡ None
  pub a_read_too_many : reading (counted_bytes 0x40000000) (read_of 0x40000000 (0 ∷ []) ∷ read_of 0x40000001 (7 ∷ []) ∷ []) ≡ None
  -- and over a lane
  pub counted_in_a_lane : over_lane (counted_bytes 0x40000001) (9 ∷ 2 ∷ 7 ∷ 8 ∷ []) []
      ≡ Some (7 ∷ 8 ∷ [], read_of 0x40000001 (2 ∷ []) ∷ read_of 0x40000002 (7 ∷ 8 ∷ []) ∷ [])
  pub past_the_lane : over_lane (counted_bytes 0x40000001) (9 ∷ 2 ∷ 7 ∷ []) [] ≡ None
  -- words up to the first that fails, over reads and over a lane
  pub words_end : reading three_pages (read_of 0x40000000 (page ++ five) ∷ []) ≡ Some (4096 ∷ 5 ∷ [])
  pub words_at_most : reading three_pages (read_of 0x40000000 (page ++ page ++ page) ∷ []) ≡ Some (4096 ∷ 4096 ∷ 4096 ∷ [])
  pub words_end_before : reading three_pages (read_of 0x40000000 page ∷ []) ≡ None
  pub words_end_behind : reading three_pages (read_of 0x40000000 (five ++ page) ∷ []) ≡ None
  pub half_a_word : reading three_pages (read_of 0x40000000 (page ++ five ++ 0 ∷ []) ∷ []) ≡ None
  pub words_in_a_lane : over_lane three_pages (page ++ five ++ page) [] ≡ Some (4096 ∷ 5 ∷ [], read_of 0x40000000 (page ++ five) ∷ [])
