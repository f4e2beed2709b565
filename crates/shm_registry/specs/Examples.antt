-- Pieces, and registries of few buffers.
use Rattle.std.specs.Prelude.{◌≡◌, ℕ, List, [], ◌∷◌, Some, None}
use Rattle.base.specs.NumberMap.{NumberMap}
use Rattle.shm_registry.specs.declared.page_buffer.PageBuffer.{PageBuffer}
use Rattle.shm_registry.specs.declared.piece.Piece.{Piece}
use Rattle.shm_registry.specs.declared.pin.Pin.{Pin}
use Rattle.shm_registry.specs.Pieces.{page_count, pieces_from}
use Rattle.shm_registry.specs.Registered.{with_pin, without_slot, lowest_slot, piece_at, pieces_of}

abbrev pub piece : ℕ → ℕ → Piece
piece addr len = record { addr = addr; len = len }

abbrev pub pin : ℕ → ℕ → Pin
pin cookie slot = record { cookie = cookie; slot = slot }

-- three pages, of which the first stands twice
abbrev pub three : List ℕ
three = 0x40003000 ∷ 0x40001000 ∷ 0x40003000 ∷ []

-- 4106 bytes, the first of them at 4090 in its page
abbrev pub buffer : PageBuffer
buffer = record { pages = three; offset = 4090; size = 4106 }

abbrev pub kept : NumberMap PageBuffer
kept = (5, buffer) ∷ (9, record { pages = three; offset = 0; size = 12288 }) ∷ []

abbrev pub pins : List Pin
pins = pin 5 3 ∷ pin 5 1 ∷ pin 9 0 ∷ []

pub record Examples : Type 0 where
  pub no_pages : page_count 5 0 ≡ 0
  pub one_page : page_count 4095 1 ≡ 1
  pub two_pages : page_count 4095 2 ≡ 2
  pub whole_pages : page_count 0 8192 ≡ 2
  pub three_pages : page_count 4090 4106 ≡ 3
  -- a piece for each page
  pub nothing : pieces_from three 4090 0 ≡ []
  pub in_one_page : pieces_from three 8 16 ≡ piece 0x40003008 16 ∷ []
  pub over_an_edge : pieces_from three 4090 16 ≡ piece 0x40003ffa 6 ∷ piece 0x40001000 10 ∷ []
  pub over_three : pieces_from three 4090 4106 ≡ piece 0x40003ffa 6 ∷ piece 0x40001000 4096 ∷ piece 0x40003000 4 ∷ []
  pub from_the_second : pieces_from three 4096 4097 ≡ piece 0x40001000 4096 ∷ piece 0x40003000 1 ∷ []
  pub to_the_end : pieces_from three 8192 4096 ≡ piece 0x40003000 4096 ∷ []
  -- of a kept buffer, whose own offset counts
  pub part : pieces_of kept 5 6 10 ≡ Some (piece 0x40001000 10 ∷ [])
  pub unknown : pieces_of kept 6 0 1 ≡ None
  -- from a byte on, as far as its page and its buffer go
  pub first_byte : piece_at kept 5 0 ≡ Some (piece 0x40003ffa 6)
  pub byte_of_a_page : piece_at kept 5 106 ≡ Some (piece 0x40001064 3996)
  pub last_bytes : piece_at kept 5 4102 ≡ Some (piece 0x40003000 4)
  pub last_byte : piece_at kept 9 12287 ≡ Some (piece 0x40003fff 1)
  pub no_byte : piece_at kept 5 4106 ≡ None
  pub no_buffer : piece_at kept 6 0 ≡ None
  -- pins
  pub pinned_again : with_pin pins 5 1 ≡ pins
  pub pinned : with_pin pins 9 3 ≡ pin 5 3 ∷ pin 5 1 ∷ pin 9 0 ∷ pin 9 3 ∷ []
  pub unpinned : without_slot pins 1 ≡ pin 5 3 ∷ pin 9 0 ∷ []
  pub lowest : lowest_slot pins 5 ≡ Some 1
  pub none : lowest_slot pins 6 ≡ None
