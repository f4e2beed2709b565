-- The bytes of a buffer of pages as pieces of RAM.
use Rattle.std.specs.Prelude.{◌≡◌, ℕ, zero, suc, ◌+◌, ◌-◌, ◌/◌, ◌%◌, ◌<◌, ◌≤◌, IsTrue, ◌==◌, min, List, [], ◌∷◌, length, drop, if◌then◌else◌}
use Rattle.std.specs.List.{list_all}
use Rattle.ns_ram.specs.Lane.{IsInRam}
use Rattle.ns_ram.specs.Pages.{is_page}
use Rattle.shm_registry.specs.declared.page_buffer.PageBuffer.{PageBuffer}
use Rattle.shm_registry.specs.declared.piece.Piece.{Piece}

-- the pieces of so many bytes, from the first page at an offset on: one for each page that they touch
abbrev pub pieces_at : List ℕ → ℕ → ℕ → List Piece
pieces_at pages offset zero = []
pieces_at [] offset (suc more) = []
pieces_at (page ∷ pages) offset (suc more) =
    let len = min (suc more) (4096 - offset) in
    record { addr = page + offset; len = len } ∷ pieces_at pages 0 (suc more - len)

-- the pieces of so many bytes that begin so many bytes behind the first page's first byte
abbrev pub pieces_from : List ℕ → ℕ → ℕ → List Piece
pieces_from pages start size = pieces_at (drop (start / 4096) pages) (start % 4096) size

-- how many pages so many bytes touch that begin at an offset in a page
abbrev pub page_count : ℕ → ℕ → ℕ
page_count offset size = if size == 0 then 0 else (offset + size + 4095) / 4096

-- all bytes of the piece lie in RAM
abbrev pub IsPieceOfRam : Piece → Type 0
IsPieceOfRam piece = IsInRam piece.addr piece.len

-- a buffer that can be registered: its pages are pages of RAM, just as many as its bytes touch
pub record IsBuffer (buffer : PageBuffer) : Type 0 where
  pub offset : buffer.offset < 4096
  pub count : length buffer.pages ≡ page_count buffer.offset buffer.size
  pub few : length buffer.pages ≤ 1024
  pub pages : IsTrue (list_all is_page buffer.pages)
