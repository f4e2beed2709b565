-- What a registry has: the buffers by their cookies, and which slots pin them.
use Rattle.std.specs.Prelude.{ℕ, ◌+◌, ◌<◌, ◌≤◌, Bool, not, ◌-◌, ◌==◌, ◌&&◌, List, [], ◌∷◌, ◌++◌, length, map, filter, min, Option, IsSome, slice_get, if◌then◌else◌}
use Rattle.std.specs.List.{All, AllByRecursion, IsDistinct, list_any, reduce}
use Rattle.std.specs.Option.{option_map, option_and_then}
use Rattle.base.specs.NumberMap.{NumberMap, get, IsRising}
use Rattle.shm_registry.specs.declared.page_buffer.PageBuffer.{PageBuffer}
use Rattle.shm_registry.specs.declared.piece.Piece.{Piece}
use Rattle.shm_registry.specs.declared.pin.Pin.{Pin}
use Rattle.shm_registry.specs.Pieces.{IsBuffer, pieces_from}

-- the buffers by their cookies; and the pins, each of which stands once. Their order has no meaning
pub record Registered : Type 0 where
  pub buffers : NumberMap PageBuffer
  pub pins : List Pin

-- a pin of this slot on this cookie
abbrev pub is_pin : ℕ → ℕ → Pin → Bool
is_pin cookie slot pin = (pin.cookie == cookie) && (pin.slot == slot)

-- the pins with one of this slot on this cookie
abbrev pub with_pin : List Pin → ℕ → ℕ → List Pin
with_pin pins cookie slot =
    if list_any (is_pin cookie slot) pins then pins else pins ++ record { cookie = cookie; slot = slot } ∷ []

-- the pins without those of this slot
abbrev pub without_slot : List Pin → ℕ → List Pin
without_slot pins slot = filter (λ pin. not (pin.slot == slot)) pins

-- the slots that pin this cookie
abbrev pub slots_of : List Pin → ℕ → List ℕ
slots_of pins cookie = map (λ pin. pin.slot) (filter (λ pin. pin.cookie == cookie) pins)

-- the lowest slot that pins this cookie
abbrev pub lowest_slot : List Pin → ℕ → Option ℕ
lowest_slot pins cookie = reduce min (slots_of pins cookie)

-- the pieces of a part of a kept buffer
abbrev pub pieces_of : NumberMap PageBuffer → ℕ → ℕ → ℕ → Option (List Piece)
pieces_of buffers cookie offset size =
    option_map (λ buffer. pieces_from buffer.pages (buffer.offset + offset) size) (get buffers cookie)

-- the part of a kept buffer from an offset on that lies in one page, none where the offset is past its bytes
abbrev pub piece_at : NumberMap PageBuffer → ℕ → ℕ → Option Piece
piece_at buffers cookie offset =
    let first_from = λ (buffer : PageBuffer).
    slice_get (pieces_from buffer.pages (buffer.offset + offset) (buffer.size - offset)) 0 in
    option_and_then first_from (get buffers cookie)

-- ---- what holds of each registry

-- the pin's cookie is kept, and its slot is one
pub record IsKeptPin (buffers : NumberMap PageBuffer) (pin : Pin) : Type 0 where
  pub cookie : IsSome (get buffers pin.cookie)
  pub slot : pin.slot < 16

pub record IsSound (registered : Registered) : Type 0 where
  pub rising : IsRising registered.buffers
  pub few : length registered.buffers ≤ 64
  pub buffers : All (λ kept. IsBuffer kept.1) registered.buffers
  pub distinct : IsDistinct (λ pin other. is_pin pin.cookie pin.slot other) registered.pins
  pub pins : AllByRecursion (IsKeptPin registered.buffers) registered.pins
