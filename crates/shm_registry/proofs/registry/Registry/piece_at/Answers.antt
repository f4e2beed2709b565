use Rattle.std.proofs.Common.{◌≡◌, ℕ, ◌+◌, ◌-◌, Some, sym, ap, ◌∙◌, arith}
use Rattle.std.specs.Prelude.{List, slice_get}
use Rattle.std.specs.List.{All}
use Rattle.std.specs.Option.{option_and_then}
use Rattle.base.specs.NumberMap.{NumberMap, get}
use Rattle.base.proofs.MapLemmas.{All-get}
use Rattle.shm_registry.specs.declared.page_buffer.PageBuffer.{PageBuffer}
use Rattle.shm_registry.specs.Pieces.{IsBuffer, pieces_from}
use Rattle.shm_registry.specs.Registered.{Registered, piece_at}
use Rattle.shm_registry.proofs.Cutting.{buffer-room, buffer-small}
use Rattle.shm_registry.proofs.registry.Registry.piece_at.Goals as goal

-- what is kept is a buffer that can be registered
valid : (buffers : NumberMap PageBuffer) (cookie : ℕ) (buffer : PageBuffer) → All (λ kept. IsBuffer kept.1) buffers →
    Some buffer ≡ get buffers cookie → IsBuffer buffer
valid buffers cookie buffer all found = All-get (λ kept. IsBuffer kept.1) buffers cookie buffer all (sym found)

pub overflow_add-start : goal.overflow_add-start
overflow_add-start c =
    let is = valid c.self.inside.buffers c.args.cookie c.in_ok-buffer.buffer.now c.self.invariant.0.buffers c.in_ok-buffer.ensures.value in
    omega (arith, is.offset, buffer-small c.in_ok-buffer.buffer.now is)

pub first_piece-requires-clause-pages : goal.first_piece-requires-clause-pages
first_piece-requires-clause-pages c =
    let is = valid c.self.inside.buffers c.args.cookie c.in_ok-buffer.buffer.now c.self.invariant.0.buffers c.in_ok-buffer.ensures.value in
    rw c.as_slice.ensures is.pages

pub first_piece-requires-clause-enough : goal.first_piece-requires-clause-enough
first_piece-requires-clause-enough c =
    let is = valid c.self.inside.buffers c.args.cookie c.in_ok-buffer.buffer.now c.self.invariant.0.buffers c.in_ok-buffer.ensures.value in
    let room = buffer-room c.in_ok-buffer.buffer.now is (omega arith) in
    rw c.as_slice.ensures (omega (arith, room))

pub returns-clause-piece : goal.returns-clause-piece
returns-clause-piece c =
    let from : c.from.result ≡ c.in_ok-buffer.buffer.now.offset = omega arith in
    let left : ℕ = c.in_ok-buffer.buffer.now.size - c.args.offset in
    c.first_piece.ensures.piece
    ∙ ap (λ (pages : List ℕ). slice_get (pieces_from pages (c.from.result + c.args.offset) left) 0) c.as_slice.ensures
    ∙ ap (λ (at : ℕ). slice_get (pieces_from c.in_ok-buffer.buffer.now.pages (at + c.args.offset) left) 0) from
    ∙ ap (option_and_then (λ (buffer : PageBuffer). slice_get (pieces_from buffer.pages (buffer.offset + c.args.offset) (buffer.size - c.args.offset)) 0)) c.in_ok-buffer.ensures.value
    ∙ ap (λ (registered : Registered). piece_at registered.buffers c.args.cookie c.args.offset) c.self.view_is
