use Rattle.std.proofs.Common.{◌≡◌, ℕ, Some, sym, arith}
use Rattle.std.specs.List.{All}
use Rattle.base.specs.NumberMap.{NumberMap, get}
use Rattle.base.proofs.MapLemmas.{All-get}
use Rattle.shm_registry.specs.declared.page_buffer.PageBuffer.{PageBuffer}
use Rattle.shm_registry.specs.Pieces.{IsBuffer}
use Rattle.shm_registry.proofs.Cutting.{buffer-room, buffer-small}
use Rattle.shm_registry.proofs.registry.Registry.resolve.Goals as goal

-- what is kept is a buffer that can be registered
valid : (buffers : NumberMap PageBuffer) (cookie : ℕ) (buffer : PageBuffer) → All (λ kept. IsBuffer kept.1) buffers →
    Some buffer ≡ get buffers cookie → IsBuffer buffer
valid buffers cookie buffer all found = All-get (λ kept. IsBuffer kept.1) buffers cookie buffer all (sym found)

pub overflow_add-start : goal.overflow_add-start
overflow_add-start c =
    let is = valid c.self.inside.buffers c.args.cookie c.in-Some.buffer.now c.self.invariant.0.buffers c.in-Some.ensures.value in
    omega (arith, is.offset, buffer-small c.in-Some.buffer.now is)

pub pieces-requires-clause-pages : goal.pieces-requires-clause-pages
pieces-requires-clause-pages c =
    let is = valid c.self.inside.buffers c.args.cookie c.in-Some.buffer.now c.self.invariant.0.buffers c.in-Some.ensures.value in
    rw c.as_slice.ensures is.pages

pub pieces-requires-clause-few : goal.pieces-requires-clause-few
pieces-requires-clause-few c =
    let is = valid c.self.inside.buffers c.args.cookie c.in-Some.buffer.now c.self.invariant.0.buffers c.in-Some.ensures.value in
    rw c.as_slice.ensures is.few

pub pieces-requires-clause-enough : goal.pieces-requires-clause-enough
pieces-requires-clause-enough c =
    let is = valid c.self.inside.buffers c.args.cookie c.in-Some.buffer.now c.self.invariant.0.buffers c.in-Some.ensures.value in
    λ some. rw c.as_slice.ensures (omega (arith, buffer-room c.in-Some.buffer.now is))
