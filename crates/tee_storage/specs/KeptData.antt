-- The whole data of an object, which a call reads piece by piece where it has a tag to check or to make. This project's own.
use Rattle.std.specs.Prelude.{ℕ, ◌-◌, max, List, [], ◌∷◌, ◌++◌, take, drop, if◌then◌else◌}
use Rattle.base.specs.Bytes.{overwritten}
use Rattle.rpc_msgs.specs.declared.rpc.Rpc.TheVariants.{FsRead}
use Rattle.tee_storage.specs.declared.handle.Handle.{Handle}
use Rattle.tee_storage.specs.ObjectFiles.{Piece, offset_of}
use Rattle.tee_storage.specs.Program.{Now, Program, fails}
use Rattle.tee_storage.specs.Replies.{asks, is_whole}

-- what a piece, the first of whose bytes stands at this place in the data, changes at once
abbrev pub Storing : Type 0
Storing = Now → ℕ → List ℕ → Now

-- a write stores nothing of what it reads
abbrev pub storing_none : Storing
storing_none now start bytes = now

-- the bytes of a piece that stand from one place on and before another
abbrev pub part_between : ℕ → ℕ → ℕ → List ℕ → List ℕ
part_between first end start bytes = take (end - max first start) (drop (first - start) bytes)

-- a read stores those that it was asked for, where they belong in the range
abbrev pub storing_between : ℕ → ℕ → Storing
storing_between first end now start bytes =
    record now { range = overwritten now.range (start - first) (part_between first end start bytes) }

-- one piece after the other, and then the rest of the call, by all of the data. A piece of another size is CORRUPT_OBJECT
abbrev pub reading_data : Handle → Storing → List Piece → List ℕ → Now → (List ℕ → Now → Program) → Program
reading_data object storing [] content now onward = onward content now
reading_data object storing (piece ∷ others) content now onward =
    asks (FsRead object.fd (offset_of piece.start) piece.len) [] now (λ reply.
    if is_whole reply piece.len
    then reading_data object storing others (content ++ reply.bytes) (storing now piece.start reply.bytes) onward
    else fails 0xf0100001 now)
