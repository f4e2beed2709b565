-- Rooms in a chain.
use Rattle.std.specs.Prelude.{◌≡◌, ℕ, suc, ◌≤◌, ⊤, [], vec_capacity}
use Rattle.frame_pool.specs.declared.rooms.Link.{Link}
use Rattle.frame_pool.specs.declared.rooms.Link.TheVariants.{End, More'}

-- how many rooms there are
abbrev pub rooms_in : Link → ℕ
rooms_in End = 0
rooms_in (More' p frames next) = suc (rooms_in next)

-- the list of each is empty, and has room for the frames of an owner
abbrev pub AreReady : Link → Type 0
AreReady End = ⊤
AreReady (More' p frames next) = (frames.items ≡ []) × (64 ≤ vec_capacity frames) × AreReady next

-- those behind the first room
abbrev pub behind_first : Link → Link
behind_first End = End
behind_first (More' p frames next) = next
