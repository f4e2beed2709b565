-- Memory that was taken before it is needed.
use Rattle.std.specs.Prelude.{◌≡◌, ℕ, ◌≤◌, []}
use Rattle.std.specs.Prelude.{vec_capacity}
use Rattle.solo.specs.declared.room.OutputRoom.{OutputRoom}
use Rattle.solo.specs.declared.room.Room.{Room}

-- nothing is in it yet
pub record IsOutputRoom (room : OutputRoom) : Type 0 where
  pub p0 : room.p0.items ≡ []
  pub p1 : room.p1.items ≡ []
  pub p2 : room.p2.items ≡ []
  pub p3 : room.p3.items ≡ []

-- so many bytes of each parameter find room in it
pub record HoldsBytes (longest : ℕ) (room : OutputRoom) : Type 0 where
  pub p0 : longest ≤ vec_capacity room.p0
  pub p1 : longest ≤ vec_capacity room.p1
  pub p2 : longest ≤ vec_capacity room.p2
  pub p3 : longest ≤ vec_capacity room.p3

-- the bytes of a request find room too
pub record IsRoom (room : Room) : Type 0 where
  pub payload : (room.payload.items ≡ []) × (3584 ≤ vec_capacity room.payload)
  pub outputs : IsOutputRoom room.outputs
