-- Whose application a job is. This project's own.
use Rattle.std.specs.Prelude.{ℕ, List}

-- what is known of an application by which its jobs ask for objects
pub record Owner : Type 0 where
  -- the application's UUID
  pub uuid : List ℕ
  -- the key of the tags of its files, which the boot brings
  pub key : List ℕ

-- the application of this UUID, under this key
abbrev pub owner_of : List ℕ → List ℕ → Owner
owner_of uuid key = record { uuid = uuid; key = key }
