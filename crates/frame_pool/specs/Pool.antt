-- What contracts see of a pool.
use Rattle.std.specs.Prelude.{ℕ}

-- how many frames there are in all, and how many of them are free
pub record Frames : Type 0 where
  pub frames : ℕ
  pub free : ℕ
