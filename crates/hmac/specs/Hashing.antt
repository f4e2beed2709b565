-- What a hasher under a key has taken in.
use Rattle.std.specs.Prelude.{ℕ, List, ◌++◌}
use Rattle.sha2.specs.Hashers.{Holds256}
use Rattle.hmac.specs.declared.hasher.HmacSha256.{HmacSha256}
use Rattle.hmac.specs.Hmac.{inner_block, outer_block}

pub record Holds (hasher : HmacSha256) (key message : List ℕ) : Type 0 where
  pub inner : Holds256 hasher.inner (inner_block key ++ message)
  pub outer : Holds256 hasher.outer (outer_block key)
