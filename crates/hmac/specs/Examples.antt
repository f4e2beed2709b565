-- The definitions on small inputs.
use Rattle.std.specs.Prelude.{◌≡◌, ℕ, List, [], ◌∷◌, ◌++◌, replicate, take}
use Rattle.sha2.specs.Sha256.{sha256}
use Rattle.hmac.specs.Hmac.{filled_up, inner_block, key_block, outer_block}

-- a key of four bytes: Jefe
abbrev pub key : List ℕ
key = 0x4a ∷ 0x65 ∷ 0x66 ∷ 0x65 ∷ []

pub record Examples : Type 0 where
  pub no_key : key_block [] ≡ replicate 64 0
  pub short_key : key_block key ≡ key ++ replicate 60 0
  pub whole_key : key_block (replicate 64 7) ≡ replicate 64 7
  pub long_key : key_block (replicate 65 7) ≡ filled_up (sha256 (replicate 65 7))
  pub inner : take 5 (inner_block key) ≡ 0x7c ∷ 0x53 ∷ 0x50 ∷ 0x53 ∷ 0x36 ∷ []
  pub outer : take 5 (outer_block key) ≡ 0x16 ∷ 0x39 ∷ 0x3a ∷ 0x39 ∷ 0x5c ∷ []
