-- HMAC by RFC 2104 (and FIPS 198-1) with SHA-256, on lists of bytes. Section numbers are the RFC's.
use Rattle.std.specs.Prelude.{ℕ, ◌-◌, nat_lt, List, ◌++◌, length, map, replicate, bit_xor, if◌then◌else◌}
use Rattle.sha2.specs.Sha256.{sha256}

-- a key that is longer than a block of 64 bytes is hashed first (2)
abbrev pub short_key : List ℕ → List ℕ
short_key key = if nat_lt 64 (length key) then sha256 key else key

-- with zeros behind it, up to a block (2, step 1)
abbrev pub filled_up : List ℕ → List ℕ
filled_up bytes = bytes ++ replicate (64 - length bytes) 0

abbrev pub key_block : List ℕ → List ℕ
key_block key = filled_up (short_key key)

-- every byte of a block xor one byte (2, steps 2 and 5)
abbrev pub masked : ℕ → List ℕ → List ℕ
masked pad block = map (λ byte. bit_xor byte pad) block

-- what is hashed before the message, and what before that digest: the key with ipad, and with opad
abbrev pub inner_block : List ℕ → List ℕ
inner_block key = masked 0x36 (key_block key)

abbrev pub outer_block : List ℕ → List ℕ
outer_block key = masked 0x5c (key_block key)

-- H(K xor opad, H(K xor ipad, text)) (2)
unfoldable pub hmac : List ℕ → List ℕ → List ℕ
hmac key message = sha256 (outer_block key ++ sha256 (inner_block key ++ message))
