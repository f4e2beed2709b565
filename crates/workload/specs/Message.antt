-- Message arguments as bytes, by optee_msg.h: a head and parameters, all numbers with the lowest byte first.
use Rattle.std.specs.Prelude.{ℕ, List, [], ◌∷◌}
use Rattle.std.specs.List.{flat_map}
use Rattle.byteorder.specs.Endian.{little_bytes}
use Rattle.workload.specs.declared.message.Head.{Head}

abbrev pub words : List ℕ → List ℕ
words numbers = flat_map (little_bytes 4) numbers

abbrev pub long_words : List ℕ → List ℕ
long_words numbers = flat_map (little_bytes 8) numbers

-- the 32 bytes of a head; pad, ret and origin are 0
unfoldable pub head : Head → List ℕ
head h = words (h.cmd ∷ h.func ∷ h.session ∷ h.cancel_id ∷ 0 ∷ 0 ∷ 0 ∷ h.count ∷ [])

-- the 32 bytes of a parameter
unfoldable pub param : ℕ → ℕ → ℕ → ℕ → List ℕ
param attr p q s = long_words (attr ∷ p ∷ q ∷ s ∷ [])
