-- The line of an image, as bytes.
use Rattle.std.specs.Prelude.{ℕ, List, [], ◌∷◌, ◌++◌}
use Rattle.hex.specs.Hex.{encode_lower}
use Rattle.ta_isa.specs.Spelling.{spelling}
use Rattle.ta_isa.specs.declared.image.Image.{Image}

-- the bytes of an image in lower-case hexadecimal digits
abbrev pub image_line : Image → List ℕ
image_line image = encode_lower (spelling image) ++ 10 ∷ []
