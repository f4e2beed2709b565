-- How many bytes an image has.
use Rattle.std.proofs.Common.{◌≡◌, ℕ, ◌+◌, ◌*◌, ◌^◌, ◌<◌, List, [], ◌∷◌, length, refl, arith}
use Rattle.std.specs.List.{flat_map}
use Rattle.std.proofs.lemmas.List.{length-append}
use Rattle.ta_isa.specs.declared.image.Image.{Image}
use Rattle.ta_isa.specs.declared.image.Instr.{Instr}
use Rattle.ta_isa.specs.Spelling.{instruction, IsValid, spelling, word}

length-words : (xs : List ℕ) → length (flat_map word xs) ≡ 4 * length xs
length-words [] = refl
length-words (x ∷ xs) = let h = length-words xs in omega arith

length-instructions : (code : List Instr) → length (flat_map instruction code) ≡ 8 * length code
length-instructions [] = refl
length-instructions (i ∷ code) = let h = length-instructions code in omega arith

length-image : (image : Image) → length image.entries ≡ 5 → length (spelling image) ≡ 36 + 8 * length image.code
length-image image five =
    omega (arith, length-append (flat_map word image.entries) (flat_map instruction image.code), length-words image.entries, length-instructions image.code, five)

pub some_bytes : (image : Image) → IsValid image → 0 < length (spelling image)
some_bytes image valid = let len = length-image image valid.five_entries in omega (arith, len)

pub few_bytes : (image : Image) → IsValid image → length (spelling image) < 2 ^ 32
few_bytes image valid =
    let len = length-image image valid.five_entries in
    let most = valid.most_instructions in
    omega (arith, len, most)
