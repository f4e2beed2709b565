-- Names of object files.
use Rattle.std.proofs.Common.{◌≡◌, ℕ, ◌≤◌, List, [], ◌∷◌, ◌++◌, length, true, arith, ◌∙◌, refl, append_assoc, length-append}
use Rattle.std.specs.Prelude.{nat_le}
use Rattle.std.specs.List.{list_all}
use Rattle.std.specs.Str.{IsAscii}
use Rattle.std.proofs.lemmas.Bool.{and_parts, leb-true}
use Rattle.std.proofs.lemmas.Str.{IsAscii-append}
use Rattle.std.proofs.lemmas.Str.Ascii.{IsAscii-nil, IsAscii-cons}
use Rattle.hex.specs.Hex.{encode_lower, lower_digits}
use Rattle.hex.proofs.HexLemmas.{IsAscii-encode_with, length-encode_with}
use Rattle.rpc_msgs.specs.FileName.{IsFileName}
use Rattle.tee_storage.specs.ObjectFiles.{file_name}

all_ascii : (bytes : List ℕ) → list_all (λ b. nat_le b 127) bytes ≡ true → IsAscii bytes
all_ascii [] small = IsAscii-nil
all_ascii (b ∷ bytes) small =
    let parts = and_parts (nat_le b 127) (list_all (λ b. nat_le b 127) bytes) small in
    let here = leb-true b 127 parts.0 in
    IsAscii-cons b bytes (omega arith) (all_ascii bytes parts.1)

digits_ascii : IsAscii lower_digits
digits_ascii = all_ascii lower_digits refl

pub is_name : (uuid id : List ℕ) → length uuid ≡ 16 → length id ≤ 64 → IsFileName (file_name uuid id)
is_name uuid id whole few = record {
  few = omega (arith, length-append (encode_lower uuid) (47 ∷ encode_lower id), length-encode_with lower_digits uuid, length-encode_with lower_digits id);
  ascii = IsAscii-append (encode_lower uuid) (47 ∷ encode_lower id) (IsAscii-encode_with lower_digits uuid digits_ascii)
      (IsAscii-cons 47 (encode_lower id) (omega arith) (IsAscii-encode_with lower_digits id digits_ascii));
}

-- the parts of a name, one after the other
pub in_parts : (uuid id start octets first second third : List ℕ) → start ≡ [] → octets ≡ uuid → first ≡ start ++ encode_lower octets → second ≡ first ++ 47 ∷ [] →
    third ≡ second ++ encode_lower id → third ≡ file_name uuid id
in_parts uuid id start octets first second third empty same e f g =
    g ∙ rw (f, e, empty, same) (append_assoc (encode_lower uuid) (47 ∷ []) (encode_lower id))
