-- The forms of words, and what a word of each form writes.
use Rattle.std.specs.Prelude.{ℕ, ◌-◌, List, [], length, slice_index, nat_le, Bool, ◌&&◌, ◌||◌, not, ◌==◌, if◌then◌else◌, is_some, is_ok}
use Rattle.std.specs.Option.{unwrap_or}
use Rattle.std.specs.Result.{result_ok}
use Rattle.std.specs.Str.Parse.{digits_value}
use Rattle.hex.specs.Hex.{decode_of}
use Rattle.uuid.specs.Text.{parsed_hyphenated}
use Rattle.trace_text.specs.declared.item.Reg.{Reg}
use Rattle.trace_text.specs.declared.item.Reg.TheVariants.{Num, Last}
use Rattle.trace_text.specs.Reading.{are_digits, has_leading_zero}

-- decimal digits without a sign, and without a leading zero but in `0`
unfoldable pub is_decimal : List ℕ → Bool
is_decimal word = are_digits 10 word && not (has_leading_zero word)

unfoldable pub decimal : List ℕ → ℕ
decimal word = digits_value 10 word

-- 1 to `most` hexadecimal digits of either case
unfoldable pub is_hexadecimal : ℕ → List ℕ → Bool
is_hexadecimal most word = are_digits 16 word && nat_le (length word) most

unfoldable pub hexadecimal : List ℕ → ℕ
hexadecimal word = digits_value 16 word

-- `=i`, i from 0 to 7: a register of the last answer
unfoldable pub is_last : List ℕ → Bool
is_last word = (length word == 2) && (slice_index word 0 == 61) && nat_le 48 (slice_index word 1) && nat_le (slice_index word 1) 55

-- 1 to 8 hexadecimal digits, or a register of the last answer
unfoldable pub is_register : List ℕ → Bool
is_register word = is_last word || is_hexadecimal 8 word

unfoldable pub register : List ℕ → Reg
register word = if is_last word then Last (slice_index word 1 - 48) else Num (hexadecimal word)

-- the hyphenated form of a UUID, 8-4-4-4-12 hexadecimal digits of either case
unfoldable pub is_uuid : List ℕ → Bool
is_uuid word = is_some (parsed_hyphenated word)

-- its sixteen bytes
unfoldable pub uuid : List ℕ → List ℕ
uuid word = unwrap_or (parsed_hyphenated word) []

-- an even number of hexadecimal digits of either case, two for each byte
unfoldable pub is_hex : List ℕ → Bool
is_hex word = is_ok (decode_of word)

-- the bytes
unfoldable pub bytes : List ℕ → List ℕ
bytes word = unwrap_or (result_ok (decode_of word)) []
