-- The forms of words, and what a word of each form writes. The language is this project's own.
use Rattle.std.specs.Prelude.{ℕ, ◌^◌, List, drop, length, slice_index, nat_lt, nat_le, Bool, ◌&&◌, ◌||◌, ◌==◌, if◌then◌else◌, Option, None, Some, option_and_then}
use Rattle.std.specs.List.{list_all}
use Rattle.std.specs.Char.{digit_value}
use Rattle.std.specs.Str.Parse.{digits_value}

-- one digit or more, and nothing else
abbrev pub are_digits : ℕ → List ℕ → Bool
are_digits radix word = nat_lt 0 (length word) && list_all (λ c. nat_lt (digit_value c) radix) word

-- the number that digits write, as many as there are, where it is below 2^32
unfoldable pub digits_at : ℕ → List ℕ → Option ℕ
digits_at radix word = if are_digits radix word && nat_lt (digits_value radix word) (2 ^ 32) then Some (digits_value radix word) else None

-- a zero that is not all of the word
abbrev pub has_leading_zero : List ℕ → Bool
has_leading_zero word = (slice_index word 0 == 48) && nat_lt 1 (length word)

-- decimal digits, without a leading zero but in `0`
unfoldable pub decimal_at : List ℕ → Option ℕ
decimal_at word = if has_leading_zero word then None else digits_at 10 word

-- the word begins with `0x`
abbrev pub has_radix_prefix : List ℕ → Bool
has_radix_prefix word = (slice_index word 0 == 48) && (slice_index word 1 == 120)

-- hexadecimal digits of either case behind `0x`, or decimal ones
unfoldable pub number_at : List ℕ → Option ℕ
number_at word = if has_radix_prefix word then digits_at 16 (drop 2 word) else decimal_at word

-- the number, where it is at most this
abbrev pub at_most : ℕ → ℕ → Option ℕ
at_most limit number = if nat_le number limit then Some number else None

-- `r0` to `r15`
unfoldable pub register_at : List ℕ → Option ℕ
register_at word = if slice_index word 0 == 114 then option_and_then (at_most 15) (decimal_at (drop 1 word)) else None

abbrev pub is_letter : ℕ → Bool
is_letter byte = (nat_le 65 byte && nat_le byte 90) || (nat_le 97 byte && nat_le byte 122)

-- a letter, a decimal digit or `_`
abbrev pub is_name_byte : ℕ → Bool
is_name_byte byte = is_letter byte || (nat_le 48 byte && nat_le byte 57) || (byte == 95)

-- the name of a label: a letter, then letters, digits or `_`
unfoldable pub is_name : List ℕ → Bool
is_name word = nat_lt 0 (length word) && is_letter (slice_index word 0) && list_all is_name_byte word
