-- The number of a word, or nothing where the word isn't of its form: what the private functions of the crate compute.
use Rattle.std.specs.Prelude.{◌≡◌, ℕ, List, length, slice_index, Bool, true, false, ◌&&◌, not, Option, Some, None, Result, Ok, nat_lt, nat_le, ◌==◌, if◌then◌else◌}
use Rattle.std.specs.Result.{IsErr}
use Rattle.std.specs.List.{list_all}
use Rattle.std.specs.Char.{digit_value}
use Rattle.std.specs.Str.Parse.{digits_value}
use Rattle.hex.specs.declared.error.FromHexError.{FromHexError}

-- one digit or more, and nothing else
abbrev pub are_digits : ℕ → List ℕ → Bool
are_digits radix word = nat_lt 0 (length word) && list_all (λ c. nat_lt (digit_value c) radix) word

-- a zero that is not all of the word
abbrev pub has_leading_zero : List ℕ → Bool
has_leading_zero word = (slice_index word 0 == 48) && nat_lt 1 (length word)

-- the decimal number of a word
unfoldable pub decimal_at : List ℕ → Option ℕ
decimal_at word = if are_digits 10 word && not (has_leading_zero word) then Some (digits_value 10 word) else None

-- the number of 1 to `most` hexadecimal digits
unfoldable pub hexadecimal_at : ℕ → List ℕ → Option ℕ
hexadecimal_at most word = if are_digits 16 word && nat_le (length word) most then Some (digits_value 16 word) else None

-- two digits were read: they write this byte; or one of them is none
abbrev pub IsPair : Option ℕ → Result ℕ FromHexError → Type 0
IsPair (Some byte) pair = pair ≡ Ok byte
IsPair None pair = IsErr pair

-- digits were read, and these are their bytes; or one of them is none
abbrev pub Decodes : Bool → Result (List ℕ) FromHexError → List ℕ → Type 0
Decodes true pairs bytes = pairs ≡ Ok bytes
Decodes false pairs bytes = IsErr pairs
