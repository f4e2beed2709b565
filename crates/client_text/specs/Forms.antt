-- The forms of words that the script of a client has beside those of a trace, and what a word of each form writes. This
-- project's own.
use Rattle.std.specs.Prelude.{ℕ, List, [], ◌∷◌, codes, drop, length, nat_le, nat_lt, Bool, true, false, ◌&&◌, ◌==◌, if◌then◌else◌}
use Rattle.std.specs.Prelude.{Option, Some, None, min, take}
use Rattle.std.specs.List.{list_all, slice_split}
use Rattle.std.specs.Str.{bytes_eq}
use Rattle.client_text.specs.declared.param_key.ParamKey.{ParamKey}
use Rattle.client_text.specs.declared.param_key.ParamKey.TheVariants as key
use Rattle.client_text.specs.declared.script.ScriptParam.{ScriptParam}
use Rattle.client_text.specs.declared.script.ScriptParam.TheVariants.{Empty, ValueIn, ValueOut, ValueInout, MemoryIn, MemoryOut, MemoryInout}
use Rattle.trace_text.specs.Forms.{bytes, decimal, hexadecimal, is_decimal, is_hex, is_hexadecimal}
use Rattle.trace_text.specs.Limits.{is_within}
use Rattle.trace_text.specs.Rules.{word}

-- ---- names of sessions

-- a lower-case letter
abbrev pub is_letter : ℕ → Bool
is_letter byte = nat_le 97 byte && nat_le byte 122

-- 1 to 16 of them
unfoldable pub is_name : List ℕ → Bool
is_name name = is_within 1 16 (length name) && list_all is_letter name

-- ---- numbers

-- a decimal number. One that 32 bits don't hold is above every limit, and the greatest that they hold stands for it
abbrev pub small : List ℕ → ℕ
small part = min 4294967295 (decimal part)

-- ---- the word by which a call is cancelled

-- what stands behind `cancel:`, in a word that begins so
unfoldable pub cancel_number : List ℕ → Option (List ℕ)
cancel_number number = if bytes_eq (take 7 number) (codes "cancel:") then Some (drop 7 number) else None

-- ---- parameters

-- what the colons of a word part
abbrev pub parts_of : List ℕ → List (List ℕ)
parts_of whole = slice_split (λ b. b == 58) whole

-- the first part of each parameter
abbrev pub key_table : List (List ℕ × ParamKey)
key_table =
    (codes "none", key.Empty)
    ∷ (codes "vi", key.ValueIn)
    ∷ (codes "vo", key.ValueOut)
    ∷ (codes "vio", key.ValueInout)
    ∷ (codes "mi", key.MemoryIn)
    ∷ (codes "mo", key.MemoryOut)
    ∷ (codes "mio", key.MemoryInout)
    ∷ []

-- the key beside the first row of this part
abbrev pub key_in : List (List ℕ × ParamKey) → List ℕ → Option ParamKey
key_in [] part = None
key_in (row ∷ rows) part = if bytes_eq part row.0 then Some row.1 else key_in rows part

unfoldable pub key_named : List ℕ → Option ParamKey
key_named part = key_in key_table part

-- a number of 1 to 8 hexadecimal digits
abbrev pub is_short : List ℕ → Bool
is_short part = is_hexadecimal 8 part

-- some bytes in hexadecimal digits
abbrev pub are_bytes : List ℕ → Bool
are_bytes part = nat_lt 0 (length part) && is_hex part

-- the parts behind the first: none; two numbers; bytes; or a length
abbrev pub is_nothing : List (List ℕ) → Bool
is_nothing [] = true
is_nothing (part ∷ parts) = false

abbrev pub are_numbers : List (List ℕ) → Bool
are_numbers [] = false
are_numbers (a ∷ []) = false
are_numbers (a ∷ (b ∷ [])) = is_short a && is_short b
are_numbers (a ∷ (b ∷ (c ∷ parts))) = false

abbrev pub are_of_memory : List (List ℕ) → Bool
are_of_memory [] = false
are_of_memory (part ∷ []) = are_bytes part
are_of_memory (part ∷ (other ∷ parts)) = false

abbrev pub is_length : List (List ℕ) → Bool
is_length [] = false
is_length (part ∷ []) = is_decimal part
is_length (part ∷ (other ∷ parts)) = false

abbrev pub fits_key : ParamKey → List (List ℕ) → Bool
fits_key key.Empty parts = is_nothing parts
fits_key key.ValueIn parts = are_numbers parts
fits_key key.ValueOut parts = is_nothing parts
fits_key key.ValueInout parts = are_numbers parts
fits_key key.MemoryIn parts = are_of_memory parts
fits_key key.MemoryOut parts = is_length parts
fits_key key.MemoryInout parts = are_of_memory parts

abbrev pub fits : Option ParamKey → List (List ℕ) → Bool
fits None parts = false
fits (Some key) parts = fits_key key parts

-- `none`, `vi:A:B`, `vo`, `vio:A:B`, `mi:HEX`, `mo:LEN` or `mio:HEX`
unfoldable pub is_param : List ℕ → Bool
is_param param = fits (key_named (word (parts_of param) 0)) (drop 1 (parts_of param))

-- what it writes
abbrev pub param_of_key : ParamKey → List (List ℕ) → ScriptParam
param_of_key key.Empty parts = Empty
param_of_key key.ValueIn parts = ValueIn (hexadecimal (word parts 0)) (hexadecimal (word parts 1))
param_of_key key.ValueOut parts = ValueOut
param_of_key key.ValueInout parts = ValueInout (hexadecimal (word parts 0)) (hexadecimal (word parts 1))
param_of_key key.MemoryIn parts = MemoryIn (bytes (word parts 0))
param_of_key key.MemoryOut parts = MemoryOut (small (word parts 0))
param_of_key key.MemoryInout parts = MemoryInout (bytes (word parts 0))

abbrev pub param_of_named : Option ParamKey → List (List ℕ) → ScriptParam
param_of_named None parts = Empty
param_of_named (Some key) parts = param_of_key key parts

unfoldable pub param_of : List ℕ → ScriptParam
param_of param = param_of_named (key_named (word (parts_of param) 0)) (drop 1 (parts_of param))

-- memory has 1 to 65,536 bytes
abbrev pub has_length : ScriptParam → Bool
has_length Empty = true
has_length (ValueIn a b) = true
has_length ValueOut = true
has_length (ValueInout a b) = true
has_length (MemoryIn bytes) = is_within 1 65536 (length bytes)
has_length (MemoryOut len) = is_within 1 65536 len
has_length (MemoryInout bytes) = is_within 1 65536 (length bytes)
