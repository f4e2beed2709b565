-- Records of a binary trace: the tag, the body, and what stands where in it. Numbers have their lowest byte first. This
-- project's own.
use Rattle.std.specs.Prelude.{ℕ, ◌+◌, ◌-◌, List, [], ◌∷◌, length, drop, slice_index, slice_range, nat_le, Bool, true, false, ◌&&◌, ◌||◌, ◌==◌, if◌then◌else◌, Option, None, Some}
use Rattle.byteorder.specs.Endian.{little_number}
use Rattle.trace_text.specs.declared.item.Reg.{Reg}
use Rattle.trace_text.specs.declared.item.Reg.TheVariants.{Num, Last}
use Rattle.trace_bin.specs.declared.record_kind.RecordKind.{RecordKind}
use Rattle.trace_bin.specs.declared.record_kind.RecordKind.TheVariants as kind

-- the tag of each kind of record
abbrev pub tag_table : List (ℕ × RecordKind)
tag_table =
    (0x01, kind.Boot)
    ∷ (0x02, kind.Ta)
    ∷ (0x03, kind.Mem)
    ∷ (0x04, kind.Key)
    ∷ (0x10, kind.Smc)
    ∷ (0x11, kind.Enter)
    ∷ (0x12, kind.Leave)
    ∷ (0x13, kind.Write)
    ∷ (0x14, kind.Show)
    ∷ []

-- the kind beside the first row of this tag
abbrev pub kind_in : List (ℕ × RecordKind) → ℕ → Option RecordKind
kind_in [] tag = None
kind_in (row ∷ rows) tag = if tag == row.0 then Some row.1 else kind_in rows tag

unfoldable pub kind_tagged : ℕ → Option RecordKind
kind_tagged tag = kind_in tag_table tag

-- how many bytes of a body have their place in each record of the kind
abbrev pub fixed_len : RecordKind → ℕ
fixed_len kind.Boot = 4
fixed_len kind.Ta = 20
fixed_len kind.Mem = 12
fixed_len kind.Key = 32
fixed_len kind.Smc = 45
fixed_len kind.Enter = 45
fixed_len kind.Leave = 1
fixed_len kind.Write = 13
fixed_len kind.Show = 13

-- whether bytes stand behind them, whose number is the last four of them
abbrev pub has_bytes : RecordKind → Bool
has_bytes kind.Boot = false
has_bytes kind.Ta = true
has_bytes kind.Mem = true
has_bytes kind.Key = false
has_bytes kind.Smc = false
has_bytes kind.Enter = false
has_bytes kind.Leave = false
has_bytes kind.Write = true
has_bytes kind.Show = false

-- the number of so many bytes at a place
abbrev pub number : ℕ → ℕ → List ℕ → ℕ
number len place body = little_number len (drop place body)

abbrev pub body_len : RecordKind → List ℕ → ℕ
body_len kind body = if has_bytes kind then fixed_len kind + number 4 (fixed_len kind - 4) body else fixed_len kind

-- the record doesn't go on behind the end
unfoldable pub is_whole : RecordKind → List ℕ → Bool
is_whole kind body = nat_le (fixed_len kind) (length body) && nat_le (body_len kind body) (length body)

-- the bytes whose number stands in front of them
abbrev pub bytes_in : RecordKind → List ℕ → List ℕ
bytes_in kind body = slice_range body (fixed_len kind) (body_len kind body)

-- where the eight registers of an entry stand in its body
abbrev pub register_places : List ℕ
register_places = 5 ∷ 10 ∷ 15 ∷ 20 ∷ 25 ∷ 30 ∷ 35 ∷ 40 ∷ []

-- a register is a form and four bytes: 0 and a number, or 1 and the number of a register of the last answer
unfoldable pub has_form : List ℕ → ℕ → Bool
has_form body place = nat_le (slice_index body place) 1

unfoldable pub is_register : List ℕ → ℕ → Bool
is_register body place = (slice_index body place == 0) || nat_le (number 4 (place + 1) body) 7

unfoldable pub register : List ℕ → ℕ → Reg
register body place = if slice_index body place == 0 then Num (number 4 (place + 1) body) else Last (number 4 (place + 1) body)
