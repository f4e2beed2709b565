-- The spelling of a trace that is written: its boot, its applications, its fills and its items, each in their order.
use Rattle.std.specs.Prelude.{◌≡◌, ℕ, ◌<◌, ◌^◌, List, [], ◌∷◌, ◌++◌, length, Option, None, Some, All, IsSomeAnd, if◌then◌else◌}
use Rattle.std.specs.List.{flat_map}
use Rattle.std.specs.Str.{bytes_eq}
use Rattle.byteorder.specs.Endian.{little_bytes}
use Rattle.ta_isa.specs.declared.boot.App.{App}
use Rattle.ta_isa.specs.declared.boot.Boot.{Boot}
use Rattle.ta_isa.specs.Spelling.{spelling as image_spelling}
use Rattle.trace_text.specs.declared.item.Item.{Item}
use Rattle.trace_text.specs.declared.item.Item.TheVariants as item
use Rattle.trace_text.specs.declared.item.Reg.{Reg}
use Rattle.trace_text.specs.declared.item.Reg.TheVariants.{Num, Last}
use Rattle.trace_text.specs.declared.trace.Fill.{Fill}
use Rattle.trace_text.specs.declared.trace.Trace.{Trace}
use Rattle.trace_text.specs.Limits.{apps_of, no_key}
use Rattle.trace_text.specs.Sound.{IsSound}
use Rattle.trace_bin.specs.Grammar.{magic, Spells}

-- bytes behind their number
unfoldable pub counted : List ℕ → List ℕ
counted bytes = little_bytes 4 (length bytes) ++ bytes

abbrev pub form_of : Reg → ℕ
form_of (Num n) = 0
form_of (Last i) = 1

abbrev pub number_of : Reg → ℕ
number_of (Num n) = n
number_of (Last i) = i

-- a form, and a number of four bytes
abbrev pub register_bytes : Reg → List ℕ
register_bytes reg = form_of reg ∷ little_bytes 4 (number_of reg)

abbrev pub call_bytes : ℕ → ℕ → List Reg → List ℕ
call_bytes cpu steps regs = cpu ∷ little_bytes 4 steps ++ flat_map register_bytes regs

abbrev pub boot_record : Boot → List ℕ
boot_record boot = 0x01 ∷ boot.cpus ∷ boot.threads ∷ little_bytes 2 boot.frames

unfoldable pub app_record : App → List ℕ
app_record app = 0x02 ∷ app.uuid ++ counted (image_spelling app.image)

-- a key that isn't of zeros, which is the one of a boot without a key
abbrev pub key_records : List ℕ → List ℕ
key_records key = if bytes_eq key no_key then [] else 0x04 ∷ key

unfoldable pub fill_record : Fill → List ℕ
fill_record fill = 0x03 ∷ little_bytes 8 fill.addr ++ counted fill.bytes

-- the bytes of an item have a number of four bytes
abbrev pub IsCountable : Item → Type 0
IsCountable (item.Smc cpu steps regs) = Unit {0}
IsCountable (item.Enter cpu steps regs) = Unit {0}
IsCountable (item.Leave cpu) = Unit {0}
IsCountable (item.Write cpu addr bytes) = length bytes < 2 ^ 32
IsCountable (item.Show cpu addr len) = Unit {0}

unfoldable pub item_record : Item → List ℕ
item_record (item.Smc cpu steps regs) = 0x10 ∷ call_bytes cpu steps regs
item_record (item.Enter cpu steps regs) = 0x11 ∷ call_bytes cpu steps regs
item_record (item.Leave cpu) = 0x12 ∷ cpu ∷ []
item_record (item.Write cpu addr bytes) = 0x13 ∷ cpu ∷ little_bytes 8 addr ++ counted bytes
item_record (item.Show cpu addr len) = 0x14 ∷ cpu ∷ little_bytes 8 addr ++ little_bytes 4 len

abbrev pub boot_records : Option Boot → List ℕ
boot_records None = []
boot_records (Some boot) = boot_record boot ++ flat_map app_record boot.apps ++ key_records boot.key

abbrev pub spelling : Trace → List ℕ
spelling trace = magic ++ boot_records trace.boot ++ flat_map fill_record trace.fills ++ flat_map item_record trace.items

-- a UUID has sixteen bytes
abbrev pub IsIdentified : App → Type 0
IsIdentified app = length app.uuid ≡ 16

-- a key has 32
abbrev pub HasKey : Boot → Type 0
HasKey boot = length boot.key ≡ 32

-- what is written of a trace within its limits that has a boot is read as that trace
abbrev pub WrittenIsRead : Type 0
WrittenIsRead =
    (natives : List (List ℕ)) (trace : Trace) → IsSound natives trace → IsSomeAnd trace.boot HasKey → All IsIdentified (apps_of trace.boot) → Spells natives (spelling trace) trace
