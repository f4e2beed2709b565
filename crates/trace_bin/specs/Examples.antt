-- What the definitions say of small inputs.
use Rattle.std.specs.Prelude.{◌≡◌, ℕ, List, [], ◌∷◌, ◌++◌, Some, None, false, replicate, true}
use Rattle.ta_isa.specs.declared.boot.Boot.{Boot}
use Rattle.trace_text.specs.declared.fault.BadKind.TheVariants as bad
use Rattle.trace_text.specs.declared.item.Item.TheVariants.{Show}
use Rattle.trace_text.specs.Limits.{Front, first_broken, no_front, no_key, trace_in}
use Rattle.trace_bin.specs.Grammar.{magic_fault}
use Rattle.trace_bin.specs.Rules.{after_record, behind_record, record_rules}
use Rattle.trace_bin.specs.Spelling.{spelling}

abbrev pub small_boot : Boot
small_boot = record { cpus = 1; threads = 2; frames = 0x103; apps = []; key = no_key }

abbrev pub booted : Front
booted = record { boot = Some small_boot; fills = []; items = []; keyed = false }

-- the same with a key
abbrev pub key_bytes : List ℕ
key_bytes = replicate 32 7

abbrev pub keyed : Front
keyed = record { boot = Some (record small_boot { key = key_bytes }); fills = []; items = []; keyed = true }

-- a boot, and a record behind it
abbrev pub boot_bytes : List ℕ
boot_bytes = 1 ∷ 1 ∷ 2 ∷ 3 ∷ 1 ∷ []

-- the last byte of RAM
abbrev pub show_bytes : List ℕ
show_bytes = 0x14 ∷ 0 ∷ 0xff ∷ 0xff ∷ 0x3f ∷ 0x40 ∷ 0 ∷ 0 ∷ 0 ∷ 0 ∷ 1 ∷ 0 ∷ 0 ∷ 0 ∷ []

pub record Examples : Type 0 where
  pub nothing : magic_fault [] ≡ Some bad.Cut
  pub other_magic : magic_fault (0x4f ∷ 0x54 ∷ 0x54 ∷ 0x41 ∷ []) ≡ Some bad.Item
  pub magic : magic_fault (0x4f ∷ 0x54 ∷ 0x54 ∷ 0x42 ∷ 0xff ∷ []) ≡ None
  pub boot : after_record no_front (boot_bytes ++ 0x12 ∷ []) ≡ booted
  pub behind : behind_record (boot_bytes ++ 0x12 ∷ []) ≡ 0x12 ∷ []
  pub tag : first_broken (record_rules [] no_front (0 ∷ [])) ≡ Some bad.Item
  pub cut : first_broken (record_rules [] no_front (1 ∷ 9 ∷ 2 ∷ 3 ∷ [])) ≡ Some bad.Cut
  pub early : first_broken (record_rules [] no_front (0x12 ∷ 0 ∷ [])) ≡ Some bad.Place
  pub key : after_record booted (4 ∷ key_bytes ++ 0x12 ∷ []) ≡ keyed
  pub behind_key : behind_record (4 ∷ key_bytes ++ 0x12 ∷ []) ≡ 0x12 ∷ []
  pub second_key : first_broken (record_rules [] keyed (4 ∷ key_bytes)) ≡ Some bad.Place
  pub key_before_boot : first_broken (record_rules [] no_front (4 ∷ key_bytes)) ≡ Some bad.Place
  pub short_key : first_broken (record_rules [] booted (4 ∷ replicate 31 7)) ≡ Some bad.Cut
  pub shown : after_record booted show_bytes ≡ record booted { items = Show 0 0x403f_ffff 1 ∷ [] }
  pub key_written : spelling (trace_in keyed) ≡ 0x4f ∷ 0x54 ∷ 0x54 ∷ 0x42 ∷ boot_bytes ++ 4 ∷ key_bytes
  pub written : spelling (trace_in (record booted { items = Show 0 0x403f_ffff 1 ∷ [] })) ≡ 0x4f ∷ 0x54 ∷ 0x54 ∷ 0x42 ∷ boot_bytes ++ show_bytes
