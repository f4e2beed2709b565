-- The spelling of a boot and its events that is written.
use Rattle.std.specs.Prelude.{ℕ, ◌+◌, List, [], ◌∷◌, ◌++◌, length, All, if◌then◌else◌}
use Rattle.std.specs.List.{flat_map}
use Rattle.std.specs.Str.{bytes_eq}
use Rattle.byteorder.specs.Endian.{little_bytes}
use Rattle.ns_ram.specs.declared.read.Read.{Read}
use Rattle.smc_abi.specs.declared.regs.Regs.{Regs}
use Rattle.ta_isa.specs.declared.boot.Boot.{Boot}
use Rattle.event_journal.specs.declared.event.Event.{Event}
use Rattle.event_journal.specs.declared.event.Event.TheVariants.{Entry, Exit}
use Rattle.trace_text.specs.Limits.{no_key}
use Rattle.trace_text.specs.Sound.{IsSoundBoot}
use Rattle.trace_bin.specs.Spelling.{app_record, boot_record, counted, HasKey, IsIdentified, key_records}
use Rattle.journal_bytes.specs.Record.{end_tag}
use Rattle.journal_bytes.specs.Grammar.{magic, Spells, Whole}
use Rattle.journal_bytes.specs.Sound.{HasRegs, IsSoundJournal}

abbrev pub regs_bytes : Regs → List ℕ
regs_bytes regs = flat_map (little_bytes 4) regs.a

-- an address, and bytes behind their number
unfoldable pub read_bytes : Read → List ℕ
read_bytes read = little_bytes 8 read.addr ++ counted read.bytes

unfoldable pub event_record : Event → List ℕ
event_record (Entry cpu regs steps reads) = 0x20 ∷ cpu ∷ regs_bytes regs ++ little_bytes 4 steps ++ little_bytes 4 (length reads) ++ flat_map read_bytes reads
event_record (Exit cpu regs) = 0x21 ∷ cpu ∷ regs_bytes regs

abbrev pub spelling : Boot → List Event → List ℕ
spelling boot events = magic ++ boot_record boot ++ flat_map app_record boot.apps ++ key_records boot.key ++ flat_map event_record events ++ end_tag ∷ []

-- how many records a key has: one, but none where it is of zeros
abbrev pub key_count : List ℕ → ℕ
key_count key = if bytes_eq key no_key then 0 else 1

-- the journal of a boot and its events, as what is written of them spells it
abbrev pub whole_with : Boot → List Event → Whole
whole_with boot events = record {
  boot = boot;
  events = events;
  used = length (spelling boot events);
  records = length boot.apps + key_count boot.key + length events + 2;
}

-- what is written of a boot and events within their limits is read as them, whatever stands behind it, beside built-in
-- applications that have none of the boot's UUIDs
abbrev pub WrittenIsRead : Type 0
WrittenIsRead =
    (natives : List (List ℕ)) (boot : Boot) (events : List Event) (behind : List ℕ) → IsSoundBoot natives boot → HasKey boot → All IsIdentified boot.apps → IsSoundJournal boot.cpus events → All HasRegs events
    → Spells natives (spelling boot events ++ behind) (whole_with boot events)

-- the bytes spell the boot and its events, beside built-in applications that have none of the boot's UUIDs
pub record SpellsBack (boot : Boot) (events : List Event) (bytes : List ℕ) : Type 0 where
  pub spelled : (natives : List (List ℕ)) → IsSoundBoot natives boot → Spells natives bytes (whole_with boot events)
