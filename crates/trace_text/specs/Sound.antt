-- The limits that a trace keeps where a text spells it. This project's own.
use Rattle.std.specs.Prelude.{◌≡◌, ℕ, ◌<◌, ◌≤◌, ◌^◌, List, [], ◌∷◌, Bool, not, true, false, length, slice_index_or, All, IsTrue, IfNone, IfSome}
use Rattle.std.specs.List.{list_any}
use Rattle.std.specs.Str.{bytes_eq}
use Rattle.ns_ram.specs.Lane.{IsInRam}
use Rattle.ta_isa.specs.declared.boot.Boot.{Boot}
use Rattle.ta_isa.specs.Boots.{IsBoot}
use Rattle.trace_text.specs.declared.item.Item.{Item}
use Rattle.trace_text.specs.declared.item.Item.TheVariants as item
use Rattle.trace_text.specs.declared.item.Reg.{Reg}
use Rattle.trace_text.specs.declared.item.Reg.TheVariants.{Num, Last}
use Rattle.trace_text.specs.declared.trace.Fill.{Fill}
use Rattle.trace_text.specs.declared.trace.Trace.{Trace}
use Rattle.trace_text.specs.Limits.{cpus_of, inside_after, moved, outside}

-- a core can be booted so, and no application has the UUID of a built-in one, which have these
pub record IsSoundBoot (natives : List (List ℕ)) (boot : Boot) : Type 0 where
  pub boots : IsBoot boot
  pub no_native : All (λ app. IsTrue (not (list_any (λ native. bytes_eq native app.uuid) natives))) boot.apps

-- so many bytes at this address: some, and all of them in RAM
pub record IsPartOfRam (addr len : ℕ) : Type 0 where
  pub some : 1 ≤ len
  pub in_ram : IsInRam addr len

-- the bytes of a fill stand in RAM
abbrev pub IsSoundFill : Fill → Type 0
IsSoundFill fill = IsPartOfRam fill.addr (length fill.bytes)

-- a number of 32 bits, or one of the eight registers of the last answer
abbrev pub IsSoundReg : Reg → Type 0
IsSoundReg (Num n) = n < 2 ^ 32
IsSoundReg (Last i) = i < 8

-- one of so many processors enters, with eight registers, and is granted 1 to 1,000,000 steps
pub record IsSoundCall (cpus cpu steps : ℕ) (regs : List Reg) : Type 0 where
  pub processor : cpu < cpus
  pub some_step : 1 ≤ steps
  pub few_steps : steps ≤ 1000000
  pub eight : length regs ≡ 8
  pub registers : All IsSoundReg regs

-- an item of one of so many processors, within its limits
abbrev pub IsSoundItem : ℕ → Item → Type 0
IsSoundItem cpus (item.Smc cpu steps regs) = IsSoundCall cpus cpu steps regs
IsSoundItem cpus (item.Enter cpu steps regs) = IsSoundCall cpus cpu steps regs
IsSoundItem cpus (item.Leave cpu) = cpu < cpus
IsSoundItem cpus (item.Write cpu addr bytes) = (cpu < cpus) × IsPartOfRam addr (length bytes)
IsSoundItem cpus (item.Show cpu addr len) = (cpu < cpus) × IsPartOfRam addr len × (len ≤ 4096)

-- the item can come where these processors are inside: `smc` and `enter` of one that is outside, `leave` of one
-- that is inside
abbrev pub can_come : List Bool → Item → Bool
can_come inside (item.Smc cpu steps regs) = not (slice_index_or inside cpu false)
can_come inside (item.Enter cpu steps regs) = not (slice_index_or inside cpu false)
can_come inside (item.Leave cpu) = slice_index_or inside cpu false
can_come inside (item.Write cpu addr bytes) = true
can_come inside (item.Show cpu addr len) = true

-- each of the items can come after those before it, where at first these processors are inside
abbrev pub ComeInTurn : List Bool → List Item → Type 0
ComeInTurn inside [] = Unit {0}
ComeInTurn inside (i ∷ items) = IsTrue (can_come inside i) × ComeInTurn (moved inside i) items

-- the trace is within its limits, beside built-in applications of these UUIDs, and in the end no processor is inside
pub record IsSound (natives : List (List ℕ)) (trace : Trace) : Type 0 where
  pub no_boot : IfNone trace.boot ((trace.fills ≡ []) × (trace.items ≡ []))
  pub boot : IfSome trace.boot (IsSoundBoot natives)
  pub fills : All IsSoundFill trace.fills
  pub items : All (IsSoundItem (cpus_of trace.boot)) trace.items
  pub in_turn : ComeInTurn outside trace.items
  pub ended : inside_after trace.items ≡ outside
