-- What the text and the bytes of a trace have in common: what the lines or records before have set, the limits of what one
-- says, and what it adds to the trace. This project's own.
use Rattle.std.specs.Prelude.{ℕ, ◌+◌, List, [], ◌∷◌, ◌++◌, length, map, replicate, slice_index_or, slice_set, ◌==◌, nat_lt, nat_le, Bool, true, false, ◌&&◌, ◌||◌, not, if◌then◌else◌, Option, None, Some, is_none, is_some}
use Rattle.std.specs.List.{fold, list_any}
use Rattle.std.specs.Str.{bytes_eq}
use Rattle.ta_isa.specs.declared.boot.App.{App}
use Rattle.ta_isa.specs.declared.boot.Boot.{Boot}
use Rattle.ta_isa.specs.Reading.{fault_of}
use Rattle.trace_text.specs.declared.fault.BadKind.{BadKind}
use Rattle.trace_text.specs.declared.fault.BadKind.TheVariants as bad
use Rattle.trace_text.specs.declared.item.Item.{Item}
use Rattle.trace_text.specs.declared.item.Item.TheVariants as item
use Rattle.trace_text.specs.declared.trace.Fill.{Fill}
use Rattle.trace_text.specs.declared.trace.Trace.{Trace}

-- ---- what stands before

-- the trace that the lines or records so far give, and whether a key is among them: a boot has one of zeros without it
pub record Front : Type 0 where
  pub boot : Option Boot
  pub fills : List Fill
  pub items : List Item
  pub keyed : Bool

-- the trace of all of them
abbrev pub trace_in : Front → Trace
trace_in front = record { boot = front.boot; fills = front.fills; items = front.items }

-- what of it the rules of the next one look at
pub record SceneState : Type 0 where
  -- a boot stands, with so many processors
  pub is_booted : Bool
  pub cpus : ℕ
  -- the UUIDs of the applications in images
  pub apps : List (List ℕ)
  -- a key stands
  pub keyed : Bool
  -- what else a boot is given may follow
  pub is_open : Bool
  -- which processors are inside
  pub inside : List Bool

-- ---- rules

-- the kind of the first rule that isn't kept; each rule is a kind, and whether it is kept
abbrev pub first_broken : List (BadKind × Bool) → Option BadKind
first_broken [] = None
first_broken (rule ∷ rules) = if rule.1 then first_broken rules else Some rule.0

-- ---- what those before have set

-- before the first of them
abbrev pub no_front : Front
no_front = record { boot = None; fills = []; items = []; keyed = false }

-- the key of a boot without one
abbrev pub no_key : List ℕ
no_key = replicate 32 0

-- how many processors there are
abbrev pub cpus_of : Option Boot → ℕ
cpus_of None = 0
cpus_of (Some boot) = boot.cpus

abbrev pub apps_of : Option Boot → List App
apps_of None = []
apps_of (Some boot) = boot.apps

abbrev pub uuids_of : List App → List (List ℕ)
uuids_of apps = map (λ (app : App). app.uuid) apps

-- no item stands yet
abbrev pub has_no_item : List Item → Bool
has_no_item [] = true
has_no_item (i ∷ items) = false

-- which processors are inside, by number, after an item
abbrev pub moved : List Bool → Item → List Bool
moved inside (item.Smc cpu steps regs) = inside
moved inside (item.Enter cpu steps regs) = slice_set inside cpu true
moved inside (item.Leave cpu) = slice_set inside cpu false
moved inside (item.Write cpu addr bytes) = inside
moved inside (item.Show cpu addr len) = inside

-- at the start none of the eight is
abbrev pub outside : List Bool
outside = false ∷ false ∷ false ∷ false ∷ false ∷ false ∷ false ∷ false ∷ []

unfoldable pub inside_after : List Item → List Bool
inside_after items = fold moved outside items

abbrev pub is_inside : List Item → ℕ → Bool
is_inside items cpu = slice_index_or (inside_after items) cpu false

-- the scene of a trace: an item closes what a boot is given
abbrev pub scene_of : Front → SceneState
scene_of front = record {
  is_booted = is_some front.boot;
  cpus = cpus_of front.boot;
  apps = uuids_of (apps_of front.boot);
  keyed = front.keyed;
  is_open = has_no_item front.items;
  inside = inside_after front.items;
}

-- before the first line or record
abbrev pub first_scene : SceneState
first_scene = record { is_booted = false; cpus = 0; apps = []; keyed = false; is_open = true; inside = outside }

-- the fault at the end of a trace, behind all that it is read from
abbrev pub end_fault : Front → Option BadKind
end_fault before = if list_any (λ inside. inside) (inside_after before.items) then Some bad.Unended else None

-- some application, in an image or built in, has this UUID
unfoldable pub is_known : List (List ℕ) → List (List ℕ) → List ℕ → Bool
is_known natives apps id = list_any (λ app. bytes_eq app id) apps || list_any (λ native. bytes_eq native id) natives

-- ---- limits, in the order in which they are looked at

abbrev pub is_within : ℕ → ℕ → ℕ → Bool
is_within least most n = nat_le least n && nat_le n most

-- so many bytes at this address lie in the normal world's RAM, all of them
unfoldable pub lies_in_ram : ℕ → ℕ → Bool
lies_in_ram addr len = nat_le 0x4000_0000 addr && nat_le (addr + len) 0x4040_0000

-- the bytes are a valid image
unfoldable pub is_image : List ℕ → Bool
is_image image = is_none (fault_of image)

-- of a boot: its processors, thread slots and page frames
abbrev pub boot_limits : ℕ → ℕ → ℕ → List (BadKind × Bool)
boot_limits cpus threads frames =
    (bad.Range, is_within 1 8 cpus)
    ∷ (bad.Range, is_within 1 16 threads)
    ∷ (bad.Range, is_within 1 1024 frames)
    ∷ []

-- of an application in an image, behind those of these UUIDs
abbrev pub app_limits : List (List ℕ) → List (List ℕ) → List ℕ → List ℕ → List (BadKind × Bool)
app_limits natives apps id image =
    (bad.Range, nat_lt (length apps) 16)
    ∷ (bad.Repeat, not (is_known natives apps id))
    ∷ (bad.Image, is_image image)
    ∷ []

-- a key stands behind the boot, before all items, and once
abbrev pub key_place : SceneState → List (BadKind × Bool)
key_place scene = (bad.Place, scene.is_booted) ∷ (bad.Place, scene.is_open) ∷ (bad.Place, not scene.keyed) ∷ []

-- of a key of so many bytes
abbrev pub key_limits : ℕ → List (BadKind × Bool)
key_limits len = (bad.Range, len == 32) ∷ []

-- of bytes that stand in every lane at the start
abbrev pub fill_limits : ℕ → ℕ → List (BadKind × Bool)
fill_limits addr len = (bad.Range, lies_in_ram addr len) ∷ []

-- of a processor of so many
abbrev pub cpu_limits : ℕ → ℕ → List (BadKind × Bool)
cpu_limits cpus cpu = (bad.Cpu, nat_lt cpu cpus) ∷ []

-- of the processor and the steps of an entry
abbrev pub call_limits : ℕ → ℕ → ℕ → List (BadKind × Bool)
call_limits cpus cpu steps = (bad.Range, is_within 1 1000000 steps) ∷ cpu_limits cpus cpu

-- of bytes that a processor writes
abbrev pub write_limits : ℕ → ℕ → ℕ → ℕ → List (BadKind × Bool)
write_limits cpus cpu addr len = (bad.Range, lies_in_ram addr len) ∷ cpu_limits cpus cpu

-- of bytes of a processor's lane that are shown
abbrev pub show_limits : ℕ → ℕ → ℕ → ℕ → List (BadKind × Bool)
show_limits cpus cpu addr len = (bad.Range, is_within 1 4096 len) ∷ (bad.Range, lies_in_ram addr len) ∷ cpu_limits cpus cpu

-- a processor that enters is outside, where these are inside
abbrev pub comes_in : List Bool → ℕ → List (BadKind × Bool)
comes_in inside cpu = (bad.Inside, not (slice_index_or inside cpu false)) ∷ []

-- and one that leaves is inside
abbrev pub goes_out : List Bool → ℕ → List (BadKind × Bool)
goes_out inside cpu = (bad.Inside, slice_index_or inside cpu false) ∷ []

-- ---- what is added to a trace

abbrev pub with_item : Front → Item → Front
with_item before i = record before { items = before.items ++ i ∷ [] }

abbrev pub with_app : Option Boot → App → Option Boot
with_app None app = None
with_app (Some boot) app = Some (record boot { apps = boot.apps ++ app ∷ [] })

abbrev pub with_key : Option Boot → List ℕ → Option Boot
with_key None key = None
with_key (Some boot) key = Some (record boot { key = key })

-- the boot has this key
abbrev pub keyed_with : Front → List ℕ → Front
keyed_with before key = record before { boot = with_key before.boot key; keyed = true }
