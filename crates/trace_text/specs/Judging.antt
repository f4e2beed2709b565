-- What the functions of this crate, and of those with a grammar of their own, answer in the words of the rules.
use Rattle.std.specs.Prelude.{◌≡◌, ℕ, List, [], Bool, true, false, ◌&&◌, Option, Some, None, is_none, is_some, Result, Ok, Err, unwrap_or}
use Rattle.ta_isa.specs.declared.boot.App.{App}
use Rattle.ta_isa.specs.declared.boot.Boot.{Boot}
use Rattle.ta_isa.specs.declared.image_fault.ImageFault.{ImageFault}
use Rattle.ta_isa.specs.declared.image_fault.ImageFault.TheVariants.{BadHeader, TooLarge, BadEntry, BadOp}
use Rattle.ta_isa.specs.declared.image_fault.ImageFault.TheVariants as image
use Rattle.trace_text.specs.declared.fault.BadKind.{BadKind}
use Rattle.trace_text.specs.declared.fault.BadKind.TheVariants as bad
use Rattle.trace_text.specs.declared.fault.LineFault.{LineFault}
use Rattle.trace_text.specs.declared.fault.LineFault.TheVariants.{Broken, NoRoom}
use Rattle.trace_text.specs.declared.fault.TraceFault.{TraceFault}
use Rattle.trace_text.specs.declared.fault.TraceFault.TheVariants.{Bad, Memory}
use Rattle.trace_text.specs.declared.item.Item.{Item}
use Rattle.trace_text.specs.declared.item.Item.TheVariants as item
use Rattle.trace_text.specs.declared.limits.Size.{Size}
use Rattle.trace_text.specs.declared.trace.Fill.{Fill}
use Rattle.trace_text.specs.declared.trace.Trace.{Trace}
use Rattle.trace_text.specs.Limits.{Front, SceneState, first_broken, no_key, scene_of, trace_in}

-- a word was read: it has the form, and this is what it writes; or it hasn't
abbrev pub Reads : {A : Type 0} → Option A → Bool → A → Type 0
Reads None form value = form ≡ false
Reads (Some read) form value = (form ≡ true) × (read ≡ value)

-- a word was read: it has the form, and this is what it writes; or it hasn't, and that is the fault
abbrev pub IsSaid : {A : Type 0} → Result A LineFault → BadKind → Bool → A → Type 0
IsSaid (Ok read) kind form value = (form ≡ true) × (read ≡ value)
IsSaid (Err fault) kind form value = (form ≡ false) × (fault ≡ Broken kind)

-- a part of a line was read: it keeps its rules, and this is what it says; or it broke one; or memory ran out
abbrev pub Judged : {X Y : Type 0} → (X → Y) → Result X LineFault → List (BadKind × Bool) → Y → Type 0
Judged view (Ok x) rules value = (first_broken rules ≡ None) × (view x ≡ value)
Judged view (Err (Broken kind)) rules value = first_broken rules ≡ Some kind
Judged view (Err NoRoom) rules value = Unit {0}

-- what a boot is given may stand here: behind a boot, and where that is open
abbrev pub IsPlaced : Result Unit LineFault → Bool → Bool → Type 0
IsPlaced (Ok u) booted open_there = (booted ≡ true) × (open_there ≡ true)
IsPlaced (Err fault) booted open_there = ((booted && open_there) ≡ false) × (fault ≡ Broken bad.Place)

-- what an image's fault makes of its line
abbrev pub of_image : ImageFault → LineFault
of_image (BadHeader n) = Broken bad.Image
of_image TooLarge = Broken bad.Image
of_image (BadEntry n) = Broken bad.Image
of_image (BadOp n) = Broken bad.Image
of_image image.Memory = NoRoom

-- a line's fault, with the line's place
abbrev pub placed : ℕ → LineFault → TraceFault
placed place (Broken kind) = Bad place kind
placed place NoRoom = Memory

-- the processor of an item
abbrev pub item_cpu : Item → ℕ
item_cpu (item.Smc cpu steps regs) = cpu
item_cpu (item.Enter cpu steps regs) = cpu
item_cpu (item.Leave cpu) = cpu
item_cpu (item.Write cpu addr bytes) = cpu
item_cpu (item.Show cpu addr len) = cpu

-- something was put behind what stands, or memory ran out
abbrev pub IsPut : {S : Type 0} → Result Unit LineFault → S → S → Type 0
IsPut (Ok u) wanted after = after ≡ wanted
IsPut (Err fault) wanted after = fault ≡ NoRoom

-- it ended so: without a fault, and with this value; or with a fault
abbrev pub IsEnded : {V : Type 0} → Result V BadKind → Option BadKind → V → Type 0
IsEnded (Ok told) fault value = (fault ≡ None) × (told ≡ value)
IsEnded (Err kind) fault value = fault ≡ Some kind

-- the text ends here: there is no fault, and this is its trace; or there is one
abbrev pub Ends : Result Trace BadKind → Option BadKind → Front → Type 0
Ends result fault before = IsEnded result fault (trace_in before)

-- this was read and answered, or memory ran out
abbrev pub IsUnlessMemory : {V : Type 0} → Result V TraceFault → Result V (ℕ × BadKind) → Type 0
IsUnlessMemory (Ok value) read = read ≡ Ok value
IsUnlessMemory (Err (Bad place kind)) read = read ≡ Err (place, kind)
IsUnlessMemory (Err Memory) read = Unit {0}

-- a line was taken: it keeps its rules, and leads from what stood before it to what stands after it; or it broke a rule; or
-- memory ran out
abbrev pub IsTaken : {S : Type 0} → Result Unit LineFault → List (BadKind × Bool) → S → S → Type 0
IsTaken (Ok u) rules wanted after = (first_broken rules ≡ None) × (after ≡ wanted)
IsTaken (Err (Broken kind)) rules wanted after = first_broken rules ≡ Some kind
IsTaken (Err NoRoom) rules wanted after = Unit {0}

-- the key of a boot: one of zeros where none is given
abbrev pub key_of : Option (List ℕ) → List ℕ
key_of key = unwrap_or key no_key

-- the boot of a size, its applications and a key
abbrev pub booted : Option Size → List App → Option (List ℕ) → Option Boot
booted None apps key = None
booted (Some size) apps key =
    Some (record { cpus = size.cpus; threads = size.threads; frames = size.frames; apps = apps; key = key_of key })

-- the trace of what a builder has
abbrev pub built : Option Size → List App → Option (List ℕ) → List Fill → List Item → Front
built size apps key fills items = record { boot = booted size apps key; fills = fills; items = items; keyed = is_some key }

-- what the fields of a builder keep: no application and no key before the boot, and the scene is that of the trace
pub record IsTracked (size : Option Size) (apps : List App) (key : Option (List ℕ)) (front : Front) (scene : SceneState) : Type 0 where
  pub no_apps : is_none size ≡ true → apps ≡ []
  pub no_key : is_none size ≡ true → key ≡ None
  pub scene_is : scene ≡ scene_of front
