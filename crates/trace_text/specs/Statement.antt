-- What a line says, by itself, and what follows from it: the lines so far with it, and their scene.
use Rattle.std.specs.Prelude.{◌≡◌, ◌<◌, ◌≤◌, List, [], ◌∷◌, ◌++◌, Bool, true, false, ◌&&◌, not, if◌then◌else◌, None, Some, Result, Ok, Err}
use Rattle.ta_isa.specs.declared.boot.Boot.{Boot}
use Rattle.trace_text.specs.declared.fault.BadKind.{BadKind}
use Rattle.trace_text.specs.declared.fault.LineFault.{LineFault}
use Rattle.trace_text.specs.declared.fault.LineFault.TheVariants.{Broken, NoRoom}
use Rattle.trace_text.specs.declared.item.Item.{Item}
use Rattle.trace_text.specs.declared.limits.Size.{Size}
use Rattle.trace_text.specs.declared.statement.Statement.{Statement}
use Rattle.trace_text.specs.declared.statement.Statement.TheVariants as says
use Rattle.trace_text.specs.Judging.{item_cpu}
use Rattle.trace_text.specs.Limits.{Front, SceneState, first_broken, keyed_with, moved, no_key, with_app, with_item}

-- ---- what it adds

-- a boot of this size, without applications and with the key that a boot has where none is given
abbrev pub boot_of : Size → Boot
boot_of size =
    record { cpus = size.cpus; threads = size.threads; frames = size.frames; apps = []; key = no_key }

-- the trace of the lines behind one that says this. A signal adds nothing to it
abbrev pub with_statement : Front → Statement → Front
with_statement before says.Blank = before
with_statement before (says.Boot size) = record before { boot = Some (boot_of size) }
with_statement before (says.App app) = record before { boot = with_app before.boot app }
with_statement before (says.Fill fill) = record before { fills = before.fills ++ fill ∷ [] }
with_statement before (says.Key key) = keyed_with before key
with_statement before (says.Item i) = with_item before i
with_statement before (says.Signal value) = before

-- the scene behind it
abbrev pub scene_after : SceneState → Statement → SceneState
scene_after scene says.Blank = scene
scene_after scene (says.Boot size) = record scene { is_booted = true; cpus = size.cpus; apps = [] }
scene_after scene (says.App app) = if scene.is_booted then record scene { apps = scene.apps ++ app.uuid ∷ [] } else scene
scene_after scene (says.Fill fill) = scene
scene_after scene (says.Key key) = record scene { keyed = true }
scene_after scene (says.Item i) = record scene { is_open = false; inside = moved scene.inside i }
scene_after scene (says.Signal value) = record scene { is_open = false }

-- where a signal stands behind the trace, it closes what a boot is given, as an item does
abbrev pub closed_if : Bool → SceneState → SceneState
closed_if closed scene = record scene { is_open = not closed && scene.is_open }

-- ---- where it stands

-- behind the boot, before the first item and the first signal
pub record IsInHeader (scene : SceneState) : Type 0 where
  pub booted : scene.is_booted ≡ true
  pub is_open : scene.is_open ≡ true

-- what is said here may stand here: a boot is the first of all, what else it is given stands in its header, and items and
-- signals behind it
abbrev pub IsInPlace : SceneState → Statement → Type 0
IsInPlace scene says.Blank = Unit {0}
IsInPlace scene (says.Boot size) = scene.is_booted ≡ false
IsInPlace scene (says.App app) = IsInHeader scene
IsInPlace scene (says.Fill fill) = IsInHeader scene
IsInPlace scene (says.Key key) = IsInHeader scene
IsInPlace scene (says.Item i) = scene.is_booted ≡ true
IsInPlace scene (says.Signal value) = scene.is_booted ≡ true

-- a boot has at most eight processors, and an item is of one of eight
abbrev pub HasFewCpus : Statement → Type 0
HasFewCpus says.Blank = Unit {0}
HasFewCpus (says.Boot size) = size.cpus ≤ 8
HasFewCpus (says.App app) = Unit {0}
HasFewCpus (says.Fill fill) = Unit {0}
HasFewCpus (says.Key key) = Unit {0}
HasFewCpus (says.Item i) = item_cpu i < 8
HasFewCpus (says.Signal value) = Unit {0}

-- ---- how a line is judged

-- it was judged by these rules, behind what stands before: it keeps all of them, and says what leads from that to what stands
-- after; or this is the first one that it breaks; or memory ran out
abbrev pub IsJudgedBy : {S L : Type 0} → (S → L → S) → Result L LineFault → List (BadKind × Bool) → S → S → Type 0
IsJudgedBy follow (Ok said) rules before after = (first_broken rules ≡ None) × (follow before said ≡ after)
IsJudgedBy follow (Err (Broken kind)) rules before after = first_broken rules ≡ Some kind
IsJudgedBy follow (Err NoRoom) rules before after = Unit {0}
