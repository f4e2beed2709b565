-- What a line of a trace with signals adds by what it says, and what the rules of the next one look at.
use Rattle.std.specs.Prelude.{◌≡◌, [], ◌∷◌, ◌++◌, false, ◌&&◌, Some, IfNone}
use Rattle.notify_text.specs.Rules.{NotifyFront, has_no_signal, with_signal}
use Rattle.trace_text.specs.Limits.{Front, SceneState, has_no_item, keyed_with, with_app, with_item}
use Rattle.trace_text.specs.Limits as trace
use Rattle.trace_text.specs.Statement.{boot_of}
use Rattle.trace_text.specs.declared.statement.Statement.{Statement}
use Rattle.trace_text.specs.declared.statement.Statement.TheVariants as says

-- the trace among these lines is this one
abbrev pub with_trace : NotifyFront → Front → NotifyFront
with_trace before told = record before { trace = told }

-- the lines behind one that says this
abbrev pub with_statement : NotifyFront → Statement → NotifyFront
with_statement before says.Blank = before
with_statement before (says.Boot size) = with_trace before (record before.trace { boot = Some (boot_of size) })
with_statement before (says.App app) = with_trace before (record before.trace { boot = with_app before.trace.boot app })
with_statement before (says.Fill fill) = with_trace before (record before.trace { fills = before.trace.fills ++ fill ∷ [] })
with_statement before (says.Key key) = with_trace before (keyed_with before.trace key)
with_statement before (says.Item item) = with_trace before (with_item before.trace item)
with_statement before (says.Signal value) = with_signal before value

-- the scene of these lines: a signal closes what a boot is given, as an item does
abbrev pub scene_of : NotifyFront → SceneState
scene_of front = record (trace.scene_of front.trace) { is_open = has_no_item front.trace.items && has_no_signal front.signals }

-- a signal stands behind a boot
abbrev pub HasBootOfSignals : NotifyFront → Type 0
HasBootOfSignals front = IfNone front.trace.boot (front.signals ≡ [])

-- what stands before the boot
pub record IsEmpty (front : NotifyFront) : Type 0 where
  pub fills : front.trace.fills ≡ []
  pub items : front.trace.items ≡ []
  pub keyed : front.trace.keyed ≡ false
  pub signals : front.signals ≡ []

-- without a boot there is nothing
abbrev pub HasItsBoot : NotifyFront → Type 0
HasItsBoot front = IfNone front.trace.boot (IsEmpty front)
