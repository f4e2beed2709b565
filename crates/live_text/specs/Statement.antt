-- What a line of a conversation says that asks nothing, and what it adds to the lines that count.
use Rattle.std.specs.Prelude.{◌≡◌, List, Bool, false, Result}
use Rattle.live_text.specs.Rules.{LiveFront, with_told, without_history}
use Rattle.live_text.specs.Scene.{LiveScene}
use Rattle.live_text.specs.declared.line.LiveLine.{LiveLine}
use Rattle.live_text.specs.declared.line.LiveLine.TheVariants.{HistoryOff, Says}
use Rattle.notify_text.specs.Statement as told
use Rattle.trace_text.specs.Statement as trace
use Rattle.trace_text.specs.declared.fault.BadKind.{BadKind}
use Rattle.trace_text.specs.declared.fault.LineFault.{LineFault}
use Rattle.trace_text.specs.declared.statement.Statement.{Statement}
use Rattle.trace_text.specs.declared.statement.Statement.TheVariants as says

-- ---- what it adds

-- the lines behind one that says this
abbrev pub with_statement : LiveFront → Statement → LiveFront
with_statement before says.Blank = before
with_statement before (says.Boot size) = with_told before (told.with_statement before.told (says.Boot size))
with_statement before (says.App app) = with_told before (told.with_statement before.told (says.App app))
with_statement before (says.Fill fill) = with_told before (told.with_statement before.told (says.Fill fill))
with_statement before (says.Key key) = with_told before (told.with_statement before.told (says.Key key))
with_statement before (says.Item item) = with_told before (told.with_statement before.told (says.Item item))
with_statement before (says.Signal value) = with_told before (told.with_statement before.told (says.Signal value))

-- the lines with this one
abbrev pub with_line : LiveFront → LiveLine → LiveFront
with_line before (Says said) = with_statement before said
with_line before HistoryOff = without_history before

-- ---- how it is judged

-- a line was judged by these rules, behind the lines before: it keeps all of them, and says what leads to the lines after; or
-- this is the first one that it breaks; or memory ran out
abbrev pub IsJudged : Result LiveLine LineFault → List (BadKind × Bool) → LiveFront → LiveFront → Type 0
IsJudged judged rules before after = trace.IsJudgedBy with_line judged rules before after

-- it may stand here: what it says in its place, and `history off` before the boot
abbrev pub IsInPlace : LiveScene → LiveLine → Type 0
IsInPlace scene (Says said) = trace.IsInPlace scene.lines said
IsInPlace scene HistoryOff = scene.lines.is_booted ≡ false

-- a boot has at most eight processors, and an item is of one of eight
abbrev pub HasFewCpus : LiveLine → Type 0
HasFewCpus (Says said) = trace.HasFewCpus said
HasFewCpus HistoryOff = Unit {0}
