-- How a line is taken, and what is said to it.
use Rattle.std.specs.Prelude.{◌≡◌, ℕ, List, ◌++◌, Result, Ok, Err, if◌then◌else◌}
use Rattle.std.specs.List.{flat_map}
use Rattle.line_port.specs.History as heard
use Rattle.live_play.specs.Answer.{Answer, Bad, Ending, Platform, answer_between, answer_to_line, without_lines}
use Rattle.live_play.specs.Answer as ends
use Rattle.live_play.specs.Showing.{history_ending, lines_after, platform_at}
use Rattle.live_player.specs.Standing.{HasCome, IsOpen, IsPlayedBehind, IsWithin, StageAt, StandsAt}
use Rattle.live_player.specs.declared.player.LivePlayer.{LivePlayer}
use Rattle.live_player.specs.declared.stage.Stage.{Stage}
use Rattle.live_player.specs.declared.taken.Taken.{Taken}
use Rattle.live_player.specs.declared.taken.Taken.TheVariants as taken
use Rattle.notify_text.specs.Statement.{with_statement}
use Rattle.trace_text.specs.declared.statement.Statement.{Statement}
use Rattle.trace_text.specs.declared.statement.Statement.TheVariants as says
use Rattle.live_text.specs.Rules.{LiveFront, is_history, with_told}
use Rattle.notify_player.specs.declared.player.NotifyPlayer.{NotifyPlayer}
use Rattle.notify_text.specs.Rules.{NotifyFront}
use Rattle.play_model.specs.Line.{text_of_line}
use Rattle.text_lines.specs.Words.{words_of}
use Rattle.trace_text.specs.declared.fault.BadKind.{BadKind}
use Rattle.trace_text.specs.declared.fault.LineFault.{LineFault}
use Rattle.trace_text.specs.declared.fault.LineFault.TheVariants.{Broken, NoRoom}

-- how the answer ends to a line that was taken so
abbrev pub ending_of : Taken → Ending
ending_of taken.Done = ends.Done
ending_of (taken.Full copied) = ends.Full copied

-- the answer ends so, and the text of its lines stands behind the old text
pub record Answers (given : Answer) (how : Taken) (old new : List ℕ) : Type 0 where
  pub ending : given.ending ≡ ending_of how
  pub text : new ≡ old ++ flat_map text_of_line given.lines

-- the lines that count then, of those before and those with the line
abbrev pub counted : Taken → NotifyFront → NotifyFront → NotifyFront
counted taken.Done before after = after
counted (taken.Full copied) before after = before

-- ---- a line

-- the answer to one that asks nothing
abbrev pub answer_behind : Platform → LiveFront → List ℕ → Answer
answer_behind on before line =
    if is_history (words_of line)
    then without_lines (history_ending on before line)
    else answer_to_line (platform_at on before) before.told line

-- the line was taken so, behind these lines: its answer is said, and the player stands behind the lines that count then
pub record Takes (on : Platform) (before : LiveFront) (line : List ℕ) (how : Taken) (player : LivePlayer) (old new : List ℕ)
    : Type 0 where
  pub answers : Answers (answer_behind on before line) how old new
  pub stands : StandsAt on (lines_after on before (heard.Line line)) player

-- it breaks this rule: that is its answer, and the player stands where it stood
pub record Breaks (on : Platform) (before : LiveFront) (line : List ℕ) (kind : BadKind) (player : LivePlayer)
    (old new : List ℕ) : Type 0 where
  pub answers : answer_behind on before line ≡ without_lines (Bad kind)
  pub text : new ≡ old
  pub stands : StandsAt on (lines_after on before (heard.Line line)) player

-- by what came of the line; of want of memory nothing is said
abbrev pub Judges : Platform → LiveFront → List ℕ → Result Taken LineFault → LivePlayer → List ℕ → List ℕ → Type 0
Judges on before line (Ok how) player old new = Takes on before line how player old new
Judges on before line (Err (Broken kind)) player old new = Breaks on before line kind player old new
Judges on before line (Err NoRoom) player old new = Unit {0}

-- ---- what a line says

-- what may stand only in a header stands there
abbrev pub IsPlaced : NotifyFront → Statement → Type 0
IsPlaced lines says.Blank = Unit {0}
IsPlaced lines (says.Boot size) = IsOpen lines
IsPlaced lines (says.App app) = IsOpen lines
IsPlaced lines (says.Fill fill) = IsOpen lines
IsPlaced lines (says.Key key) = IsOpen lines
IsPlaced lines (says.Item item) = Unit {0}
IsPlaced lines (says.Signal value) = Unit {0}

-- a line that says this can come behind these lines
pub record IsNext (on : Platform) (before : NotifyFront) (said : Statement) : Type 0 where
  pub within : IsWithin on before
  pub next : IsWithin on (with_statement before said)
  pub placed : IsPlaced before said

-- an item and a signal are played; what else is said waits in the header
abbrev pub played : NotifyFront → Statement → NotifyFront
played before says.Blank = before
played before (says.Boot size) = before
played before (says.App app) = before
played before (says.Fill fill) = before
played before (says.Key key) = before
played before (says.Item item) = with_statement before (says.Item item)
played before (says.Signal value) = with_statement before (says.Signal value)

-- a player has played what was said
pub record PlaysOn (on : Platform) (before : NotifyFront) (said : Statement) (how : Taken) (player : NotifyPlayer)
    (old new : List ℕ) : Type 0 where
  pub answers : Answers (answer_between on before (with_statement before said)) how old new
  pub stands : IsPlayedBehind on (counted how before (with_statement before said)) player

-- so that it stands on this stage then
pub record StagePlays (on : Platform) (before : NotifyFront) (said : Statement) (how : Taken) (now : Stage)
    (old new : List ℕ) : Type 0 where
  pub answers : Answers (answer_between on before (with_statement before said)) how old new
  pub stands : StageAt on (counted how before (played before said)) now

-- it was taken
pub record TakesOn (on : Platform) (before : LiveFront) (said : Statement) (how : Taken) (player : LivePlayer)
    (old new : List ℕ) : Type 0 where
  pub answers : Answers (answer_between (platform_at on before) before.told (with_statement before.told said)) how old new
  pub come : HasCome on (with_told before (counted how before.told (with_statement before.told said))) player
