-- How a line is taken where exits are watched.
use Rattle.std.specs.Prelude.{◌≡◌, ℕ, ◌<◌, List, ◌++◌, Option, None, Result, Ok, Err}
use Rattle.std.specs.List.{flat_map}
use Rattle.line_port.specs.History as heard
use Rattle.live_play.specs.Answer.{Answer, Platform, after_heard, answer_between}
use Rattle.live_play.specs.Showing.{cpu_out_by, lane_at, lines_after, platform_at, watched_line}
use Rattle.live_player.specs.Standing.{HasCome, IsWithin, StageAt, StandsAt}
use Rattle.live_player.specs.Taking.{Breaks, answer_behind, counted, ending_of}
use Rattle.live_player.specs.declared.player.LivePlayer.{LivePlayer}
use Rattle.live_player.specs.declared.stage.Stage.{Stage}
use Rattle.live_player.specs.declared.taken.Played.{Played}
use Rattle.live_player.specs.declared.taken.Played.TheVariants as outcome
use Rattle.live_player.specs.declared.taken.Taken.{Taken}
use Rattle.notify_text.specs.Statement.{with_statement}
use Rattle.trace_text.specs.declared.statement.Statement.{Statement}
use Rattle.trace_text.specs.declared.statement.Statement.TheVariants as says
use Rattle.live_text.specs.Rules.{LiveFront, with_told}
use Rattle.notify_text.specs.Rules.{NotifyFront}
use Rattle.page_set.specs.Keeping.{AreKept}
use Rattle.page_set.specs.declared.kept.KeptPages.{KeptPages}
use Rattle.trace_text.specs.Limits.{cpus_of}
use Rattle.trace_text.specs.declared.fault.LineFault.{LineFault}
use Rattle.trace_text.specs.declared.fault.LineFault.TheVariants.{Broken, NoRoom}

-- the processor that goes out by what a line says
abbrev pub cpu_going_out : Statement → Option ℕ
cpu_going_out says.Blank = None
cpu_going_out (says.Boot size) = None
cpu_going_out (says.App app) = None
cpu_going_out (says.Fill fill) = None
cpu_going_out (says.Key key) = None
cpu_going_out (says.Item i) = cpu_out_by i
cpu_going_out (says.Signal value) = None

-- of a line that was played so and counts, it was kept what stood in RAM where its exit can write
abbrev pub AreKeptFor : Played → KeptPages → List ℕ → List ℕ → Type 0
AreKeptFor (outcome.Done panic) kept before after = AreKept kept before after
AreKeptFor (outcome.Full copied) kept before after = Unit {0}

-- in the RAM of a processor, of a line that says this, behind these lines
abbrev pub KeepsFor : Platform → NotifyFront → Statement → ℕ → KeptPages → Played → Type 0
KeepsFor on before said cpu kept how = AreKeptFor how kept (lane_at on before cpu) (lane_at on (with_statement before said) cpu)

-- the stage stands behind these lines, in whose boot there is this processor
pub record CanWatch (on : Platform) (lines : NotifyFront) (cpu : ℕ) (now : Stage) : Type 0 where
  pub within : IsWithin on lines
  pub stage_at : StageAt on lines now
  pub there : cpu < cpus_of lines.trace.boot

-- the answer ends so, and the text of its lines, with the panics of exits and what they have changed between these lines and
-- those, stands behind the old text
pub record AnswersWatched (on : Platform) (before after : NotifyFront) (given : Answer) (how : Taken) (old new : List ℕ) : Type 0
  where
    pub ending : given.ending ≡ ending_of how
    pub text : new ≡ old ++ flat_map (watched_line on before after) given.lines

-- what a line says was taken
pub record WatchesOn (on : Platform) (before : LiveFront) (said : Statement) (how : Taken) (player : LivePlayer)
    (old new : List ℕ) : Type 0 where
  pub answers : AnswersWatched (platform_at on before) before.told (counted how before.told (with_statement before.told said))
      (answer_between (platform_at on before) before.told (with_statement before.told said)) how old new
  pub come : HasCome on (with_told before (counted how before.told (with_statement before.told said))) player

-- the line was taken so
pub record TakesWatched (on : Platform) (before : LiveFront) (line : List ℕ) (how : Taken) (player : LivePlayer)
    (old new : List ℕ) : Type 0 where
  pub answers : AnswersWatched (platform_at on before) before.told
      (after_heard (platform_at on before) before.told (heard.Line line)) (answer_behind on before line) how old new
  pub stands : StandsAt on (lines_after on before (heard.Line line)) player

-- by what came of the line; of want of memory nothing is said
abbrev pub Watches : Platform → LiveFront → List ℕ → Result Taken LineFault → LivePlayer → List ℕ → List ℕ → Type 0
Watches on before line (Ok how) player old new = TakesWatched on before line how player old new
Watches on before line (Err (Broken kind)) player old new = Breaks on before line kind player old new
Watches on before line (Err NoRoom) player old new = Unit {0}
