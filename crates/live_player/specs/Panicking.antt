-- The panic in which the call of a line's exit has ended.
use Rattle.std.specs.Prelude.{◌≡◌}
use Rattle.live_play.specs.Answer.{Platform}
use Rattle.live_play.specs.Panicking.{panic_between}
use Rattle.live_player.specs.declared.taken.Played.{Played}
use Rattle.live_player.specs.declared.taken.Played.TheVariants as outcome
use Rattle.live_player.specs.declared.taken.Taken.{Taken}
use Rattle.live_player.specs.declared.taken.Taken.TheVariants as taken
use Rattle.notify_text.specs.Statement.{with_statement}
use Rattle.trace_text.specs.declared.statement.Statement.{Statement}
use Rattle.notify_text.specs.Rules.{NotifyFront}

-- how a line was taken that was played so
abbrev pub taken_as : Played → Taken
taken_as (outcome.Done panic) = taken.Done
taken_as (outcome.Full copied) = taken.Full copied

-- of what a line says that counts, the panic is told in which the call of its exit has ended, or none
abbrev pub EndsIn : Platform → NotifyFront → Statement → Played → Type 0
EndsIn on before said (outcome.Done panic) = panic ≡ panic_between on before (with_statement before said)
EndsIn on before said (outcome.Full copied) = Unit {0}
