use Rattle.std.proofs.Common.{◌≡◌, ◌+◌, ◌++◌}
use Rattle.std.specs.Prelude.{slice_get}
use Rattle.live_play.specs.State.{event_line, text_if, texts_below}
use Rattle.shown_lines.proofs.events.push_events.Given as goal

abbrev pub invariant-loop-number : goal.invariant-loop-number
invariant-loop-number l =
    l.text.items ≡ l.initial.text.items ++ texts_below l.number (λ number. text_if event_line (slice_get l.journal.events (l.from + number)))
