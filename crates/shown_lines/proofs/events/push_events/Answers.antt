use Rattle.std.proofs.Common.{◌+◌, ◌++◌, sym, ap₂, ◌∙◌, append-nil}
use Rattle.std.specs.Prelude.{slice_get}
use Rattle.live_play.specs.State.{event_line, text_if, texts_below}
use Rattle.shown_lines.proofs.Texts.{texts_more}
use Rattle.shown_lines.proofs.events.push_events.Goals as goal

pub loop-number-init : goal.loop-number-init
unfolding texts_below
loop-number-init c = sym (append-nil c.args.text.now.items)

pub loop-number-preserved : goal.loop-number-preserved
loop-number-preserved c =
    texts_more c.loop-number.number (λ number. text_if event_line (slice_get c.args.journal.now.events (c.args.from + number))) c.args.text.now.items c.loop-number.text.items c.push_event_at.new.text.items c.loop-number.invariant
    (c.in_ok-push_event_at.ensures
    ∙ ap₂ (λ from number. c.loop-number.text.items ++ text_if event_line (slice_get c.args.journal.now.events (from + number)))
    c.from.ensures c.from-in-loop-number.ensures)
