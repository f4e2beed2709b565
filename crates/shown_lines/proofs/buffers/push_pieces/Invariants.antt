use Rattle.std.proofs.Common.{◌≡◌, ◌-◌, ◌*◌, ◌≤◌, ◌++◌}
use Rattle.live_play.specs.State.{piece_lines}
use Rattle.shown_lines.proofs.buffers.push_pieces.Given as goal

abbrev pub invariant-loop-page : goal.invariant-loop-page
invariant-loop-page l =
    (l.text.items ++ piece_lines (1024 - l.page) l.registry l.cookie l.offset
    ≡ l.initial.text.items ++ piece_lines 1024 l.registry l.cookie 0)
    × (l.offset ≤ l.page * 0x400000)
